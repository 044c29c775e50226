-- What the request was settled to leads to the answer, and the room is as it was left then.
use Rattle.std.proofs.Common.{sym, ◌∙◌}
use Rattle.rainsheave.proofs.Settling.{refusal_leads, decision_leads}
use Rattle.rainsheave.proofs.sdo.Goals as goal

pub answer_to-requires : goal.answer_to-requires
answer_to-requires c = (decision_leads c.settle.ensures c.in-Ok.is).0

pub returns-in-Err : goal.returns-in-Err
returns-in-Err c =
    record {
      result = c.refused_request.ensures ∙ sym (refusal_leads c.settle.ensures c.in-Err.is);
      bytes = c.settle.ensures.bytes;
    }

pub returns-in-Ok : goal.returns-in-Ok
returns-in-Ok c =
    record {
      result = c.answer_to.ensures ∙ sym (decision_leads c.settle.ensures c.in-Ok.is).1;
      bytes = c.settle.ensures.bytes;
    }
