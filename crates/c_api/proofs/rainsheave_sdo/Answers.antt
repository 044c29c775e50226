-- Words that hold no device are refused; of others what was settled is done.
use Rattle.std.proofs.Common.{sym, ◌∙◌}
use Rattle.rainsheave.proofs.Settling.{refusal_leads, decision_leads}
use Rattle.words.proofs.Laws.{held_words}
use Rattle.words.proofs.Written.{carried_words}
use Rattle.c_api.proofs.Calls.{holds, held, decided_number}
use Rattle.c_api.proofs.rainsheave_sdo.Goals.{in-Ok, in_default}
use Rattle.c_api.proofs.rainsheave_sdo.Goals as goal

pub carry_out-requires : goal.carry_out-requires
carry_out-requires c =
    record {
      held = held c.hold_device.ensures c.if-not-hold_device.false;
      decided = (decision_leads c.settle-settled.ensures c.in-Ok.is).0;
    }

pub returns : goal.returns
returns c =
    let tested = c.hold_device.ensures in
    let e = holds tested c.if-not-hold_device.false in
    let bytes = rw c.device_in.ensures at c.settle-settled.ensures.bytes in
    elim c.match-settled.branch [
      | in-Ok w ↦
          let leads = decision_leads c.settle-settled.ensures w.in-Ok.is in
          let answered = rw c.device_in.ensures at leads.1 in
          record {
            number = c.number_of_report.ensures ∙ rw (w.settled-is, e, answered) (sym (decided_number w.in-Ok.decision));
            words = w.device-is ∙ rw (e, answered) (w.carry_out.ensures ∙ carried_words (record { held = e }) tested.long _ leads.0);
            bytes = rw e bytes;
          }
      | in_default w ↦
          let answered = rw c.device_in.ensures at (refusal_leads c.settle-settled.ensures w.in_default.is) in
          record {
            number = c.number_of_report.ensures ∙ rw (w.settled-is, w.in_default.is, e, answered);
            words = w.device-is ∙ rw (e, answered) (sym (held_words (record { held = e }) tested.long));
            bytes = rw e bytes;
          }
    ]
