-- What becomes of a request leads to its answer: a refusal to itself, and a decision, which writes only what can be written, to what it does.
use Rattle.std.proofs.Common.{Result, Ok, Err}
use mathlib.Core.List.{List}
use mathlib.Core.Path.{◌≡◌, refl, sym, ◌∙◌}
use Prim.Native.Nat.{ℕ}
use lib.ListN.{length}
use Rattle.device.specs.declared.Device.{Device}
use Rattle.device.specs.declared.refusal.Refusal.{Refusal}
use Rattle.dictionary.specs.Asked as Asked
use Rattle.dictionary.specs.declared.Decision.{Decision}
use Rattle.dictionary.specs.declared.Decision.TheVariants.{Read, Write}
use Rattle.dictionary.specs.declared.Abort.{Abort}
use Rattle.sdo.specs.Frames.{request_of}
use Rattle.sdo.specs.Serve.{answer, decision_on, outcome_of, answer_to, served}
use Rattle.sdo.specs.declared.Answer.{Answer}
use Rattle.sdo.specs.declared.Outcome.TheVariants.{Refused}
use Rattle.sdo.proofs.Laws as Decisions
use Rattle.rainsheave.specs.Calls.{Settled, settled_by, sdo_answer, sdo_settled}
use Rattle.rainsheave.specs.Fixed.{SettleIs}
use Rattle.rainsheave.proofs.Promises.{by_sdo}

-- the answer that it leads to
abbrev Leads : Settled → Device → Answer → Type 0
Leads (Err refusal) d a = a ≡ answer (Refused refusal) d
Leads (Ok x) d a = Asked.Decided x × (a ≡ answer_to x d)

-- a decision is no refusal
pub settled_decision : (x : Result Decision Abort) → settled_by (outcome_of x) x ≡ Ok x
settled_decision (Ok (Read size number)) = refl
settled_decision (Ok (Write which place value)) = refl
settled_decision (Err abort) = refl

settled_leads : (d : Device) (request : List ℕ) (room : ℕ) → Leads (sdo_settled d request room) d (sdo_answer d request room)
unfolding sdo_settled served
settled_leads d request room =
    let x = decision_on d (request_of request) in
    by_sdo (λ a. Leads (settled_by a.outcome x) d a) d request room (λ refusal. refl) (λ l. rw (settled_decision x) (Decisions.decided d (request_of request), refl))

module _ {d : Device} {request before after : List ℕ} {r : Settled} (is : SettleIs d request before after r) where
  pub refusal_leads : {refusal : Refusal} → r ≡ Err refusal → sdo_answer d request (length before) ≡ answer (Refused refusal) d
  refusal_leads e = rw (sym is.result ∙ e) at (settled_leads d request (length before))

  pub decision_leads : {x : Result Decision Abort} → r ≡ Ok x → Asked.Decided x × (sdo_answer d request (length before) ≡ answer_to x d)
  decision_leads e = rw (sym is.result ∙ e) at (settled_leads d request (length before))
