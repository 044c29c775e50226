-- No call refuses by a number of a caller's own, nor aborts by a code of one: each of the answers is read down to its cases.
use Rattle.std.specs.Prelude.{Result, Ok, Err}
use mathlib.Core.Bool.{true, not}
use mathlib.Core.List.{List}
use mathlib.Core.Path.{◌≡◌, refl}
use Prim.Native.Nat.{ℕ}
use lib.Dec.{eqb, ltb}
use lib.IntN.{ℤ}
use lib.ListN.{length}
use Rattle.integers.proofs.Cases.{by_test}
use Rattle.mapping.specs.Maps.{map_length}
use Rattle.image.specs.Fields.{IMAGE_LENGTH}
use Rattle.device.specs.Sound.{sound_device}
use Rattle.device.specs.declared.Device.{Device}
use Rattle.device.specs.declared.refusal.Refusal.{Refusal}
use Rattle.device.proofs.Refusals.{listed_refusal}
use Rattle.dictionary.specs.declared.Abort.{Abort}
use Rattle.dictionary.specs.declared.Decision.{Decision}
use Rattle.dictionary.specs.declared.Decision.TheVariants.{Read as Reading, Write}
use Rattle.dictionary.proofs.Aborts.{listed_abort, AbortListed}
use Rattle.sdo.specs.Frames.{request_of}
use Rattle.sdo.specs.Serve.{decision_on, outcome_of, served}
use Rattle.sdo.specs.declared.Outcome.{Outcome}
use Rattle.sdo.specs.declared.Outcome.TheVariants.{Read, Written, Abort as Aborted, Refused}
use Rattle.sdo.proofs.Aborts.{decision_listed}
use Rattle.rainsheave.specs.Calls.{Settled, changed, query_answer, tick_answer, jump_answer, control_answer, fault_answer, receive_answer, load_answer, send_answer, store_answer, sdo_answer, settled_by, sdo_settled}
use Rattle.rainsheave.specs.declared.Change.{Change}
use Rattle.rainsheave.proofs.Promises.{by_sdo}
use Rattle.rainsheave.proofs.Images.{by_load}

-- what is told, or a refusal of the paper's
abbrev pub RefusalListed : {A : Type 0} → Result A Refusal → Type 0
RefusalListed (Ok told) = Unit {0}
RefusalListed (Err refusal) = listed_refusal refusal ≡ true

-- ---- what changes nothing

pub query_listed : (d : Device) (value : ℤ) → RefusalListed (query_answer d value)
unfolding query_answer
query_listed d value = by_test RefusalListed (sound_device d) (λ e. tt) (λ e. refl)

pub send_listed : (d : Device) (room : ℕ) → RefusalListed (send_answer d room)
unfolding send_answer
send_listed d room =
    by_test RefusalListed (not (sound_device d)) (λ e. refl)
    (λ e. by_test RefusalListed (ltb room (map_length d.maps.transmit)) (λ f. refl) (λ f. tt))

pub store_listed : (d : Device) (room : ℕ) → RefusalListed (store_answer d room)
unfolding store_answer
store_listed d room =
    by_test RefusalListed (not (sound_device d)) (λ e. refl)
    (λ e. by_test RefusalListed (ltb room IMAGE_LENGTH) (λ f. refl) (λ f. tt))

-- ---- changes

abbrev pub ReportListed : Change → Type 0
ReportListed c = RefusalListed c.report

changed_listed : (d : Device) (c : Change) → ReportListed c → ReportListed (changed d c)
changed_listed d c h = by_test ReportListed (sound_device d) (λ e. h) (λ e. refl)

pub tick_listed : (d : Device) → ReportListed (tick_answer d)
unfolding tick_answer
tick_listed d = changed_listed d _ tt

pub jump_listed : (d : Device) (n : ℕ) → ReportListed (jump_answer d n)
unfolding jump_answer
jump_listed d n = changed_listed d _ tt

pub control_listed : (d : Device) (word : ℕ) → ReportListed (control_answer d word)
unfolding control_answer
control_listed d word = changed_listed d _ tt

pub fault_listed : (d : Device) (code : ℕ) → ReportListed (fault_answer d code)
unfolding fault_answer
fault_listed d code = changed_listed d _ (by_test ReportListed (eqb code 0) (λ e. refl) (λ e. tt))

pub receive_listed : (d : Device) (pdo : List ℕ) → ReportListed (receive_answer d pdo)
unfolding receive_answer
receive_listed d pdo = changed_listed d _ (by_test ReportListed (ltb (length pdo) (map_length d.maps.receive)) (λ e. refl) (λ e. tt))

pub load_listed : (d : Device) (image : List ℕ) → ReportListed (load_answer d image)
load_listed d image = by_load ReportListed d image (λ refusal. refusal.1) (λ full sound. tt)

-- ---- requests

abbrev pub OutcomeListed : Outcome → Type 0
OutcomeListed (Read size number) = Unit {0}
OutcomeListed Written = Unit {0}
OutcomeListed (Aborted abort) = listed_abort abort ≡ true
OutcomeListed (Refused refusal) = listed_refusal refusal ≡ true

-- a decision's outcome
pub outcome_listed : (x : Result Decision Abort) → AbortListed x → OutcomeListed (outcome_of x)
outcome_listed (Ok (Reading size number)) h = tt
outcome_listed (Ok (Write which place value)) h = tt
outcome_listed (Err abort) h = h

pub sdo_listed : (d : Device) (request : List ℕ) (room : ℕ) → OutcomeListed (sdo_answer d request room).outcome
unfolding served
sdo_listed d request room =
    by_sdo (λ a. OutcomeListed a.outcome) d request room (λ refusal. refusal.1)
    (λ l. outcome_listed (decision_on d (request_of request)) (decision_listed d (request_of request)))

abbrev pub SettledListed : Settled → Type 0
SettledListed (Ok decision) = AbortListed decision
SettledListed (Err refusal) = listed_refusal refusal ≡ true

settled_listed : (o : Outcome) (x : Result Decision Abort) → OutcomeListed o → AbortListed x → SettledListed (settled_by o x)
settled_listed (Refused refusal) x h j = h
settled_listed (Read size number) x h j = j
settled_listed Written x h j = j
settled_listed (Aborted abort) x h j = j

pub settle_listed : (d : Device) (request : List ℕ) (room : ℕ) → SettledListed (sdo_settled d request room)
unfolding sdo_settled
settle_listed d request room = settled_listed _ (decision_on d (request_of request)) (sdo_listed d request room) (decision_listed d (request_of request))
