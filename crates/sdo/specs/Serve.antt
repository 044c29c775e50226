-- Document 01, "SDO": what a request is answered with, and the device after it.
use Rattle.std.specs.Prelude.{Result, Ok, Err}
use Rattle.device.specs.declared.Device.{Device}
use Rattle.dictionary.specs.Decide.{read_decision, write_decision, carried_out}
use Rattle.dictionary.specs.declared.Decision.{Decision}
use Rattle.dictionary.specs.declared.Decision.TheVariants.{Read as Reading, Write}
use Rattle.dictionary.specs.declared.Abort.{Abort}
use Rattle.sdo.specs.Frames.{asks_of}
use Rattle.sdo.specs.declared.Request.{Request}
use Rattle.sdo.specs.declared.Asks.{Asks}
use Rattle.sdo.specs.declared.Asks.TheVariants.{Reads, Writes}
use Rattle.sdo.specs.declared.Outcome.{Outcome}
use Rattle.sdo.specs.declared.Outcome.TheVariants.{Read, Written, Abort as Aborted}
use Rattle.sdo.specs.declared.Answer.{Answer}

-- an outcome beside the device
abbrev pub answer : Outcome → Device → Answer
answer outcome d = record { outcome = outcome; device = d }

-- by what the command byte asks
abbrev pub decision_by : Result Asks Abort → Device → Request → Result Decision Abort
decision_by (Ok Reads) d q = read_decision d q.index q.sub
decision_by (Ok (Writes size)) d q = write_decision d q.index q.sub size q.number
decision_by (Err abort) d q = Err abort

-- what becomes of a request
unfoldable pub decision_on : Device → Request → Result Decision Abort
decision_on d q = decision_by (asks_of q.command) d q

-- the outcome of a decision
abbrev pub outcome_of : Result Decision Abort → Outcome
outcome_of (Ok (Reading size number)) = Read size number
outcome_of (Ok (Write which place x)) = Written
outcome_of (Err abort) = Aborted abort

-- the answer that a decision leads to: its outcome, and the device after it
abbrev pub answer_to : Result Decision Abort → Device → Answer
answer_to decision d = answer (outcome_of decision) (carried_out decision d)

-- the answer to a request
unfoldable pub served : Device → Request → Answer
served d q = answer_to (decision_on d q) d
