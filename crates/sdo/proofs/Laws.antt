-- Laws that the code's proofs cite: what is decided on a request writes only values for objects that can be written.
use Rattle.std.specs.Prelude.{Result, Ok, Err}
use Rattle.device.specs.declared.Device.{Device}
use Rattle.dictionary.specs.Named.{named}
use Rattle.dictionary.specs.Decide.{read_decision}
use Rattle.dictionary.specs.Asked.{Decided}
use Rattle.dictionary.specs.declared.Abort.{Abort}
use Rattle.dictionary.proofs.Laws.{read_decided, write_decision_decided}
use Rattle.sdo.specs.Frames.{asks_of}
use Rattle.sdo.specs.Serve.{decision_by, decision_on}
use Rattle.sdo.specs.declared.Request.{Request}
use Rattle.sdo.specs.declared.Asks.{Asks}
use Rattle.sdo.specs.declared.Asks.TheVariants.{Reads, Writes}

decided_by : (a : Result Asks Abort) (d : Device) (q : Request) → Decided (decision_by a d q)
unfolding read_decision
decided_by (Ok Reads) d q = read_decided d (named q.index q.sub)
decided_by (Ok (Writes size)) d q = write_decision_decided d q.index q.sub size q.number
decided_by (Err abort) d q = record { writes = tt }

pub decided : (d : Device) (q : Request) → Decided (decision_on d q)
unfolding decision_on
decided d q = decided_by (asks_of q.command) d q
