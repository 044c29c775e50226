-- The contracts of the library's calls and its answers in Ours.antt: whatever meets the contract of a call is what is
-- answered there, state, number, room, value and part. So `answer_of` has not to be believed either.
use Rattle.std.specs.Prelude.{List, [], ◌≡◌, ℕ, ◌+◌, ◌<◌, ℤ, pos, Result}
use Rattle.device.specs.declared.Device.{Device}
use Rattle.device.specs.declared.refusal.Refusal.{Refusal}
use Rattle.sdo.specs.Frames.{number_handed_back}
use Rattle.sdo.specs.declared.Answer as Served
use Rattle.rainsheave.specs.Calls.{Report, number_of_report, value_told, bytes_sent}
use Rattle.rainsheave.specs.Fixed.{FreshIs, SdoIs, ControlIs, FaultIs, TickIs, JumpIs, ReceiveIs, SendIs, StoreIs}
use Rattle.rainsheave.specs.Fixed.{StateIs, StatusIs, ErrorIs, PositionIs, TargetIs, CommandIs, TicksToGoIs}
use Rattle.rainsheave.specs.Fixed.{LoadIs, FindIs, FindCodeIs}
use Rattle.rainsheave.specs.declared.Change.{Change}
use Rattle.promises.specs.Library.{Call, Reply, Answer}
use Rattle.promises.specs.Library as Calls
use Rattle.promises.specs.Image.{found}
use Rattle.promises.specs.Promises.{replied}
use Rattle.kept.specs.Ours.{changing, answer_of}

-- a call answers with this device, and this is seen
abbrev pub Answers : Call → Device → Device → Reply → Type 0
Answers c d after reply = answer_of c d ≡ record { state = after; reply = reply }

-- a query tells this
abbrev pub Tells : Calls.Query → Device → Result ℤ Refusal → Type 0
Tells q d r = Answers (Calls.query q) d d (replied (number_of_report r) [] (value_told r))

pub record Contracted (d : Device) : Type 1 where
  pub fresh : (r : Device) → FreshIs r → Answers Calls.fresh d r (replied 0 [] (pos 0))
  pub sdo :
      (request room left : List ℕ) (r : Served.Answer) → SdoIs d request room left r →
      Answers (Calls.sdo request room) d r.device (replied (number_handed_back r.outcome) left (pos 0))
  -- a control word and a fault code have 16 bits
  pub control :
      (word : ℕ) (r : Change) → word < 65536 → ControlIs d word r → answer_of (Calls.control word) d ≡ changing r
  pub fault : (code : ℕ) (r : Change) → code < 65536 → FaultIs d code r → answer_of (Calls.fault code) d ≡ changing r
  pub tick : (r : Change) → TickIs d r → answer_of Calls.tick d ≡ changing r
  pub jump : (n : ℕ) (r : Change) → JumpIs d n r → answer_of (Calls.jump n) d ≡ changing r
  pub state : (r : Result ℤ Refusal) → StateIs d r → Tells Calls.state d r
  pub status : (r : Result ℤ Refusal) → StatusIs d r → Tells Calls.status d r
  pub error : (r : Result ℤ Refusal) → ErrorIs d r → Tells Calls.error d r
  pub position : (r : Result ℤ Refusal) → PositionIs d r → Tells Calls.position d r
  pub target : (r : Result ℤ Refusal) → TargetIs d r → Tells Calls.target d r
  pub command : (r : Result ℤ Refusal) → CommandIs d r → Tells Calls.command d r
  pub ticks_to_go : (r : Result ℤ Refusal) → TicksToGoIs d r → Tells Calls.ticks_to_go d r
  pub receive : (pdo : List ℕ) (r : Change) → ReceiveIs d pdo r → answer_of (Calls.receive pdo) d ≡ changing r
  pub send :
      (room left : List ℕ) (r : Result ℕ Refusal) → SendIs d room left r →
      Answers (Calls.send room) d d (replied (number_of_report r) left (pos (bytes_sent r)))
  pub store :
      (room left : List ℕ) (r : Report) → StoreIs d room left r →
      Answers (Calls.store room) d d (replied (number_of_report r) left (pos 0))
  pub load : (bytes : List ℕ) (r : Change) → LoadIs d bytes r → answer_of (Calls.load bytes) d ≡ changing r
  -- `find` hands back the part that begins so far after the image, of the same block of memory; `find_code` the number
  pub find :
      {P : Type 0} (bytes : List ℕ) (tag number : ℕ) (memory memory' : P) (place begin : ℕ) (part : List ℕ) →
      FindIs bytes tag memory place part memory' (place + begin) → FindCodeIs bytes tag number →
      Answers (Calls.search bytes tag) d d (found number begin part)
