-- The calls for C as such a library: its states are words, and 56 of them may hold a device. It has not to be believed:
-- by `Shipped` whatever meets the contract of an exported call leaves and hands back what is answered here.
use Rattle.std.specs.Prelude.{Bool, ◌&&◌, ◌||◌, List, [], ◌≡◌, ℕ, ◌<◌, ℤ, pos, length, take, drop, if◌then◌else◌}
use Rattle.integers.specs.Words.{◌is◌, ◌below◌}
use Rattle.device.specs.Device.{fresh_device, with_state}
use Rattle.device.specs.declared.Device.{Device}
use Rattle.rainsheave.specs.Calls.{control_answer, fault_answer, tick_answer, jump_answer, receive_answer, load_answer}
use Rattle.rainsheave.specs.Fixed.{FindCodeIs}
use Rattle.rainsheave.specs.declared.Change.{Change}
use Rattle.words.specs.Words.{WORDS, words_of, device_in, hold_device}
use Rattle.c_api.specs.Exported.{FreshIs, ChangeIs, SdoIs, QueryIs, SendIs, StoreIs, FindIs}
use Rattle.promises.specs.Library.{Query, Call, Reply, Answer, Library}
use Rattle.promises.specs.Library as Asked
use Rattle.promises.specs.Image.{found}
use Rattle.promises.specs.Promises.{replied}
use Rattle.kept.specs.Ours.{answer_of, told_of, value_of}

abbrev pub holds : List ℤ → Bool
holds words = length words is WORDS && hold_device words

-- the device that words hold; where they hold none, one that is in none of the four states and so refused by 1
unfoldable pub device_of : List ℤ → Device
device_of words = if holds words then device_in words else with_state 4 fresh_device

-- the words of the device then; where they held none and have got none, they are left as they are
abbrev pub answer_in_c : Call → List ℤ → Answer (List ℤ)
answer_in_c c words =
    let a = answer_of c (device_of words) in
    record { state = if holds words || a.state.state below 4 then words_of a.state else words; reply = a.reply }

abbrev pub in_c : Library
in_c = record { State = List ℤ; fresh = words_of fresh_device; answer = answer_in_c; told = λ w. told_of (device_of w) }

-- a call on these words leaves those, and this is seen
abbrev pub Leaves : Call → List ℤ → List ℤ → Reply → Type 0
Leaves c words after reply = answer_in_c c words ≡ record { state = after; reply = reply }

abbrev pub Changes : Call → (Device → Change) → List ℤ → List ℤ → ℕ → Type 0
Changes c answer words after r = ChangeIs answer words after r → Leaves c words after (replied r [] (pos 0))

pub record Ships (words after : List ℤ) (room left : List ℕ) (r : ℕ) : Type 0 where
  pub fresh : FreshIs after → Leaves Asked.fresh words after (replied 0 [] (pos 0))
  pub control : (word : ℕ) → word < 65536 → Changes (Asked.control word) (λ d. control_answer d word) words after r
  pub fault : (code : ℕ) → code < 65536 → Changes (Asked.fault code) (λ d. fault_answer d code) words after r
  pub tick : Changes Asked.tick tick_answer words after r
  pub jump : (n : ℕ) → Changes (Asked.jump n) (λ d. jump_answer d n) words after r
  pub receive : (pdo : List ℕ) → Changes (Asked.receive pdo) (λ d. receive_answer d pdo) words after r
  pub load : (image : List ℕ) → Changes (Asked.load image) (λ d. load_answer d image) words after r
  pub sdo :
      (request : List ℕ) → SdoIs request words after room left r →
      Leaves (Asked.sdo request room) words after (replied r left (pos 0))
  pub query :
      (q : Query) (value : ℤ) → QueryIs (value_of q) words (record { value = value; number = r }) →
      Leaves (Asked.query q) words words (replied r [] value)
  pub send :
      (long : ℕ) → SendIs words room left (record { length = long; number = r }) →
      Leaves (Asked.send room) words words (replied r left (pos long))
  pub store : StoreIs words room left r → Leaves (Asked.store room) words words (replied r left (pos 0))
  pub find :
      (image : List ℕ) (tag begin long : ℕ) → FindIs image tag (record { begin = begin; length = long; number = r }) →
      Leaves (Asked.search image tag) words words (found r begin (take long (drop begin image)))
  pub code :
      (image : List ℕ) (n : ℕ) → FindCodeIs image n r
      → (answer_in_c (Asked.search image n) words).reply.number ≡ r

abbrev pub Shipped : Type 0
Shipped = (words after : List ℤ) (room left : List ℕ) (r : ℕ) → length words ≡ WORDS → Ships words after room left r
