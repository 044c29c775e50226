-- What the functions behind the exported calls ask, and what they leave: a change that the library made goes to the words.
use Rattle.std.specs.Prelude.{true, false, List, ◌≡◌, ℕ, ℤ, length, Result, Ok, Err, IsOk}
use Rattle.std.specs.Borrow.{MutBor}
use Rattle.device.specs.Numbers.{UNSOUND}
use Rattle.device.specs.declared.Device.{Device}
use Rattle.device.specs.declared.refusal.Refusal.{Refusal}
use Rattle.device.specs.declared.refusal.Refusal.TheVariants.{Unsound}
use Rattle.rainsheave.specs.Calls.{Report, number_of_report, bytes_sent}
use Rattle.rainsheave.specs.declared.Change.{Change}
use Rattle.words.specs.Words.{WORDS, device_in, hold_device, words_of}
use Rattle.words.specs.Asked.{Held}
use Rattle.c_api.specs.declared.Reading.{Reading}
use Rattle.c_api.specs.declared.Sent.{Sent}
use Rattle.c_api.specs.Exported.{reading_of}

-- refused, the device is the given one
abbrev pub Left : Report → Device → Device → Type 0
Left (Ok done) d e = Unit {0}
Left (Err refusal) d e = e ≡ d

-- words that hold a device, as many as there are for one
pub record Holding (words : List ℤ) : Type 0 where
  pub held : Held words
  pub long : length words ≡ WORDS

-- a call that leaves the device where it is refused, by the changes that it may make
abbrev pub Leaves : (Device → Change → Type 0) → Type 0
Leaves may = (before : Device) (change : Change) → may before change → Left change.report before change.device

-- a way of storing what such a call changed: the words are then those of the changed device
abbrev pub Stores : (Device → Change → Type 0) → (MutBor (List ℤ) → Device → MutBor (List ℤ) → Type 0) → Type 0
Stores may store =
    (words after : MutBor (List ℤ)) (change : Change) → Holding words.now → may (device_in words.now) change → IsOk change.report →
    store words change.device after → after.now ≡ words_of change.device

-- the words of the changed device, and the number of the report
pub record Stored (change : Change) (after : List ℤ) (r : ℕ) : Type 0 where
  pub number : r ≡ number_of_report change.report
  pub words : after ≡ words_of change.device

-- what the words then are, by the changes that a call may make of the device that they hold; words that hold none are refused
pub record Changed (may : Device → Change → Type 0) (before after : List ℤ) (r : ℕ) : Type 0 where
  pub held : hold_device before ≡ true → (change : Change) × may (device_in before) change × Stored change after r
  pub none : hold_device before ≡ false → (r ≡ UNSOUND) × (after ≡ before)

-- what is told of the words, by what a query may tell of the device that they hold
pub record Told (may : Device → Result ℤ Refusal → Type 0) (words : List ℤ) (r : Reading) : Type 0 where
  pub held : hold_device words ≡ true → (told : Result ℤ Refusal) × may (device_in words) told × (r ≡ reading_of told)
  pub none : hold_device words ≡ false → r ≡ reading_of (Err Unsound)

-- how many bytes were sent beside the number
pub record SentIs (told : Result ℕ Refusal) (r : Sent) : Type 0 where
  pub sent : r.length ≡ bytes_sent told
  pub number : r.number ≡ number_of_report told
