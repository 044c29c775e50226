-- From what a call found to what it is fixed to leave: words that hold no device are refused; of others the library's answer is stored.
use Rattle.std.proofs.Common.{Result, Ok, Err, is_ok}
use mathlib.Core.Bool.{Bool, true, false}
use mathlib.Core.List.{List}
use mathlib.Core.Path.{◌≡◌, refl, sym, ap, ◌∙◌}
use lib.IntN.{ℤ}
use lib.ListN.{length}
use Rattle.objects.specs.Places.{SETTINGS, POSITION}
use Rattle.device.specs.Device.{block_of, with_block_of}
use Rattle.device.specs.Kept.{SameSettings}
use Rattle.device.specs.declared.Device.{Device}
use Rattle.dictionary.specs.declared.Decision.{Decision}
use Rattle.dictionary.specs.declared.Decision.TheVariants.{Read, Write}
use Rattle.dictionary.specs.declared.Abort.{Abort}
use Rattle.sdo.specs.Frames.{number_handed_back}
use Rattle.sdo.specs.Serve.{outcome_of}
use Rattle.rainsheave.specs.Calls.{Report}
use Rattle.rainsheave.specs.declared.Change.{Change}
use Rattle.words.specs.Words.{words_of, device_in, hold_device}
use Rattle.words.specs.Stored.{with_set_points, moved_in, set_points_in, position_block_in}
use Rattle.integers.proofs.Cases.{apart}
use Rattle.words.specs.Asked.{Tested, Held}
use Rattle.words.proofs.Laws.{held_sized, held_words, moved_words, position_block_words}
use Rattle.words.proofs.Written.{set_points_words, pointed_sized}
use Rattle.c_api.specs.Asked.{Left, Holding}
use Rattle.c_api.proofs.Answers.{Moves, Receives, Loads}

-- what the test tells
module _ {words : List ℤ} {t : Bool} (tested : Tested words t) where
  pub holds : t ≡ true → hold_device words ≡ true
  holds e = sym tested.result ∙ e

  pub held : t ≡ true → Held words
  held e = record { held = holds e }

-- ---- a call that changes the device

-- done, what is stored makes the words those of the changed device
same_words : {words : List ℤ} → Holding words → words_of (device_in words) ≡ words
same_words h = held_words h.held h.long

module _ {words after : List ℤ} {c answer : Change} (h : Holding words) (e : c ≡ answer) where
  pub stored_moved : Moves (device_in words) answer → after ≡ moved_in c.device words → after ≡ words_of c.device
  stored_moved m f =
      let moves : SameSettings c.device (device_in words) = rw e m.moves in
      f ∙ rw (same_words h) at (moved_words (held_sized words) moves)

  pub stored_received : Receives (device_in words) answer → after ≡ moved_in c.device (set_points_in c.device words) → after ≡ words_of c.device
  stored_received m f =
      let s = held_sized words in
      let points = rw (same_words h) at (set_points_words (device_in words) c.device s) in
      let moves : SameSettings c.device (with_set_points c.device (device_in words)) = rw e m.moves in
      f ∙ rw points (moved_words (pointed_sized (device_in words) c.device s) moves)

  pub stored_loaded : Loads (device_in words) answer → length (block_of POSITION answer.device).settings ≡ SETTINGS → after ≡ position_block_in c.device words → after ≡ words_of c.device
  stored_loaded m l f =
      let long : length (block_of POSITION c.device).settings ≡ SETTINGS = rw e l in
      let loads : c.device ≡ with_block_of POSITION (block_of POSITION c.device) (device_in words) = rw e m.loads in
      let block = rw (same_words h) at (position_block_words (device_in words) c.device (held_sized words) long) in
      f ∙ block ∙ ap words_of (sym loads)

-- a refusal leaves the device
pub left_same : (report : Report) {d e : Device} → is_ok report ≡ false → Left report d e → e ≡ d
left_same (Ok done) f left = apart (cc)
left_same (Err refusal) f left = left

-- ---- a request

-- what was decided is no refusal
pub decided_number : (x : Result Decision Abort) → number_handed_back (outcome_of x) ≡ 0
decided_number (Ok (Read size number)) = refl
decided_number (Ok (Write which place value)) = refl
decided_number (Err abort) = refl
