-- Storing and loading, of the position block: the settings come back, an image has one reading, a load changes those settings alone or nothing, and keeps a sound device sound.
use Rattle.std.proofs.Common.{Ok, Err}
use mathlib.Core.Bool.{true, not}
use mathlib.Core.List.{List}
use mathlib.Core.Logic.{◌≢◌}
use mathlib.Core.Path.{◌≡◌, refl, sym, ap, ◌∙◌}
use Prim.Native.Nat.{ℕ, ◌≤◌}
use borrow.Author.Tests.{not-false, le-ltb}
use lib.Dec.{eqb}
use lib.IntN.{ℤ}
use lib.ListN.{length, take}
use lib.Seq.{take-append_seam}
use Rattle.integers.proofs.Cases.{by_test, apart}
use Rattle.objects.specs.Places.{POSITION}
use Rattle.block.specs.Sound.{sound_settings}
use Rattle.block.specs.declared.Block.{Block}
use Rattle.block.proofs.Sound.{SettingsParts, block_parts, settings_parts, settings_from_parts, with_settings_sound}
use Rattle.device.specs.States.{DISABLED}
use Rattle.device.specs.Sound.{sound_device, Sound}
use Rattle.device.specs.declared.Device.{Device}
use Rattle.device.specs.declared.refusal.Refusal.TheVariants.{Unsound, NotFull, BadValue, NotDisabled}
use Rattle.device.proofs.Laws.{block_of_same, with_block_of_itself, block_of_sound_device, with_block_of_sound}
use Rattle.device.proofs.Refusals.{ListedRefusal}
use Rattle.image.specs.Fields.{IMAGE_LENGTH, image_of, stored_in}
use Rattle.image.specs.Load.{is_full, settings_in}
use Rattle.image.proofs.Trip.{Bytes, image_length, image_is_full, settings_stored, image_read}
use Rattle.rainsheave.specs.Calls.{change, stored_settings, store_answer, store_room, loaded, load_answer}
use Rattle.rainsheave.specs.declared.Change.{Change}

-- the settings of a sound device are sound
settings_of_lem : {d : Device} → Sound d → SettingsParts (stored_settings d)
settings_of_lem s = (block_parts (block_of_sound_device s POSITION)).settings

pub settings_are_sound : {d : Device} → Sound d → sound_settings (stored_settings d) ≡ true
settings_are_sound {d} s = settings_from_parts (stored_settings d) (settings_of_lem s)

-- what is loaded is what would be stored then
stored_of_loaded : (settings : List ℤ) (d : Device) → stored_settings (loaded settings d) ≡ settings
stored_of_loaded settings d = ap (λ (b : Block). b.settings) (block_of_same d _ POSITION)

-- ---- the settings come back

-- storing a sound device and loading the image into a sound disabled one: the settings of the first, and all else of the second
pub round_trip : {d e : Device} → Sound d → Sound e → e.state ≡ DISABLED → load_answer e (image_of (stored_settings d)) ≡ change (Ok tt) (loaded (stored_settings d) e)
unfolding load_answer
round_trip {d} {e} s t h =
    rw (t.sound, h, image_is_full (stored_settings d), settings_stored (settings_of_lem s), settings_are_sound s)

-- a store with room enough leaves the image in the room's first bytes
pub store_leaves_image : {d : Device} → Sound d → (room : List ℕ) → IMAGE_LENGTH ≤ length room → take IMAGE_LENGTH (store_room d room) ≡ image_of (stored_settings d)
unfolding store_room store_answer stored_in
store_leaves_image {d} s room h =
    rw (s.sound, le-ltb (length room) IMAGE_LENGTH h, ← image_length (stored_settings d)) (take-append_seam (image_of (stored_settings d)) _)

-- ---- a load by its cases

-- what holds of a refusal of the paper's, which hands the device back, and of a load done holds of the answer
pub by_load : (P : Change → Type 0) (d : Device) (image : List ℕ) → ((refusal : ListedRefusal) → P (change (Err refusal.0) d)) → (is_full image ≡ true → sound_settings (settings_in image) ≡ true → P (change (Ok tt) (loaded (settings_in image) d))) → P (load_answer d image)
unfolding load_answer
by_load P d image refused done =
    by_test P (sound_device d)
    (λ e. by_test P (not (eqb d.state DISABLED)) (λ f. refused (NotDisabled, refl))
    (λ f. by_test P (not (is_full image)) (λ g. refused (NotFull, refl))
    (λ g. by_test P (not (sound_settings (settings_in image))) (λ h. refused (BadValue, refl)) (λ h. done (not-false _ g) (not-false _ h)))))
    (λ e. refused (Unsound, refl))

-- an image that loads is the image of the device that it loads into: it has no other reading
pub one_reading : (d : Device) {image : List ℕ} → Bytes image → (load_answer d image).report ≡ Ok tt → image_of (stored_settings (load_answer d image).device) ≡ image
one_reading d {image} bytes =
    by_load (λ c. c.report ≡ Ok tt → image_of (stored_settings c.device) ≡ image) d image
    (λ refusal e. apart (cc))
    (λ full sound e. ap image_of (stored_of_loaded (settings_in image) d) ∙ image_read full bytes)

-- a refusal hands the given device back
pub load_refused_unchanged : (d : Device) (image : List ℕ) → (load_answer d image).report ≢ Ok tt → (load_answer d image).device ≡ d
load_refused_unchanged d image = by_load (λ c. c.report ≢ Ok tt → c.device ≡ d) d image (λ refusal h. refl) (λ full sound h. absurd (h refl))

-- a load changes no more than the settings of the position block
pub load_changes_settings_alone : (d : Device) (image : List ℕ) → (load_answer d image).device ≡ loaded (stored_settings (load_answer d image).device) d
load_changes_settings_alone d image = by_load (λ c. c.device ≡ loaded (stored_settings c.device) d) d image (λ refusal. sym (with_block_of_itself POSITION d)) (λ full sound. ap (λ (l : List ℤ). loaded l d) (sym (stored_of_loaded (settings_in image) d)))

-- a sound device stays sound
pub load_sound : {d : Device} → Sound d → (image : List ℕ) → Sound (load_answer d image).device
load_sound {d} s image =
    by_load (λ c. Sound c.device) d image (λ refusal. s)
    (λ full sound. with_block_of_sound POSITION s (with_settings_sound (block_of_sound_device s POSITION) (settings_parts (settings_in image) sound)) refl)
