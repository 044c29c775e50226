-- There and back: an image is full and has the settings that were stored, and a full image is the image of the settings in it. Both go field by field.
use mathlib.Core.Bool.{true}
use mathlib.Core.List.{List}
use mathlib.Core.Path.{◌≡◌, refl, sym, ◌∙◌}
use Prim.Native.Nat.{ℕ, zero, suc, ◌+◌, ◌≤◌, ◌<◌}
use native.Mathlib.Omega.{arith}
use borrow.Author.Tests.{eq-eqb}
use lib.IntN.{ℤ, pos}
use lib.ListN.{length, take, drop}
use lib.Seq.{drop-drop, ext_get_or, take-add, take_all}
use Rattle.integers.proofs.Each.{and_both, each_all}
use Rattle.objects.specs.Places.{SETTINGS}
use Rattle.objects.specs.Table.{row_at}
use Rattle.coding.specs.Bytes.{byte_at}
use Rattle.coding.specs.Coding.{number_of}
use Rattle.coding.proofs.Laws.{held, number_below, there_and_back, back_and_there, low_bytes}
use Rattle.coding.proofs.Bytes.{bytes_of_two}
use Rattle.coding.proofs.Rows.{row_typed}
use Rattle.block.specs.Block.{at}
use Rattle.block.proofs.Sound.{SettingsParts}
use Rattle.image.specs.Fields.{IMAGE_LENGTH, HEADER, size_at, field_length, start, value_bytes, field_of, fields, image_of}
use Rattle.image.specs.Load.{head_at, is_full, four_at, value_in_image, values_in, settings_in}
use Rattle.image.proofs.Lengths.{sized, size_most, image_length_from_table, field_within, length_fields}
use Rattle.image.proofs.LowBytes.{bytes_from, number_from_bytes, bytes_from_number}
use Rattle.image.proofs.Loaded.{values_length, value_at_lem}
use Rattle.image.proofs.Full.{full_from_headers, length_from_full, header_from_full}
use Rattle.image.proofs.Split.{image_begins, tag_in, length_in, value_in}

-- ---- an image is full

pub image_length : (s : List ℤ) → length (image_of s) ≡ IMAGE_LENGTH
unfolding image_of
image_length s = length_fields SETTINGS s ∙ image_length_from_table

pub image_is_full : (s : List ℤ) → is_full (image_of s) ≡ true
unfolding head_at
image_is_full s = full_from_headers (image_of s) (image_length s) (each_all SETTINGS (head_at (image_of s)) head)
  where
    head : (place : ℕ) → place < SETTINGS → head_at (image_of s) place ≡ true
    head place h = let b = image_begins s place h in and_both (eq-eqb _ _ (tag_in b)) (eq-eqb _ _ (length_in b))

-- ---- an image has the settings that were stored

value_stored : {s : List ℤ} → SettingsParts s → (place : ℕ) → place < SETTINGS → value_in_image (image_of s) place ≡ at s place
unfolding value_in_image
value_stored {s} sound place h =
    let size = size_at place in
    let k = start place + HEADER in
    let typed = row_typed place (omega arith) (sound.ranged place h) in
    let inside = field_within place h in
    let long = image_length s in
    let bytes = sym (bytes_from size (image_of s) k (size_most (sized place)) (omega arith)) ∙ value_in (image_begins s place h) in
    let low = number_from_bytes (sized place) (number_of size (at s place)) _ _ _ _ (number_below (held typed)) bytes in
    sym (low_bytes size (row_at place).signed (four_at (image_of s) k)) ∙ rw low (there_and_back typed)

pub settings_stored : {s : List ℤ} → SettingsParts s → settings_in (image_of s) ≡ s
unfolding settings_in
settings_stored {s} sound =
    let long = values_length SETTINGS (image_of s) in
    ext_get_or (pos 0) (values_in SETTINGS (image_of s)) s (long ∙ sym sound.long)
    (λ k l. let h : k < SETTINGS = omega arith in value_at_lem SETTINGS k (image_of s) h ∙ value_stored sound k h)

-- ---- a full image is the image of the settings in it

-- every element is a byte
pub record Bytes (image : List ℕ) : Type 0 where
  pub below : (k : ℕ) → byte_at image k < 256

module _ {image : List ℕ} (full : is_full image ≡ true) (bytes : Bytes image) where
  value_read : (place : ℕ) → place < SETTINGS
      → value_bytes place (value_in_image image place) ≡ take (size_at place) (drop (start place + HEADER) image)
  unfolding value_in_image
  value_read place h =
      let k = start place + HEADER in
      let inside = field_within place h in
      let long = length_from_full image full in
      rw back_and_there
      (bytes_from_number (sized place) (bytes.below k) (bytes.below (k + 1)) (bytes.below (k + 2)) (bytes.below (k + 3))
      ∙ sym (bytes_from (size_at place) image k (size_most (sized place)) (omega arith)))

  -- a field of the image is the field of the value in it
  field_read : (place : ℕ) → place < SETTINGS → field_of place (value_in_image image place) ≡ take (field_length place) (drop (start place) image)
  unfolding field_of
  field_read place h =
      let k = start place in
      let inside = field_within place h in
      let long = length_from_full image full in
      let head = header_from_full image full place h in
      let two = bytes_of_two (bytes.below (k + 1)) (bytes.below (k + 2)) in
      rw (take-add HEADER (size_at place), drop-drop, bytes_from HEADER image k (omega arith) (omega arith), value_read place h, ← head.0, ← head.1, two)

  fields_read : (n : ℕ) → n ≤ SETTINGS → fields n (settings_in image) ≡ take (start n) image
  unfolding fields start settings_in
  fields_read zero h = refl
  fields_read (suc n) h =
      rw (fields_read n (omega arith), value_at_lem SETTINGS n image (omega arith), field_read n (omega arith)) (sym (take-add (start n) (field_length n) image))

  pub image_read : image_of (settings_in image) ≡ image
  unfolding image_of
  image_read = fields_read SETTINGS (omega arith) ∙ take_all (start SETTINGS) image (rw (image_length_from_table, length_from_full image full) (omega arith))
