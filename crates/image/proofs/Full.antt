-- What makes an image full, both ways: its length, and the header of each setting's field.
use mathlib.Core.Bool.{true, false, and-false}
use mathlib.Core.List.{List}
use mathlib.Core.Path.{◌≡◌}
use Prim.Native.Nat.{ℕ, ◌<◌}
use borrow.Author.Tests.{eq-eqb, ne_eqb, eqb-true}
use lib.Dec.{eqb}
use lib.ListN.{length}
use Rattle.integers.specs.Words.{each}
use Rattle.integers.proofs.Each.{and_split, and_both, each_at, each_fails}
use Rattle.objects.specs.Places.{SETTINGS}
use Rattle.coding.specs.Bytes.{byte_at}
use Rattle.image.specs.Fields.{IMAGE_LENGTH, tag_of, size_at, start}
use Rattle.image.specs.Load.{length_at, head_at, is_full}

module _ (image : List ℕ) where
  pub full_from_headers : length image ≡ IMAGE_LENGTH → each SETTINGS (head_at image) ≡ true → is_full image ≡ true
  unfolding is_full
  full_from_headers h e = and_both (eq-eqb _ _ h) e

  pub not_full_by_length : (length image ≡ IMAGE_LENGTH → ⊥) → is_full image ≡ false
  unfolding is_full
  not_full_by_length h = rw (ne_eqb _ _ h)

  pub not_full_by_header : (place : ℕ) → place < SETTINGS → head_at image place ≡ false → is_full image ≡ false
  unfolding is_full
  not_full_by_header place h e = simp (each_fails SETTINGS (head_at image) place h e, and-false)

module _ (image : List ℕ) (full : is_full image ≡ true) where
  parts : (eqb (length image) IMAGE_LENGTH ≡ true) × (each SETTINGS (head_at image) ≡ true)
  unfolding is_full
  parts = and_split _ _ full

  pub length_from_full : length image ≡ IMAGE_LENGTH
  length_from_full = eqb-true (length image) IMAGE_LENGTH parts.0

  pub header_from_full : (place : ℕ) → place < SETTINGS → (byte_at image (start place) ≡ tag_of place) × (length_at image (start place) ≡ size_at place)
  unfolding head_at
  header_from_full place h =
      let k = start place in
      let head = and_split (eqb (byte_at image k) (tag_of place)) (eqb (length_at image k) (size_at place)) (each_at SETTINGS (head_at image) place parts.1 h) in
      (eqb-true (byte_at image k) (tag_of place) head.0, eqb-true (length_at image k) (size_at place) head.1)
