-- How long the fields are and where they start: by tests that are computed over the table.
use mathlib.Core.Path.{◌≡◌, refl, ap}
use mathlib.Core.Bool.{Bool, true, ◌||◌}
use mathlib.Core.List.{List}
use Prim.Native.Nat.{ℕ, zero, suc, ◌+◌, ◌<◌, ◌≤◌}
use native.Mathlib.Numerals.{add-one}
use native.Mathlib.Omega.{arith}
use borrow.Author.Tests.{eqb-true, leb-true}
use lib.Dec.{leb}
use lib.IntN.{ℤ}
use lib.ListN.{length, length-append, get_or-eq_default}
use lib.Seq.{length-take-le}
use Rattle.integers.specs.Words.{each, ◌is◌}
use Rattle.integers.proofs.Cases.{by_cases, by_less}
use Rattle.integers.proofs.Each.{each_at}
use Rattle.objects.specs.Places.{SETTINGS, ROWS}
use Rattle.objects.specs.Table.{objects}
use Rattle.coding.specs.Bytes.{two_bytes, four_bytes}
use Rattle.image.specs.Fields.{IMAGE_LENGTH, size_at, field_length, start, value_bytes, field_of, fields}
use Rattle.image.specs.Asked.{Starts}

-- ---- the sizes: 1, 2 or 4

pub data Sized (n : ℕ) : Type 0 where
  one : n ≡ 1 → Sized n
  two : n ≡ 2 → Sized n
  four : n ≡ 4 → Sized n

abbrev is_size_lem : ℕ → Bool
is_size_lem n = n is 1 || (n is 2 || n is 4)

sized_from_test : (n : ℕ) → is_size_lem n ≡ true → Sized n
sized_from_test n e =
    by_cases (n is 1)
    (λ p. one (eqb-true n 1 p))
    (λ p. by_cases (n is 2) (λ q. two (eqb-true n 2 q)) (λ q. four (eqb-true n 4 (simp (p, q) at e))))

pub sized : (place : ℕ) → Sized (size_at place)
unfolding each objects
sized place =
    by_less place ROWS
    (λ h. sized_from_test (size_at place) (each_at ROWS (λ k. is_size_lem (size_at k)) place refl h))
    (λ h. two (ap (λ columns. columns.4) (get_or-eq_default objects _ h)))

pub size_most : {n : ℕ} → Sized n → n ≤ 4
size_most (one e) = omega arith
size_most (two e) = omega arith
size_most (four e) = omega arith

-- ---- the starts

-- the length of an image follows from the table: it is where a field after the last one would start
pub image_length_from_table : start SETTINGS ≡ IMAGE_LENGTH
unfolding start objects
image_length_from_table = refl

pub start_next : (place : ℕ) → start (place + 1) ≡ start place + field_length place
unfolding start
start_next place = rw add-one

-- each field ends within a full image
pub field_within : (place : ℕ) → place < SETTINGS → start place + field_length place ≤ IMAGE_LENGTH
unfolding each start objects
field_within place h = leb-true _ _ (each_at SETTINGS (λ k. leb (start k + field_length k) IMAGE_LENGTH) place refl h)

-- and where it ends the next one starts
pub next_starts : {from place : ℕ} → Starts from place → (from + field_length place ≤ IMAGE_LENGTH) × (from + field_length place ≡ start (place + 1))
next_starts {place} s = rw (s.starts, start_next) (field_within place s.below, refl)

-- ---- the lengths

pub length_value : (place : ℕ) (value : ℤ) → length (value_bytes place value) ≡ size_at place
unfolding four_bytes
length_value place value = length-take-le (size_at place) _ (size_most (sized place))

pub length_field : (place : ℕ) (value : ℤ) → length (field_of place value) ≡ field_length place
unfolding field_of two_bytes
length_field place value = let v = length_value place value in omega arith

pub length_fields : (n : ℕ) (settings : List ℤ) → length (fields n settings) ≡ start n
unfolding fields start
length_fields zero settings = refl
length_fields (suc n) settings = simp (length-append, length_fields n settings, length_field)
