-- Words that are numbers from zero up, and that words which hold a device hold its numbers.
use mathlib.Core.Bool.{true}
use mathlib.Core.List.{List}
use mathlib.Core.Path.{◌≡◌}
use Prim.Native.Nat.{ℕ, ◌+◌, ◌^◌, ◌≤◌, ◌<◌}
use native.Mathlib.Omega.{arith}
use lib.Dec.{T, lit<}
use lib.IntN.{ℤ, pos, nat_abs}
use lib.Signed.{non_neg, pos-nat_abs}
use mir.Syntax.{Width, w64}
use mir.Val.{Fits, SFits, bits, to_z, of_z}
use mir.Facts.{to_z-of_z}
use Rattle.integers.proofs.Each.{and_split}
use Rattle.objects.proofs.Rules.{lies_within}
use Rattle.dictionary.proofs.Laws.{number_within}
use Rattle.words.specs.Words.{SELECTED, STATE, CONTROL_WORD, ERROR_CODE, PHASE, RECEIVE, TRANSMIT, WORDS, ONE_BYTE, TWO_BYTES, FOUR_BYTES, word, number, is_number, hold_map, hold_device}
use Rattle.words.specs.Asked.{HeldMap, Held}

-- the place of a word that is a number up to the most
pub record Number (words : List ℤ) (k : ℕ) (most : ℤ) : Type 0 where
  pub below : k < WORDS
  pub up_to : is_number words k most ≡ true

module _ {words : List ℤ} {k most : ℕ} (n : Number words k (pos most)) where
  pub as_number : T (non_neg (word words k)) × (number words k ≤ most)
  as_number = number_within {most = most} (word words k) (lies_within _ _ _ n.up_to)

  -- it is the word of its number
  pub number_word : pos (number words k) ≡ word words k
  number_word = pos-nat_abs (word words k) as_number.0

  -- and fits a type that holds all up to the most
  pub number_fits : {w : Width} → SFits w64 (word words k) → most < 2 ^ bits w → T (non_neg (to_z w64 (of_z w64 (word words k)))) × Fits w (nat_abs (to_z w64 (of_z w64 (word words k))))
  number_fits f h = simp (to_z-of_z f) (as_number.0, record { fits = omega (arith, as_number.1) })

-- the numbers of a map
pub record MapNumbers (words : List ℤ) (from : ℕ) : Type 0 where
  pub count : Number words from (pos ONE_BYTE)
  pub first : Number words (from + 1) (pos FOUR_BYTES)
  pub second : Number words (from + 2) (pos FOUR_BYTES)
  pub third : Number words (from + 3) (pos FOUR_BYTES)
  pub fourth : Number words (from + 4) (pos FOUR_BYTES)

pub map_numbers : {words : List ℤ} {from : ℕ} → HeldMap words from → MapNumbers words from
unfolding hold_map
map_numbers {words} {from} h =
    let b : from + 4 < WORDS = h.mapped.below in
    let b₀ : from < WORDS = omega arith in
    let b₁ : from + 1 < WORDS = omega arith in
    let b₂ : from + 2 < WORDS = omega arith in
    let b₃ : from + 3 < WORDS = omega arith in
    let all = and_split _ _ h.held in
    let entries = and_split _ _ all.1 in
    let low = and_split _ _ entries.0 in
    let high = and_split _ _ entries.1 in
    record {
      count = record { below = b₀; up_to = all.0 };
      first = record { below = b₁; up_to = low.0 };
      second = record { below = b₂; up_to = low.1 };
      third = record { below = b₃; up_to = high.0 };
      fourth = record { below = b; up_to = high.1 };
    }

-- and of a device
pub record DeviceNumbers (words : List ℤ) : Type 0 where
  pub selected : Number words SELECTED (pos ONE_BYTE)
  pub state : Number words STATE (pos ONE_BYTE)
  pub control : Number words CONTROL_WORD (pos TWO_BYTES)
  pub error : Number words ERROR_CODE (pos TWO_BYTES)
  pub phase : Number words PHASE (pos FOUR_BYTES)
  pub receive : HeldMap words RECEIVE
  pub transmit : HeldMap words TRANSMIT

pub device_numbers : {words : List ℤ} → Held words → DeviceNumbers words
unfolding hold_device
device_numbers {words} h =
    let all = and_split _ _ h.held in
    let first = and_split _ _ all.0 in
    let bytes = and_split _ _ first.0 in
    let twos = and_split _ _ first.1 in
    let later = and_split _ _ all.1 in
    let maps = and_split _ _ later.1 in
    record {
      selected = record { below = lit< tt; up_to = bytes.0 };
      state = record { below = lit< tt; up_to = bytes.1 };
      control = record { below = lit< tt; up_to = twos.0 };
      error = record { below = lit< tt; up_to = twos.1 };
      phase = record { below = lit< tt; up_to = later.0 };
      receive = record { mapped = record { below = lit< tt }; held = maps.0 };
      transmit = record { mapped = record { below = lit< tt }; held = maps.1 };
    }
