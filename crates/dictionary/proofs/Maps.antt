-- The places of the dither and of the maps: which of its values or which sub-index each is, what range it has, what is read there and which rules a write meets.
use Rattle.std.specs.Prelude.{Ok}
use mathlib.Core.Bool.{false}
use mathlib.Core.Path.{◌≡◌}
use Prim.Native.Nat.{ℕ, ◌+◌, ◌-◌, ◌≤◌, ◌<◌}
use native.Mathlib.Omega.{arith}
use borrow.Author.Tests.{lt-ltb, le-ltb}
use lib.Dec.{T, ltb}
use lib.IntN.{ℤ, pos, nat_abs}
use lib.Signed.{◌≤ℤ◌, non_neg}
use mir.Syntax.{w32}
use mir.Val.{Fits}
use Rattle.integers.specs.Words.{◌is◌}
use Rattle.integers.specs.Range.{Within}
use Rattle.integers.proofs.Linear.{ints}
use Rattle.integers.proofs.Cases.{by_cases, by_less}
use Rattle.objects.specs.Places.{SETTINGS, DITHER_TYPE, RECEIVE_MAP, TRANSMIT_MAP, SET_POINT}
use Rattle.objects.specs.Table.{row_at, InRange}
use Rattle.objects.proofs.Rules.{most_at, IsMap, map_range, receive_map, transmit_map}
use Rattle.mapping.specs.Maps.{ENTRIES, RECEIVABLE, SENDABLE, stands_at}
use Rattle.mapping.specs.Rules.{ruling_on}
use Rattle.dither.specs.Dither as Dithers
use Rattle.device.specs.declared.Device.{Device}
use Rattle.dictionary.specs.Values.{value_at}
use Rattle.dictionary.specs.Decide.{map_ruling}
use Rattle.dictionary.specs.Asked.{OfMap}
use Rattle.dictionary.proofs.Laws.{number_within}

-- ---- places

-- a place of the map whose rows begin at `first`
abbrev pub In : ℕ → ℕ → Type 0
In first place = first ≤ place × place < first + 5

abbrev pub OfReceive : ℕ → Type 0
OfReceive place = In RECEIVE_MAP place

abbrev pub OfTransmit : ℕ → Type 0
OfTransmit place = In TRANSMIT_MAP place

pub past_settings : {place : ℕ} → RECEIVE_MAP ≤ place → ltb place SETTINGS ≡ false
past_settings {place} h = le-ltb place SETTINGS (omega arith)

pub past_receive : {place : ℕ} → OfTransmit place → RECEIVE_MAP ≤ place
past_receive m = omega (arith, m.0)

-- a place of the dither
abbrev pub OfDither : ℕ → Type 0
OfDither place = DITHER_TYPE ≤ place × place < RECEIVE_MAP

-- each is one of its three values, and no two are the same
pub one_of_three : {place : ℕ} → OfDither place → place - DITHER_TYPE < 3
one_of_three m = omega (arith, m.0, m.1)

pub value_apart : {place k : ℕ} → OfDither place → OfDither k → k - DITHER_TYPE ≡ place - DITHER_TYPE → k ≡ place
value_apart m q e = omega (arith, m.0, q.0, e)

pub dither_place : {place : ℕ} → OfDither place → DITHER_TYPE + (place - DITHER_TYPE) ≡ place
dither_place m = omega (arith, m.0)

-- each is a sub-index of its map, and no two are the same
pub sub_most : {first place : ℕ} → In first place → place - first ≤ ENTRIES
sub_most m = omega (arith, m.0, m.1)

pub sub_apart : {first place k : ℕ} → In first place → In first k → k - first ≡ place - first → k ≡ place
sub_apart m q e = omega (arith, m.0, q.0, e)

-- ---- ranges

-- the numbers from 0 to the highest at a sub-index are its values
within : {low high : ℤ} {n most : ℕ} → low ≡ pos 0 → high ≡ pos most → n ≤ most → Within low high (pos n)
within l h m = rw (l, h) (record { from = omega (arith, ints); to = omega (arith, ints, m) })

module _ {first : ℕ} (map : IsMap first) {place : ℕ} (m : In first place) where
  range : ((row_at place).low ≡ pos 0) × ((row_at place).high ≡ pos (most_at (place - first)))
  range = map_range first map place m.0 m.1

  pub map_within : {n : ℕ} → n ≤ most_at (place - first) → InRange place (pos n)
  map_within h = within range.0 range.1 h

  pub sub_number : (x : ℤ) → InRange place x → T (non_neg x) × (nat_abs x ≤ most_at (place - first))
  sub_number x w = number_within x (rw (range.0, range.1) at w)

  pub from_zero : {x : ℤ} → InRange place x → pos 0 ≤ℤ x
  from_zero w = rw range.0 at w.from

-- such a number has four bytes at most, and one at sub-index 0
pub four_bytes : (sub : ℕ) {n : ℕ} → n ≤ most_at sub → Fits w32 n
four_bytes sub {n} h = record { fits = by_cases (sub is 0) (λ e. let l = rw e at h in omega arith) (λ e. let l = rw e at h in omega arith) }

pub one_byte : (sub : ℕ) {n : ℕ} → n ≤ most_at sub → sub ≡ 0 → n < 256
one_byte sub h e = let l = rw e at h in omega arith

-- of either map
pub map_number : {place : ℕ} → OfMap place → (x : ℤ) → InRange place x → T (non_neg x) × Fits w32 (nat_abs x)
map_number {place} m x w =
    by_less place TRANSMIT_MAP
    (λ l. let n = sub_number receive_map (m.from, l) x w in (n.0, four_bytes (place - RECEIVE_MAP) n.1))
    (λ l. let n = sub_number transmit_map (l, m.below) x w in (n.0, four_bytes (place - TRANSMIT_MAP) n.1))

-- ---- what is read

module _ (d : Device) (which place : ℕ) where
  pub value_of_dither : OfDither place → value_at d which place ≡ Dithers.stands_at d.dither (place - DITHER_TYPE)
  unfolding value_at
  value_of_dither m = rw (le-ltb place SETTINGS m.0, lt-ltb place RECEIVE_MAP m.1)

  pub value_of_receive : OfReceive place → value_at d which place ≡ pos (stands_at d.maps.receive (place - RECEIVE_MAP))
  unfolding value_at
  value_of_receive m = rw (past_settings m.0, le-ltb place RECEIVE_MAP m.0, lt-ltb place TRANSMIT_MAP m.1)

  pub value_of_transmit : OfTransmit place → value_at d which place ≡ pos (stands_at d.maps.transmit (place - TRANSMIT_MAP))
  unfolding value_at
  value_of_transmit m = rw (past_settings (past_receive m), le-ltb place RECEIVE_MAP (past_receive m), le-ltb place TRANSMIT_MAP m.0, lt-ltb place SET_POINT m.1)

-- ---- the rules that a write meets

module _ (d : Device) {place : ℕ} (x : ℤ) where
  pub receive_ruled : OfReceive place → map_ruling d.maps place x ≡ Ok tt → ruling_on RECEIVABLE d.maps.receive (place - RECEIVE_MAP) (nat_abs x) ≡ Ok tt
  unfolding map_ruling
  receive_ruled m e = rw (le-ltb place RECEIVE_MAP m.0, lt-ltb place TRANSMIT_MAP m.1) at e

  pub transmit_ruled : OfTransmit place → map_ruling d.maps place x ≡ Ok tt → ruling_on SENDABLE d.maps.transmit (place - TRANSMIT_MAP) (nat_abs x) ≡ Ok tt
  unfolding map_ruling
  transmit_ruled m e = rw (le-ltb place RECEIVE_MAP (past_receive m), le-ltb place TRANSMIT_MAP m.0, lt-ltb place SET_POINT m.1) at e
