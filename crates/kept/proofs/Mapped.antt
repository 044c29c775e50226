-- The maps of a device as they are told: what stands at a sub-index is the number of entries, or an entry. So the entries that a map counts
-- are the device's, and each may be mapped.
use mathlib.Core.Bool.{true}
use mathlib.Core.List.{List, [], ◌∷◌}
use mathlib.Core.Path.{◌≡◌, refl, ap, ◌∙◌}
use Prim.Native.Nat.{ℕ, ◌+◌, ◌-◌, ◌≤◌, ◌<◌}
use native.Mathlib.Omega.{arith}
use borrow.Author.Tests.{eqb-true, ne_eqb}
use lib.IntN.{pos, nat_abs}
use lib.ListN.{length, get_or, take}
use Rattle.integers.specs.Words.{each, ◌is◌}
use Rattle.integers.proofs.Each.{each_at}
use Rattle.objects.specs.Places.{RECEIVE_MAP, TRANSMIT_MAP, SET_POINT, POSITION}
use Rattle.objects.specs.Table.{objects, row_at}
use Rattle.objects.specs.Lookup.{index_of}
use Rattle.objects.proofs.Rules.{map_index}
use Rattle.mapping.specs.Maps.{ENTRIES, entry_of, stands_at}
use Rattle.mapping.specs.Maps as Maps
use Rattle.mapping.specs.declared.Map.{Map}
use Rattle.device.specs.declared.Device.{Device}
use Rattle.dictionary.specs.Named.{value, named}
use Rattle.dictionary.proofs.Laws.{each_object_is_named}
use Rattle.dictionary.proofs.Maps.{value_of_receive, value_of_transmit}
use Rattle.promises.specs.Library.{Told}
use Rattle.promises.specs.Sdo.{mapped, counted}
use Rattle.kept.proofs.Plain.{held_by, plain_told, held_told}

-- ---- what stands at a sub-index

-- the five rows of a map, from `first` on, have its index, and the sub-indexes 0 to 4
record Rows (first index : ℕ) : Type 0 where
  indexes : each 5 (λ j. (row_at (first + j)).index is index) ≡ true
  subs : each 5 (λ j. (row_at (first + j)).sub is j) ≡ true
  below : first + 5 ≤ SET_POINT

map_named : {first index : ℕ} → Rows first index → (k : ℕ) → k < 5 → named index k ≡ value POSITION (first + k)
map_named {first} {index} r k h =
    let i : (row_at (first + k)).index ≡ index = map_index first index r.indexes (first + k) (omega arith) (omega arith) in
    let s : (row_at (first + k)).sub ≡ k = eqb-true _ _ (each_at 5 (λ j. (row_at (first + j)).sub is j) k r.subs h) in
    let same : index_of POSITION (first + k) ≡ index = rw i (omega arith) in
    rw (same, s) at (each_object_is_named {which = POSITION} {place = first + k}
    (record { row = omega (arith, r.below); block = omega arith; own = λ e. absurd (omega (arith, e)) }))

receive_rows : Rows RECEIVE_MAP 0x1600
unfolding each objects
receive_rows = record { indexes = refl; subs = refl; below = omega arith }

transmit_rows : Rows TRANSMIT_MAP 0x1A00
unfolding each objects
transmit_rows = record { indexes = refl; subs = refl; below = omega arith }

module _ (d : Device) (k : ℕ) (h : k < 5) where
  pub receive_held : held_by d 0x1600 k ≡ pos (stands_at d.maps.receive k)
  receive_held =
      let back : RECEIVE_MAP + k - RECEIVE_MAP ≡ k = omega arith in
      held_told d 0x1600 k POSITION (RECEIVE_MAP + k) (map_named receive_rows k h) (omega arith)
      ∙ rw back at (value_of_receive d POSITION (RECEIVE_MAP + k) (omega arith, omega arith))

  pub transmit_held : held_by d 0x1A00 k ≡ pos (stands_at d.maps.transmit k)
  transmit_held =
      let back : TRANSMIT_MAP + k - TRANSMIT_MAP ≡ k = omega arith in
      held_told d 0x1A00 k POSITION (TRANSMIT_MAP + k) (map_named transmit_rows k h) (omega arith)
      ∙ rw back at (value_of_transmit d POSITION (TRANSMIT_MAP + k) (omega arith, omega arith))

-- ---- a map as it is told

pub record MapTold (t : Told) (map : ℕ) (m : Map) : Type 0 where
  pub count : mapped t map 0 ≡ m.count
  pub entry : (k : ℕ) → k < 4 → mapped t map (k + 1) ≡ entry_of m k

stands_entry : (m : Map) (k : ℕ) → stands_at m (k + 1) ≡ entry_of m k
unfolding stands_at
stands_entry m k = let back : k + 1 - 1 ≡ k = omega arith in rw (ne_eqb (k + 1) 0 (λ e. omega (arith, e)), back)

module _ (d : Device) where
  pub receive_told : MapTold (plain_told d) 0x1600 d.maps.receive
  receive_told =
      record {
        count = ap nat_abs (receive_held d 0 (omega arith)) ∙ (unfold stands_at in refl);
        entry = λ k h. ap nat_abs (receive_held d (k + 1) (omega arith)) ∙ stands_entry d.maps.receive k;
      }

  pub transmit_told : MapTold (plain_told d) 0x1A00 d.maps.transmit
  transmit_told =
      record {
        count = ap nat_abs (transmit_held d 0 (omega arith)) ∙ (unfold stands_at in refl);
        entry = λ k h. ap nat_abs (transmit_held d (k + 1) (omega arith)) ∙ stands_entry d.maps.transmit k;
      }

-- ---- the entries that it counts

-- a list of four is its four elements
four_spelled : (s : List ℕ) → length s ≡ 4 → get_or s 0 0 ∷ get_or s 1 0 ∷ get_or s 2 0 ∷ get_or s 3 0 ∷ [] ≡ s
four_spelled (a ∷ b ∷ c ∷ e ∷ []) h = refl
four_spelled [] h = absurd (omega (arith, h))
four_spelled (a ∷ []) h = absurd (omega (arith, h))
four_spelled (a ∷ b ∷ []) h = absurd (omega (arith, h))
four_spelled (a ∷ b ∷ c ∷ []) h = absurd (omega (arith, h))
four_spelled (a ∷ b ∷ c ∷ e ∷ f ∷ s) h = absurd (omega (arith, h))

pub counted_told : {t : Told} {map : ℕ} {m : Map} → MapTold t map m → length m.entries ≡ ENTRIES → counted t map ≡ Maps.counted m
counted_told {t} {map} {m} r l =
    rw (r.count, r.entry 0 (omega arith), r.entry 1 (omega arith), r.entry 2 (omega arith), r.entry 3 (omega arith))
    (ap (take m.count) (four_spelled m.entries l))
