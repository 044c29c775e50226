-- The table's rules, each by a test that is computed over the rows.
use mathlib.Core.Path.{◌≡◌, refl, sym, ap, ◌∙◌}
use mathlib.Core.Bool.{true, false, not, cond, ◌&&◌, ◌||◌, or-false}
use Rattle.std.specs.Prelude.{Option, Some, None}
use mathlib.Core.List.{List, [], ◌∷◌}
use Prim.Native.Nat.{ℕ, zero, suc, ◌+◌, ◌-◌, ◌*◌, ◌≤◌, ◌<◌}
use native.Mathlib.Omega.{arith}
use native.Mathlib.Numerals.{unary_clauses}
use borrow.Author.Tests.{eqb-true, ne_eqb, lt-ltb, le-ltb, ltb-true, ltb-false, not-true}
use Rattle.integers.specs.Words.{each, ◌is◌, ◌=?◌}
use lib.IntN.{ℤ, pos}
use lib.ListN.{length, get_or, take, drop}
use lib.Signed.{le_z}
use Rattle.integers.proofs.Cases.{by_cases, by_test, by_less, apart}
use Rattle.integers.specs.Range.{Within}
use Rattle.integers.proofs.Linear.{ints}
use Rattle.integers.proofs.Each.{and_split, and_both, each_at}
use Rattle.integers.proofs.Machine.{=?-yes}
use lib.Dec.{eqb, ltb}
use Rattle.objects.specs.Places.{SETTINGS, RECEIVE_MAP, TRANSMIT_MAP, WRITABLE, ROWS, POSITION, PRESSURE}
use Rattle.objects.specs.Table.{VARIABLE, MAP, objects, columns_at, row_at, lies_in}
use Rattle.objects.specs.Lookup.{ABOVE, block_number, place_from, in_block, place_of, is_of_block, Object, record_entry, entry_at}
use Rattle.objects.specs.declared.Columns.{Columns}
use Rattle.objects.specs.declared.Kind.{Kind}
use Rattle.objects.specs.declared.Kind.TheVariants.{I8, I16, U16, U32, U8}
use Rattle.objects.specs.declared.Place.{Place}
use Rattle.objects.specs.declared.Entry.{Entry}
use Rattle.objects.specs.declared.Entry.TheVariants.{Value}

-- ---- the test of a range

pub lies_within : (low high x : ℤ) → lies_in low high x ≡ true → Within low high x
unfolding lies_in
lies_within low high x e = let s = and_split (le_z low x) (le_z x high) e in omega (arith, ints)

pub within_lies : {low high x : ℤ} → Within low high x → lies_in low high x ≡ true
unfolding lies_in
within_lies {low} {high} {x} w =
    let p : le_z low x ≡ true = omega (arith, ints) in
    let q : le_z x high ≡ true = omega (arith, ints) in
    and_both p q

-- ---- the rows of a map

-- the highest value at a sub-index of a map: a byte's at 0, and four bytes' elsewhere
abbrev pub most_at : ℕ → ℕ
most_at sub = cond (sub is 0) 255 4294967295

-- the range of a map's rows, where they begin at `first`
abbrev pub IsMap : ℕ → Type 0
IsMap first = each 5 (λ j. ((row_at (first + j)).low =? pos 0) && ((row_at (first + j)).high =? pos (most_at j))) ≡ true

pub map_range : (first : ℕ) → IsMap first → (place : ℕ) → first ≤ place → place < first + 5 → ((row_at place).low ≡ pos 0) × ((row_at place).high ≡ pos (most_at (place - first)))
map_range first t place h k =
    let e : first + (place - first) ≡ place = omega arith in
    let range = and_split _ _ (each_at 5 (λ j. ((row_at (first + j)).low =? pos 0) && ((row_at (first + j)).high =? pos (most_at j))) (place - first) t (omega arith)) in
    let low : (row_at (first + (place - first))).low ≡ pos 0 = =?-yes _ _ range.0 in
    let high : (row_at (first + (place - first))).high ≡ pos (most_at (place - first)) = =?-yes _ _ range.1 in
    (rw e at low, rw e at high)

pub receive_map : IsMap RECEIVE_MAP
unfolding each objects
receive_map = refl

pub transmit_map : IsMap TRANSMIT_MAP
unfolding each objects
transmit_map = refl

-- the five rows of a map have its index
pub map_index : (first index : ℕ) → each 5 (λ j. (row_at (first + j)).index is index) ≡ true → (place : ℕ) → first ≤ place → place < first + 5 → (row_at place).index ≡ index
map_index first index t place h k =
    let e : first + (place - first) ≡ place = omega arith in
    let same : (row_at (first + (place - first))).index ≡ index = eqb-true _ _ (each_at 5 (λ j. (row_at (first + j)).index is index) (place - first) t (omega arith)) in
    rw e at same

-- no row has this index
abbrev pub Absent : List Columns → ℕ → Type 0
Absent [] index = Unit {0}
Absent (row ∷ rows) index = (row.0 ≡ index → ⊥) × Absent rows index

absent_from : (place : ℕ) (rows : List Columns) (index : ℕ) → Absent rows index → place_from place rows index ≡ None
unfolding place_from
absent_from place [] index h = refl
absent_from place (row ∷ rows) index h = rw (ne_eqb row.0 index h.0) (absent_from (suc place) rows index h.1)

absent_both : (n : ℕ) (rows : List Columns) (index : ℕ) → Absent (take n rows) index → Absent (drop n rows) index → Absent rows index
absent_both zero rows index p q = q
absent_both (suc n) [] index p q = tt
absent_both (suc n) (row ∷ rows) index p q = (p.0, absent_both n rows index p.1 q)

-- an index that no row has, neither of the stored settings nor after them, is found nowhere
pub no_other_index : (index : ℕ) → Absent (take SETTINGS objects) index → Absent (drop SETTINGS objects) index → place_from 0 objects index ≡ None
no_other_index index h k = absent_from 0 objects index (absent_both SETTINGS objects index h k)

-- ---- blocks

-- an index from 6380h to 63C5h is searched 80h below, for the pressure block, and every other as it is
module _ (index : ℕ) where
  sub_zero : index - 0 ≡ index
  sub_zero = omega arith

  pub of_pressure : 0x6380 ≤ index → index ≤ 0x63C5 → place_of index ≡ in_block PRESSURE (place_from 0 objects (index - ABOVE))
  unfolding place_of block_number
  of_pressure h k = rw (le-ltb index 0x6380 h, lt-ltb index 0x63C6 (omega arith))

  pub below_pressure : index < 0x6380 → place_of index ≡ in_block POSITION (place_from 0 objects index)
  unfolding place_of block_number
  below_pressure h = rw (lt-ltb index 0x6380 h, sub_zero)

  pub above_pressure : 0x63C6 ≤ index → place_of index ≡ in_block POSITION (place_from 0 objects index)
  unfolding place_of block_number
  above_pressure h = rw (le-ltb index 0x6380 (omega arith), le-ltb index 0x63C6 h, sub_zero)

-- the same place, of the pressure block
abbrev pub in_pressure : Option Place → Option Place
in_pressure (Some p) = in_block PRESSURE (Some p.place)
in_pressure None = None

pressure_from : (found : Option ℕ) → in_block PRESSURE found ≡ in_pressure (in_block POSITION found)
pressure_from (Some place) = refl
pressure_from None = refl

-- so 80h above an index of the position block stands its counterpart
pub counterpart_place : (index : ℕ) → 0x6300 ≤ index → index ≤ 0x6345 → place_of (index + ABOVE) ≡ in_pressure (place_of index)
counterpart_place index h k =
    let back : index + ABOVE - ABOVE ≡ index = omega arith in
    rw (of_pressure (index + ABOVE) (omega arith) (omega arith), back, below_pressure index (omega arith)) (pressure_from (place_from 0 objects index))

-- an index is of one of the two blocks, and its counterpart's is not below 0
pub block_most : (index : ℕ) → block_number index ≤ PRESSURE
unfolding block_number
block_most index = by_test (λ n. n ≤ PRESSURE) (not (ltb index 0x6380) && ltb index 0x63C6) (λ e. omega arith) (λ e. omega arith)

pub counterpart_fits : (index : ℕ) → ABOVE * block_number index ≤ index
unfolding block_number
counterpart_fits index =
    by_test (λ n. ABOVE * n ≤ index) (not (ltb index 0x6380) && ltb index 0x63C6)
    (λ e. omega (arith, ltb-false index 0x6380 (not-true _ (and_split (not (ltb index 0x6380)) (ltb index 0x63C6) e).0))) (λ e. omega arith)

-- what was found of a block is a place of that block
found_of : (which : ℕ) (found : Option ℕ) (p : Place) → in_block which found ≡ Some p → (p.which ≡ which) × (found ≡ Some p.place)
found_of which (Some place) p e =
    let same : record { which = which; place = place } ≡ p = cc in
    (ap (λ (q : Place). q.which) (sym same), ap (λ (q : Place). Some q.place) same)
found_of which None p e = apart (cc)

-- a place that was found is within the table, and its row has the index
record FoundFrom (place : ℕ) (rows : List Columns) (index k : ℕ) : Type 0 where
  from : place ≤ k
  below : k < place + length rows
  indexed : (get_or rows (k - place) (columns_at ROWS)).0 ≡ index

found_from : (place : ℕ) (rows : List Columns) (index k : ℕ) → place_from place rows index ≡ Some k → FoundFrom place rows index k
unfolding place_from
found_from place [] index k e = apart (cc)
found_from place (row ∷ rows) index k e =
    by_cases (row.0 is index)
    (λ f. let z : Some place ≡ Some k = (rw f at e) in
    let s : place ≡ k = cc in
    let first : k - place ≡ 0 = omega arith in
    record { from = omega arith; below = omega arith; indexed = rw first (eqb-true row.0 index f) })
    (λ f. let r = found_from (suc place) rows index k (rw f at e) in
    let later : k - place ≡ suc (k - suc place) = omega (arith, r.from) in
    record { from = omega (arith, r.from); below = omega (arith, r.below); indexed = rw later r.indexed })

-- the objects of the table that the position block does not have stand outside the indexes whose counterparts are the pressure block's
counterpart : (place : ℕ) → place < ROWS → 0x6300 ≤ (row_at place).index → (row_at place).index < 0x6346 → is_of_block place ≡ true
unfolding each objects is_of_block
counterpart place h l m =
    rw (le-ltb (row_at place).index 0x6300 l, lt-ltb (row_at place).index 0x6346 m) at
    (each_at ROWS (λ k. ltb (row_at k).index 0x6300 || not (ltb (row_at k).index 0x6346) || is_of_block k) place refl h)

-- so what is found is an object
pub found_object : (index : ℕ) (p : Place) → place_of index ≡ Some p → Object p.which p.place
unfolding objects
found_object index p e =
    by_less index 0x6380 (λ h. single (sym (below_pressure index h) ∙ e))
    (λ h. by_less index 0x63C6
    (λ k.
    let found = found_of PRESSURE (place_from 0 objects (index - ABOVE)) p (sym (of_pressure index h (omega arith)) ∙ e) in
    let f = found_from 0 objects (index - ABOVE) p.place found.1 in
    let i : (row_at p.place).index ≡ index - ABOVE = simp unary_clauses at f.indexed in
    record { row = f.below; block = omega (arith, found.0); own = λ _. counterpart p.place f.below (omega arith) (omega arith) })
    (λ k. single (sym (above_pressure index k) ∙ e)))
  where
    single : in_block POSITION (place_from 0 objects index) ≡ Some p → Object p.which p.place
    single e =
        let found = found_of POSITION (place_from 0 objects index) p e in
        record { row = (found_from 0 objects index p.place found.1).below; block = omega (arith, found.0); own = λ q. absurd (omega (arith, found.0)) }

-- and below 6380h none is of the pressure block
pub found_in_position : (index : ℕ) (p : Place) → index < 0x6380 → place_of index ≡ Some p → p.which ≡ POSITION
unfolding objects
found_in_position index p h e = (found_of POSITION (place_from 0 objects index) p (sym (below_pressure index h) ∙ e)).0

pub found_below : (index : ℕ) (p : Place) → place_of index ≡ Some p → p.place < ROWS
found_below index p e = (found_object index p e).row

-- a record that is no map has one value
record_value : (entries sub k : ℕ) → Some (record_entry entries sub) ≡ Some (Value k) → k ≡ 0
unfolding record_entry
record_value entries sub k =
    by_test P (eqb sub 0) (λ z e. apart (cc))
    (λ z. by_test P (eqb sub 1) (λ o e. let same : 0 ≡ k = cc in sym same)
    (λ o. by_test P (eqb sub 2) (λ q e. apart (cc)) (λ q e. apart (cc))))
  where
    P : Entry → Type 0
    P e = Some e ≡ Some (Value k) → k ≡ 0

-- the values of a found object are within the table: where it has more than one, it has no more than its entries
pub value_below : (place sub k : ℕ) → place < ROWS → entry_at (row_at place).entries sub ≡ Some (Value k) → place + k < ROWS
unfolding entry_at each objects
value_below place sub k h =
    by_test P (ltb n sub) (λ t e. apart (cc))
    (λ t. by_test P (eqb n VARIABLE || eqb n MAP) (λ m e. let same : sub ≡ k = cc in let most = ltb-false n sub t in omega (arith, ltb-true (place + n) ROWS (several m)))
    (λ m e. omega (arith, record_value n sub k e)))
  where
    n : ℕ
    n = (row_at place).entries

    P : Option Entry → Type 0
    P e = e ≡ Some (Value k) → place + k < ROWS

    several : (eqb n VARIABLE || eqb n MAP) ≡ true → ltb (place + n) ROWS ≡ true
    several m = rw m at (each_at ROWS (λ p. not (eqb (row_at p).entries VARIABLE || eqb (row_at p).entries MAP) || ltb (p + (row_at p).entries) ROWS) place refl h)

-- but of a map an object has one value
one_value : (entries sub k : ℕ) → entries is MAP ≡ false → entry_at entries sub ≡ Some (Value k) → k ≡ 0
unfolding entry_at
one_value entries sub k n =
    by_test P (ltb entries sub) (λ t e. apart (cc))
    (λ t. by_test P (eqb entries VARIABLE || eqb entries MAP)
    (λ m e. let same : sub ≡ k = cc in let none = eqb-true entries VARIABLE (rw (n, or-false) at m) in omega (arith, ltb-false entries sub t))
    (λ m e. record_value entries sub k e))
  where
    P : Option Entry → Type 0
    P e = e ≡ Some (Value k) → k ≡ 0

-- so each value of an object is one too
pub value_object : (which place sub k : ℕ) → Object which place → entry_at (row_at place).entries sub ≡ Some (Value k) → Object which (place + k)
unfolding each objects is_of_block
value_object which place sub k o e = record { row = value_below place sub k o.row e; block = o.block; own = own }
  where
    own : which ≡ PRESSURE → is_of_block (place + k) ≡ true
    own p =
        let no_map : (row_at place).entries is MAP ≡ false = not-true _ (rw (o.own p) at (each_at ROWS (λ j. not (is_of_block j) || not ((row_at j).entries is MAP)) place refl o.row)) in
        let first : k ≡ 0 = one_value (row_at place).entries sub k no_map e in
        let same : place + k ≡ place = omega arith in
        rw same (o.own p)

-- only the first rows can be written
pub writable_below : (place : ℕ) → place < ROWS → (row_at place).writable ≡ true → place < WRITABLE
unfolding each objects
writable_below place h e = ltb-true place WRITABLE (rw e at (each_at ROWS (λ k. not (row_at k).writable || ltb k WRITABLE) place refl h))

-- and all of those
pub below_writable : (place : ℕ) → place < WRITABLE → (row_at place).writable ≡ true
unfolding each objects
below_writable place h = each_at WRITABLE (λ k. (row_at k).writable) place refl h

-- a type's bytes
abbrev type_size : Kind → ℕ
type_size I8 = 1
type_size I16 = 2
type_size U16 = 2
type_size U32 = 4
type_size U8 = 1

-- the size of each row is that of its type
pub size_of_type : (place : ℕ) → place < ROWS → (row_at place).size ≡ type_size (columns_at place).3
unfolding each objects
size_of_type place h = eqb-true _ _ (each_at ROWS (λ k. (row_at k).size is type_size (columns_at k).3) place refl h)
