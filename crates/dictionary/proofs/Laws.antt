-- Where the numbers of the dictionary lie: places within the table, values within their rows' ranges, and what an accepted write has shown.
use Rattle.std.specs.Prelude.{Option, Some, None, Result, Ok, Err}
use mathlib.Core.Bool.{Bool, true, false, not, cond, ◌&&◌, ◌||◌}
use mathlib.Core.Path.{◌≡◌, refl, sym, ◌∙◌}
use Prim.Native.Nat.{ℕ, ◌<◌, ◌≤◌}
use native.Mathlib.Omega.{arith}
use borrow.Author.Tests.{eqb-true, eqb-false, eq-eqb, not-false}
use lib.Dec.{T}
use lib.IntN.{ℤ, pos, negsuc, nat_abs}
use lib.Signed.{lt_z, non_neg}
use mir.Syntax.{w8, w16}
use mir.Val.{Fits}
use Rattle.integers.specs.Range.{Within}
use Rattle.integers.proofs.Linear.{ints}
use Rattle.integers.specs.Words.{each, ◌is◌}
use Rattle.integers.proofs.Cases.{by_cases, by_test, clash, apart}
use Rattle.integers.proofs.Each.{and_split, each_at}
use Rattle.objects.specs.Places.{SETTINGS, SET_POINT, SELECTION, CONTROL_WORD, COMMAND, ROWS, POSITION, PRESSURE}
use Rattle.objects.specs.Table.{objects, row_at, InRange}
use Rattle.objects.specs.Lookup.{block_number, place_from, place_of, is_of_block, Object, index_of, record_entry, entry_at}
use Rattle.objects.specs.declared.Place.{Place}
use Rattle.objects.specs.declared.Entry.{Entry}
use Rattle.objects.specs.declared.Entry.TheVariants.{Value, Fixed}
use Rattle.objects.proofs.Rules.{found_object, value_object, writable_below}
use Rattle.block.specs.Block.{setting}
use Rattle.block.proofs.Sound.{block_parts}
use Rattle.block.proofs.Laws.{command_within}
use Rattle.mapping.specs.declared.Misfit.{Misfit}
use Rattle.dither.specs.Wave.{dither_of}
use Rattle.device.specs.States.{driven}
use Rattle.device.specs.Queries.{device_command, block_command}
use Rattle.device.specs.Device.{block_of}
use Rattle.device.specs.Sound.{Sound}
use Rattle.device.specs.declared.Device.{Device}
use Rattle.device.proofs.Laws.{block_of_sound_device}
use Rattle.dictionary.specs.Named.{Named, value, byte, nothing, entered, located, named}
use Rattle.dictionary.specs.Values.{value_at}
use Rattle.dictionary.specs.Decide.{crosses, is_locked, map_ruling, ruled, verdict_on, read_of, write_of, write_decision}
use Rattle.dictionary.specs.Asked.{Valued, Writing, Writes, Decided}
use Rattle.dictionary.specs.Accept.{Accept}
use Rattle.dictionary.specs.declared.Decision.{Decision}
use Rattle.dictionary.specs.declared.Decision.TheVariants.{Read, Write}
use Rattle.dictionary.specs.declared.Abort.{Abort}

-- ---- places

-- what is named is an object
abbrev pub InTable : Named → Type 0
InTable (value which place) = Object which place
InTable (byte number) = Unit {0}
InTable (nothing abort) = Unit {0}

entered_in_table : (which place sub : ℕ) (entry : Option Entry) → entry_at (row_at place).entries sub ≡ entry → Object which place → InTable (entered which place entry)
entered_in_table which place sub (Some (Value k)) e h = value_object which place sub k h e
entered_in_table which place sub (Some (Fixed number)) e h = tt
entered_in_table which place sub None e h = tt

pub named_in_table : (index sub : ℕ) → InTable (named index sub)
unfolding named
named_in_table index sub = by (place_of index) refl
  where
    by : (found : Option Place) → place_of index ≡ found → InTable (located found sub)
    by (Some p) e = entered_in_table p.which p.place sub (entry_at (row_at p.place).entries sub) refl (found_object index p e)
    by None e = tt

-- each object is named by its index and sub-index
abbrev is_value : Named → ℕ → ℕ → Bool
is_value (value v k) which place = v is which && k is place
is_value (byte number) which place = false
is_value (nothing abort) which place = false

is_value_lem : (n : Named) (which place : ℕ) → is_value n which place ≡ true → n ≡ value which place
is_value_lem (value v k) which place e = let both = and_split (v is which) (k is place) e in rw (eqb-true v which both.0, eqb-true k place both.1)
is_value_lem (byte number) which place e = clash e refl
is_value_lem (nothing abort) which place e = clash e refl

pub each_object_is_named : {which place : ℕ} → Object which place → named (index_of which place) (row_at place).sub ≡ value which place
unfolding each objects is_of_block block_number named place_of place_from entry_at record_entry
each_object_is_named {which} {place} o =
    by_cases (which is PRESSURE)
    (λ e.
    let own = o.own (eqb-true which PRESSURE e) in
    let q = eqb-true which PRESSURE e in
    rw q (is_value_lem _ PRESSURE place (rw own at (each_at ROWS (λ k. not (is_of_block k) || is_value (named (index_of PRESSURE k) (row_at k).sub) PRESSURE k) place refl o.row))))
    (λ e.
    let q : which ≡ POSITION = omega (arith, o.block, eqb-false which PRESSURE e) in
    rw q (is_value_lem _ POSITION place (each_at ROWS (λ k. is_value (named (index_of POSITION k) (row_at k).sub) POSITION k) place refl o.row)))

-- ---- values

-- the values of a sound device lie in their rows' ranges
module _ {d : Device} (s : Sound d) where
  pub setting_within : (which place : ℕ) → place < SETTINGS → InRange place (setting (block_of which d) place)
  setting_within which = (block_parts (block_of_sound_device s which)).settings.ranged

  pub setpoint_within : (which : ℕ) → InRange SET_POINT (block_of which d).setpoint
  setpoint_within which = (block_parts (block_of_sound_device s which)).setpoint

pub device_command_within : (d : Device) → InRange COMMAND (device_command d)
unfolding device_command objects
device_command_within d =
    by_test (InRange COMMAND) (driven d.state)
    (λ e. let w = command_within (dither_of d.dither) d.block in omega (arith, ints)) (λ e. omega (arith, ints))

pub block_command_within : (which : ℕ) (d : Device) → InRange COMMAND (block_command which d)
unfolding block_command objects
block_command_within which d = by_test (InRange COMMAND) (d.selected is which) (λ e. device_command_within d) (λ e. omega (arith, ints))

-- what is shown of an object's value is shown of what the code gives for it
pub valued : {d : Device} {which place : ℕ} {r v : ℤ} → value_at d which place ≡ v → (r ≡ v) × InRange place v → Valued d which place r
valued e h = record { value = h.0 ∙ sym e; range = rw h.0 h.1 }

-- a value of the control word is a word, and one of the selection the number of a block
pub number_within : {most : ℕ} (x : ℤ) → Within (pos 0) (pos most) x → T (non_neg x) × (nat_abs x ≤ most)
number_within (pos n) w = (tt, omega (arith, ints))
number_within (negsuc n) w = absurd (omega (arith, ints))

pub control_word : {place : ℕ} {x : ℤ} → place ≡ CONTROL_WORD → InRange place x → T (non_neg x) × Fits w16 (nat_abs x)
unfolding objects
control_word {place} {x} e w = let n = number_within {most = 65535} x (rw e at w) in (n.0, record { fits = omega (arith, n.1) })

pub block_number_lem : {place : ℕ} {x : ℤ} → place ≡ SELECTION → InRange place x → T (non_neg x) × (nat_abs x ≤ PRESSURE)
unfolding objects
block_number_lem {place} {x} e w = number_within {most = PRESSURE} x (rw e at w)

pub selection_byte : {place : ℕ} {x : ℤ} → place ≡ SELECTION → InRange place x → T (non_neg x) × Fits w8 (nat_abs x)
selection_byte e w = let n = block_number_lem e w in (n.0, record { fits = omega (arith, n.1) })

-- ---- an accepted write

-- what each test in turn has let through
passed : (t : Bool) (abort : Abort) (rest : Result Decision Abort) (v : Decision) → cond t (Err abort) rest ≡ Ok v → (t ≡ false) × (rest ≡ Ok v)
passed true abort rest v e = apart (cc)
passed false abort rest v e = (refl, e)

let_through : (r : Result (Unit {0}) Misfit) (which place : ℕ) (x : ℤ) (w k : ℕ) (v : ℤ) → ruled r which place x ≡ Ok (Write w k v) → (r ≡ Ok tt) × (which ≡ w) × (place ≡ k) × (x ≡ v)
let_through (Ok taken) which place x w k v e = (refl, cc, cc, cc)
let_through (Err misfit) which place x w k v e = apart (cc)

pub between : {low high x : ℤ} → lt_z high x ≡ false → lt_z x low ≡ false → Within low high x
between {low} {high} {x} h l = omega (arith, ints)

-- what passes every test before them is decided by the rules of a map
pub ruled_last : (d : Device) (which place size : ℕ) (x : ℤ) → (row_at place).writable ≡ true → (row_at place).size ≡ size → InRange place x → crosses (block_of which d) place x ≡ false → is_locked (row_at place).lock d.state ≡ false → verdict_on d which place size x ≡ ruled (map_ruling d.maps place x) which place x
unfolding verdict_on
ruled_last d which place size x writable sized w uncrossed unlocked =
    let high : lt_z (row_at place).high x ≡ false = omega (arith, ints) in
    let low : lt_z x (row_at place).low ≡ false = omega (arith, ints) in
    rw (writable, eq-eqb (row_at place).size size sized, high, low, uncrossed, unlocked)

-- so what no rule forbids is decided to be written
pub is_accepted : {d : Device} {which place size : ℕ} {x : ℤ} → Accept d which place size x → verdict_on d which place size x ≡ Ok (Write which place x)
is_accepted {d} {which} {place} {size} {x} a = ruled_last d which place size x a.writable a.sized a.range a.uncrossed a.unlocked ∙ rw a.unruled

-- and a write that was accepted is one that no rule forbids, of that value to that place
pub accepted : (d : Device) (which place size : ℕ) (x : ℤ) (u k : ℕ) (v : ℤ) → verdict_on d which place size x ≡ Ok (Write u k v) → Accept d which place size x × (which ≡ u) × (place ≡ k) × (x ≡ v)
unfolding verdict_on
accepted d which place size x u k v e =
    let a = passed _ _ _ _ e in
    let b = passed _ _ _ _ a.1 in
    let c = passed _ _ _ _ b.1 in
    let f = passed _ _ _ _ c.1 in
    let g = passed _ _ _ _ f.1 in
    let h = passed _ _ _ _ g.1 in
    let w = let_through (map_ruling d.maps place x) which place x u k v h.1 in (
      record {
        writable = not-false _ a.0;
        sized = eqb-true (row_at place).size size (not-false _ b.0);
        range = between c.0 f.0;
        uncrossed = g.0;
        unlocked = h.0;
        unruled = w.0;
      },
      w.1,
      w.2,
      w.3,
    )

-- what is written is a value for an object that can be written
pub accept_writes : {d : Device} {which place size : ℕ} {x : ℤ} → place < ROWS → Accept d which place size x → Writing place x
accept_writes {place} h a = record { writable = writable_below place h a.writable; range = a.range }

verdict_writes : (d : Device) (which place size : ℕ) (x : ℤ) → place < ROWS → (v : Result Decision Abort) → verdict_on d which place size x ≡ v → Writes v
verdict_writes d which place size x h (Ok (Read n m)) e = tt
verdict_writes d which place size x h (Ok (Write u k v)) e =
    let a = accepted d which place size x u k v e in
    rw (← a.2, ← a.3) (accept_writes h a.0)
verdict_writes d which place size x h (Err abort) e = tt

-- so is what a decision writes
pub read_decided : (d : Device) (n : Named) → Decided (read_of d n)
unfolding read_of
read_decided d (value which place) = record { writes = tt }
read_decided d (byte number) = record { writes = tt }
read_decided d (nothing abort) = record { writes = tt }

pub write_decided : (d : Device) (size number : ℕ) (n : Named) → InTable n → Decided (write_of d size number n)
unfolding write_of
write_decided d size number (value which place) h = record { writes = verdict_writes d which place size _ h.row _ refl }
write_decided d size number (byte fixed) h = record { writes = tt }
write_decided d size number (nothing abort) h = record { writes = tt }

pub write_decision_decided : (d : Device) (index sub size number : ℕ) → Decided (write_decision d index sub size number)
unfolding write_decision
write_decision_decided d index sub size number = write_decided d size number (named index sub) (named_in_table index sub)
