-- A pressure object is to the pressure block what its counterpart, 80h below, is to the position block: what is read, decided and written of it is that of the counterpart, of the device with its blocks the other way round.
use Rattle.std.specs.Prelude.{Option, Some, None, Result, Ok, Err}
use mathlib.Core.Bool.{true, not}
use mathlib.Core.Path.{◌≡◌, refl, sym, ◌∙◌}
use Prim.Native.Nat.{ℕ, ◌+◌, ◌≤◌, ◌<◌}
use native.Mathlib.Omega.{arith}
use borrow.Author.Tests.{ltb-true, eqb-true}
use lib.Dec.{eqb, ltb}
use lib.IntN.{ℤ}
use Rattle.integers.specs.Words.{◌is◌, ◌<?◌}
use Rattle.integers.proofs.Cases.{by_cases, apart}
use Rattle.objects.specs.Places.{SETTINGS, SET_POINT, COMMAND, POSITION, PRESSURE}
use Rattle.objects.specs.Table.{row_at}
use Rattle.objects.specs.Lookup.{ABOVE, place_of, is_of_block, Object, entry_at}
use Rattle.objects.specs.declared.Place.{Place}
use Rattle.objects.specs.declared.Entry.{Entry}
use Rattle.objects.specs.declared.Entry.TheVariants.{Value, Fixed}
use Rattle.objects.proofs.Rules.{in_pressure, counterpart_place, found_in_position}
use Rattle.mapping.specs.declared.Misfit.{Misfit}
use Rattle.device.specs.Device.{block_of, mirrored}
use Rattle.device.specs.Sound.{Sound}
use Rattle.device.specs.declared.Device.{Device}
use Rattle.device.proofs.Laws.{mirrored_twice, mirrored_block, mirrored_command, mirrored_put}
use Rattle.dictionary.specs.Named.{Named, value, byte, nothing, entered, located, named}
use Rattle.dictionary.specs.Values.{value_at, written_to}
use Rattle.dictionary.specs.Decide.{crosses, is_locked, map_ruling, ruled, verdict_on, read_of, read_decision, write_of, write_decision, carried_out}
use Rattle.dictionary.specs.declared.Decision.{Decision}
use Rattle.dictionary.specs.declared.Decision.TheVariants.{Read, Write}
use Rattle.dictionary.specs.declared.Abort.{Abort}
use Rattle.dictionary.proofs.Laws.{named_in_table}
use Rattle.dictionary.proofs.Written.{to_setting, to_setpoint, value_of_setting}
use Rattle.dictionary.proofs.Decisions.{write_origin}

-- ---- names

-- the same, of the pressure block
abbrev pressured : Named → Named
pressured (value which place) = value PRESSURE place
pressured (byte number) = byte number
pressured (nothing abort) = nothing abort

module _ (index sub : ℕ) (from : 0x6300 ≤ index) (to : index ≤ 0x6345) where
  counterpart_named : named (index + ABOVE) sub ≡ pressured (named index sub)
  unfolding named
  counterpart_named = rw (counterpart_place index from to) (by (place_of index))
    where
      of : (which place : ℕ) (e : Option Entry) → entered PRESSURE place e ≡ pressured (entered which place e)
      of which place (Some (Value k)) = refl
      of which place (Some (Fixed number)) = refl
      of which place None = refl

      by : (found : Option Place) → located (in_pressure found) sub ≡ pressured (located found sub)
      by (Some p) = of p.which p.place (entry_at (row_at p.place).entries sub)
      by None = refl

  -- what it names of the position block is its own
  record Own (which place : ℕ) : Type 0 where
    position : which ≡ POSITION
    own : is_of_block place ≡ true

  abbrev IsOwn : Named → Type 0
  IsOwn (value which place) = Own which place
  IsOwn (byte number) = Unit {0}
  IsOwn (nothing abort) = Unit {0}

  names_own : IsOwn (named index sub)
  names_own = by (named index sub) refl
    where
      position : (which place : ℕ) → named index sub ≡ value which place → which ≡ POSITION
      position which place = unfold named in of (place_of index) refl
        where
          entry : (p : Place) (e : Option Entry) → place_of index ≡ Some p → entered p.which p.place e ≡ value which place → which ≡ POSITION
          entry p (Some (Value k)) f e = let same : p.which ≡ which = cc in sym same ∙ found_in_position index p (omega arith) f
          entry p (Some (Fixed number)) f e = apart (cc)
          entry p None f e = apart (cc)

          of : (found : Option Place) → place_of index ≡ found → located found sub ≡ value which place → which ≡ POSITION
          of (Some p) f e = entry p (entry_at (row_at p.place).entries sub) f e
          of None f e = apart (cc)

      by : (n : Named) → named index sub ≡ n → IsOwn n
      by (value which place) f =
          let o : Object PRESSURE place = rw (counterpart_named, f) at (named_in_table (index + ABOVE) sub) in
          record { position = position which place f; own = o.own refl }
      by (byte number) f = tt
      by (nothing abort) f = tt

-- ---- values

-- what a block has of its own is a setting, its set point or its command
by_own {ℓ} : (place : ℕ) {X : Type ℓ} → is_of_block place ≡ true → (place < SETTINGS → X) → (place ≡ SET_POINT → X) → (place ≡ COMMAND → X) → X
unfolding is_of_block
by_own place own f g h =
    by_cases (ltb place SETTINGS) (λ e. f (ltb-true place SETTINGS e))
    (λ e. by_cases (eqb place SET_POINT) (λ k. g (eqb-true place SET_POINT k)) (λ k. h (eqb-true place COMMAND (rw (e, k) at own))))

module _ {d : Device} (s : Sound d) (place : ℕ) (own : is_of_block place ≡ true) where
  mirrored_value : value_at (mirrored d) POSITION place ≡ value_at d PRESSURE place
  mirrored_value =
      by_own place own
      (λ l. rw (value_of_setting (mirrored d) POSITION place l, value_of_setting d PRESSURE place l, mirrored_block s POSITION (omega arith)))
      (λ e. unfold value_at in rw (e, mirrored_block s POSITION (omega arith)))
      (λ e. unfold value_at in rw (e, mirrored_command s POSITION (omega arith)))

  mirrored_written : (x : ℤ) → mirrored (written_to POSITION place x (mirrored d)) ≡ written_to PRESSURE place x d
  mirrored_written x =
      by_own place own
      (λ l. rw (to_setting POSITION place x (mirrored d) l, to_setting PRESSURE place x d l, mirrored_block s POSITION (omega arith)) (mirrored_put s POSITION _ (omega arith)))
      (λ e. rw (to_setpoint POSITION place x (mirrored d) e, to_setpoint PRESSURE place x d e, mirrored_block s POSITION (omega arith)) (mirrored_put s POSITION _ (omega arith)))
      (λ e. unfold written_to in rw e (mirrored_twice s))

-- ---- decisions

-- the same, with a write to the pressure block
abbrev pub across : Result Decision Abort → Result Decision Abort
across (Ok (Read size number)) = Ok (Read size number)
across (Ok (Write which place x)) = Ok (Write PRESSURE place x)
across (Err abort) = Err abort

across_ruled : (r : Result (Unit {0}) Misfit) (which place : ℕ) (x : ℤ) → ruled r PRESSURE place x ≡ across (ruled r which place x)
across_ruled (Ok taken) which place x = refl
across_ruled (Err misfit) which place x = refl

module _ {d : Device} (s : Sound d) where
  verdict_across : (place size : ℕ) (x : ℤ) → verdict_on d PRESSURE place size x ≡ across (verdict_on (mirrored d) POSITION place size x)
  unfolding verdict_on
  verdict_across place size x =
      let row = row_at place in
      rw (mirrored_block s POSITION (omega arith))
      (by_cases (not row.writable) (λ a. rw a)
      (λ a. by_cases (not (row.size is size)) (λ b. rw (a, b))
      (λ b. by_cases (row.high <? x) (λ c. rw (a, b, c))
      (λ c. by_cases (x <? row.low) (λ e. rw (a, b, c, e))
      (λ e. by_cases (crosses (block_of PRESSURE d) place x) (λ f. rw (a, b, c, e, f))
      (λ f. by_cases (is_locked row.lock d.state) (λ g. rw (a, b, c, e, f, g))
      (λ g. rw (a, b, c, e, f, g) (across_ruled (map_ruling d.maps place x) POSITION place x))))))))

  module _ (index sub : ℕ) (from : 0x6300 ≤ index) (to : index ≤ 0x6345) where
    pub counterpart_read : read_decision d (index + ABOVE) sub ≡ read_decision (mirrored d) index sub
    unfolding read_decision read_of
    counterpart_read = rw (counterpart_named index sub from to) (by (named index sub) (names_own index sub from to))
      where
        by : (n : Named) → IsOwn index sub from to n → read_of d (pressured n) ≡ read_of (mirrored d) n
        by (value which place) o = rw (o.position, mirrored_value s place o.own)
        by (byte number) o = refl
        by (nothing abort) o = refl

    pub counterpart_write : (size number : ℕ) → write_decision d (index + ABOVE) sub size number ≡ across (write_decision (mirrored d) index sub size number)
    unfolding write_decision write_of
    counterpart_write size number = rw (counterpart_named index sub from to) (by (named index sub) (names_own index sub from to))
      where
        by : (n : Named) → IsOwn index sub from to n → write_of d size number (pressured n) ≡ across (write_of (mirrored d) size number n)
        by (value which place) o = rw o.position (verdict_across place size _)
        by (byte number) o = refl
        by (nothing abort) o = refl

    -- and what is written is written across
    pub counterpart_carried : (size number : ℕ) → carried_out (across (write_decision (mirrored d) index sub size number)) d ≡ mirrored (carried_out (write_decision (mirrored d) index sub size number) (mirrored d))
    counterpart_carried size number = by (write_decision (mirrored d) index sub size number) refl
      where
        by : (v : Result Decision Abort) → write_decision (mirrored d) index sub size number ≡ v → carried_out (across v) d ≡ mirrored (carried_out v (mirrored d))
        by (Ok (Read n m)) e = sym (mirrored_twice s)
        by (Ok (Write which place x)) e =
            let o = write_origin (mirrored d) index sub size number which place x e in
            let own : Own index sub from to which place = rw o.found at (names_own index sub from to) in
            rw own.position (sym (mirrored_written s place own.own x))
        by (Err abort) e = sym (mirrored_twice s)
