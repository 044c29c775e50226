-- What the decisions promise. A write comes from what was named and from a verdict that no rule forbids: so it is read back, leaves every other object that can be written as it was, and keeps a sound device sound. All other decisions leave the device as it was.
use Rattle.std.specs.Prelude.{Result, Ok, Err}
use mathlib.Core.Logic.{◌≢◌}
use mathlib.Core.Path.{◌≡◌, refl, sym}
use Prim.Native.Nat.{ℕ, ◌<◌, ◌%◌}
use lib.IntN.{ℤ}
use Rattle.integers.proofs.Cases.{apart}
use Rattle.objects.specs.Places.{WRITABLE}
use Rattle.objects.specs.Lookup.{Object}
use Rattle.objects.proofs.Rules.{writable_below}
use Rattle.coding.specs.Coding.{span}
use Rattle.coding.proofs.Laws.{back_and_there}
use Rattle.device.specs.Sound.{Sound}
use Rattle.device.specs.declared.Device.{Device}
use Rattle.dictionary.specs.Named.{Named, value, byte, nothing, named}
use Rattle.dictionary.specs.Values.{value_at, written_to}
use Rattle.dictionary.specs.Decide.{read_of, read_decision, write_of, write_decision, carried_out}
use Rattle.dictionary.specs.declared.Decision.{Decision}
use Rattle.dictionary.specs.declared.Decision.TheVariants.{Read, Write}
use Rattle.dictionary.specs.declared.Abort.{Abort}
use Rattle.dictionary.specs.Accept.{Origin}
use Rattle.dictionary.proofs.Laws.{InTable, named_in_table, accepted}
use Rattle.dictionary.proofs.Written.{written_is_read, others_are_kept, written_sound}

-- a read is never decided to be a write
read_of_writes_nothing : (d : Device) (n : Named) (which place : ℕ) (x : ℤ) → read_of d n ≢ Ok (Write which place x)
unfolding read_of
read_of_writes_nothing d (value v k) which place x e = apart (cc)
read_of_writes_nothing d (byte number) which place x e = apart (cc)
read_of_writes_nothing d (nothing abort) which place x e = apart (cc)

pub read_writes_nothing : (d : Device) (index sub which place : ℕ) (x : ℤ) → read_decision d index sub ≢ Ok (Write which place x)
unfolding read_decision
read_writes_nothing d index sub = read_of_writes_nothing d (named index sub)

pub write_origin : (d : Device) (index sub size number which place : ℕ) (x : ℤ) → write_decision d index sub size number ≡ Ok (Write which place x) → Origin d index sub size number which place x
unfolding write_decision write_of
write_origin d index sub size number which place x = by (named index sub) refl (named_in_table index sub)
  where
    by : (n : Named) → named index sub ≡ n → InTable n → write_of d size number n ≡ Ok (Write which place x) → Origin d index sub size number which place x
    by (value v k) f h e =
        let a = accepted d v k size _ which place x e in
        record {
          found = rw (← a.1, ← a.2) f;
          object = rw (← a.1, ← a.2) h;
          below = rw (← a.2) (writable_below k h.row a.0.writable);
          stands = rw (← a.2) (sym a.3);
          accept = rw (← a.1, ← a.2, ← a.3) a.0;
        }
    by (byte fixed) f h e = apart (cc)
    by (nothing abort) f h e = apart (cc)

-- ---- the device after a decision

module _ {d : Device} (s : Sound d) where
  pub read_sound : (index sub : ℕ) → Sound (carried_out (read_decision d index sub) d)
  read_sound index sub = by (read_decision d index sub) refl
    where
      by : (v : Result Decision Abort) → read_decision d index sub ≡ v → Sound (carried_out v d)
      by (Ok (Read size number)) e = s
      by (Ok (Write which place x)) e = absurd (read_writes_nothing d index sub which place x e)
      by (Err abort) e = s

  pub write_sound : (index sub size number : ℕ) → Sound (carried_out (write_decision d index sub size number) d)
  write_sound index sub size number = by (write_decision d index sub size number) refl
    where
      by : (v : Result Decision Abort) → write_decision d index sub size number ≡ v → Sound (carried_out v d)
      by (Ok (Read n m)) e = s
      by (Ok (Write which place x)) e = let o = write_origin d index sub size number which place x e in written_sound s which place size x o.below o.accept
      by (Err abort) e = s

  -- it is read back: the same size, and the bytes that were written
  pub read_back : (index sub size number which place : ℕ) (x : ℤ) → Origin d index sub size number which place x → read_decision (written_to which place x d) index sub ≡ Ok (Read size (number % span size))
  unfolding read_decision read_of
  read_back index sub size number which place x o =
      rw (o.found, written_is_read s which place x o.below o.accept.range, o.stands, back_and_there, o.accept.sized)

-- every other object that can be written keeps its value
pub others_unchanged : {d : Device} → Sound d → {index sub size number which place : ℕ} {x : ℤ} → Origin d index sub size number which place x → (v k : ℕ) → Object v k → k < WRITABLE → value v k ≢ value which place → value_at (written_to which place x d) v k ≡ value_at d v k
others_unchanged {d} s {which} {place} {x} o v k q h n = others_are_kept s which place v k x o.object q o.below h n (λ e. o.accept.range)
