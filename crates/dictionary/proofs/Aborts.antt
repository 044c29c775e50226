-- Where an abort comes from. Each test of the order gives its code or passes on; so what holds of the fifth place's abort where sizes differ, of an abort with another place's code, and of all that is not aborted holds of every decision.
use Rattle.std.specs.Prelude.{Option, Some, None, Result, Ok, Err}
use mathlib.Core.Bool.{Bool, true, false, not, ◌&&◌}
use mathlib.Core.List.{List, [], ◌∷◌}
use mathlib.Core.Logic.{◌≢◌}
use mathlib.Core.Path.{◌≡◌, refl}
use Prim.Native.Nat.{ℕ, ◌<◌}
use native.Mathlib.Omega.{arith}
use borrow.Author.Tests.{eqb-false, ne_eqb, lt-ltb, le-ltb, not-true, not-false}
use lib.Dec.{eqb, ltb}
use lib.IntN.{ℤ}
use lib.Signed.{lt_z}
use Rattle.integers.specs.Words.{◌among◌}
use Rattle.integers.proofs.Cases.{by_test}
use Rattle.integers.proofs.Each.{and_split}
use Rattle.objects.specs.Places.{WRITABLE}
use Rattle.objects.specs.Table.{row_at}
use Rattle.objects.specs.Lookup.{place_of, entry_at}
use Rattle.objects.specs.declared.Place.{Place}
use Rattle.objects.specs.declared.Entry.{Entry}
use Rattle.objects.specs.declared.Entry.TheVariants.{Value, Fixed}
use Rattle.objects.proofs.Rules.{writable_below}
use Rattle.mapping.specs.declared.Misfit.{Misfit}
use Rattle.mapping.specs.declared.Misfit.TheVariants.{WhileCounted, AboveFour, NotMappable as MisfitNotMappable}
use Rattle.device.specs.Device.{block_of}
use Rattle.device.specs.declared.Device.{Device}
use Rattle.dictionary.specs.Aborts.{UNKNOWN_COMMAND, NO_OBJECT, NO_SUB_INDEX, READ_ONLY_ENTRY, TOO_MANY_BYTES, TOO_FEW_BYTES, TOO_HIGH, TOO_LOW, NO_SUCH_CHOICE, LIMITS_CROSSED, LOCKED_NOW, MAP_TOO_LONG, NOT_MAPPABLE, code_of_abort}
use Rattle.dictionary.specs.Named.{Named, value, byte, nothing, entered, located, named}
use Rattle.dictionary.specs.Decide.{size_abort, range_abort, crosses, is_locked, map_ruling, ruled, verdict_on, read_of, read_decision, write_of, write_decision}
use Rattle.dictionary.specs.declared.Decision.{Decision}
use Rattle.dictionary.specs.declared.Decision.TheVariants.{Read, Write}
use Rattle.dictionary.specs.declared.Abort.{Abort}
use Rattle.dictionary.specs.declared.Abort.TheVariants.{ReadOnlyEntry, Other as CallersOwn}
use Rattle.dictionary.specs.declared.Abort.TheVariants.{TooHigh, TooLow, LimitsCrossed, LockedNow, MapTooLong, NotMappable}
use Rattle.dictionary.proofs.Laws.{InTable, named_in_table}

-- the codes of all places but the fifth
abbrev pub OTHERS : List ℕ
OTHERS = UNKNOWN_COMMAND ∷ NO_OBJECT ∷ NO_SUB_INDEX ∷ READ_ONLY_ENTRY ∷ TOO_HIGH ∷ TOO_LOW ∷ NO_SUCH_CHOICE ∷ LIMITS_CROSSED ∷ LOCKED_NOW ∷ MAP_TOO_LONG ∷ NOT_MAPPABLE ∷ []

-- document 01's own aborts: each but a code of a caller's own
abbrev pub listed_abort : Abort → Bool
listed_abort (CallersOwn code) = false
listed_abort abort = true

-- one of them, with another place's code
abbrev pub Other : Abort → Type 0
Other abort = listed_abort abort && code_of_abort abort among OTHERS ≡ true

pub other_listed : (abort : Abort) → Other abort → listed_abort abort ≡ true
other_listed abort o = (and_split (listed_abort abort) (code_of_abort abort among OTHERS) o).0

pub other_code : (abort : Abort) → Other abort → code_of_abort abort among OTHERS ≡ true
other_code abort o = (and_split (listed_abort abort) (code_of_abort abort among OTHERS) o).1

-- a choice's abort, for either way out of its range, is one too
range_other : (choice : Bool) (abort : Abort) → Other abort → Other (range_abort choice abort)
range_other true abort h = refl
range_other false abort h = h

-- ---- the fifth place's code says which way the sizes differ

pub code_of_more : {has sent : ℕ} → has < sent → code_of_abort (size_abort has sent) ≡ TOO_MANY_BYTES
code_of_more {has} {sent} h = rw (lt-ltb has sent h)

pub code_of_fewer : {has sent : ℕ} → sent < has → code_of_abort (size_abort has sent) ≡ TOO_FEW_BYTES
code_of_fewer {has} {sent} h = rw (le-ltb has sent (omega arith))

-- ---- the verdict on a write

-- the fifth place is met where the object can be written and the sizes differ, whatever the value is
pub size_aborts : (d : Device) (which place size : ℕ) (x : ℤ) → (row_at place).writable ≡ true → (row_at place).size ≢ size → verdict_on d which place size x ≡ Err (size_abort (row_at place).size size)
unfolding verdict_on
size_aborts d which place size x w n = rw (w, ne_eqb (row_at place).size size n)

-- and nowhere else: a verdict is that abort, an abort with another place's code, or the write
by_verdict : (P : Result Decision Abort → Type 0) (d : Device) (which place size : ℕ) (x : ℤ) → ((row_at place).writable ≡ true → (row_at place).size ≢ size → P (Err (size_abort (row_at place).size size))) → ((abort : Abort) → Other abort → P (Err abort)) → P (Ok (Write which place x)) → P (verdict_on d which place size x)
unfolding verdict_on
by_verdict P d which place size x differ other written =
    let row = row_at place in
    by_test P (not row.writable) (λ w. other ReadOnlyEntry refl)
    (λ w. by_test P (not (eqb row.size size)) (λ n. differ (not-false _ w) (eqb-false _ _ (not-true _ n)))
    (λ n. by_test P (lt_z row.high x) (λ h. other _ (range_other row.choice TooHigh refl))
    (λ h. by_test P (lt_z x row.low) (λ l. other _ (range_other row.choice TooLow refl))
    (λ l. by_test P (crosses (block_of which d) place x) (λ c. other LimitsCrossed refl)
    (λ c. by_test P (is_locked row.lock d.state) (λ k. other LockedNow refl) (λ k. by_ruling (map_ruling d.maps place x)))))))
  where
    by_ruling : (r : Result (Unit {0}) Misfit) → P (ruled r which place x)
    by_ruling (Ok taken) = written
    by_ruling (Err WhileCounted) = other LockedNow refl
    by_ruling (Err AboveFour) = other MapTooLong refl
    by_ruling (Err MisfitNotMappable) = other NotMappable refl

-- ---- decisions

-- the abort with which nothing is named is another place's
abbrev pub OtherCode : Named → Type 0
OtherCode (value which place) = Unit {0}
OtherCode (byte number) = Unit {0}
OtherCode (nothing abort) = Other abort

entered_code : (which place : ℕ) (entry : Option Entry) → OtherCode (entered which place entry)
entered_code which place (Some (Value k)) = tt
entered_code which place (Some (Fixed number)) = tt
entered_code which place None = refl

pub named_code : (index sub : ℕ) → OtherCode (named index sub)
unfolding named
named_code index sub = by (place_of index)
  where
    by : (found : Option Place) → OtherCode (located found sub)
    by (Some p) = entered_code p.which p.place (entry_at (row_at p.place).entries sub)
    by None = refl

-- a read is aborted with another place's code alone
pub by_read : (P : Result Decision Abort → Type 0) (d : Device) (index sub : ℕ) → ((abort : Abort) → Other abort → P (Err abort)) → ((size number : ℕ) → P (Ok (Read size number))) → P (read_decision d index sub)
unfolding read_decision read_of
by_read P d index sub other done = by (named index sub) (named_code index sub)
  where
    by : (n : Named) → OtherCode n → P (read_of d n)
    by (value which place) o = done _ _
    by (byte number) o = done 1 number
    by (nothing abort) o = other abort o

-- and a write at the fifth place too, where what is named can be written and the sizes differ
pub by_write : (P : Result Decision Abort → Type 0) (d : Device) (index sub size number : ℕ) → ((which place : ℕ) → named index sub ≡ value which place → place < WRITABLE → (row_at place).size ≢ size → P (Err (size_abort (row_at place).size size))) → ((abort : Abort) → Other abort → P (Err abort)) → ((which place : ℕ) (x : ℤ) → P (Ok (Write which place x))) → P (write_decision d index sub size number)
unfolding write_decision write_of
by_write P d index sub size number differ other done = by (named index sub) refl (named_in_table index sub) (named_code index sub)
  where
    by : (n : Named) → named index sub ≡ n → InTable n → OtherCode n → P (write_of d size number n)
    by (value which place) f h o = by_verdict P d which place size _ (λ w n. differ which place f (writable_below place h.row w) n) other (done which place _)
    by (byte fixed) f h o = other ReadOnlyEntry refl
    by (nothing abort) f h o = other abort o

-- ---- no decision aborts by a code of a caller's own

abbrev pub AbortListed : {A : Type 0} → Result A Abort → Type 0
AbortListed (Ok decided) = Unit {0}
AbortListed (Err abort) = listed_abort abort ≡ true

-- the fifth place's is document 01's too, whichever way the sizes differ
pub size_listed : (has sent : ℕ) → listed_abort (size_abort has sent) ≡ true
size_listed has sent = by_test (λ (abort : Abort). listed_abort abort ≡ true) (ltb has sent) (λ e. refl) (λ e. refl)

pub read_listed : (d : Device) (index sub : ℕ) → AbortListed (read_decision d index sub)
read_listed d index sub = by_read AbortListed d index sub other_listed (λ size number. tt)

pub write_listed : (d : Device) (index sub size number : ℕ) → AbortListed (write_decision d index sub size number)
write_listed d index sub size number = by_write AbortListed d index sub size number (λ which place n b s. size_listed _ _) other_listed (λ which place x. tt)
