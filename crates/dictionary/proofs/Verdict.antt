-- The rules of a write in turn, as the code goes through them: each aborts it or lets it through.
use Rattle.std.specs.Prelude.{Result, Ok, Err, if◌then◌else◌}
use mathlib.Core.Bool.{Bool, true, false, not, cond}
use mathlib.Core.Path.{◌≡◌, refl, sym, ◌∙◌}
use Prim.Native.Nat.{ℕ}
use lib.IntN.{ℤ}
use Rattle.integers.specs.Range.{Within}
use Rattle.integers.specs.Words.{◌is◌, ◌<?◌}
use Rattle.integers.proofs.Cases.{by_cases, apart}
use Rattle.objects.specs.Table.{row_at, InRange}
use Rattle.objects.specs.declared.Row.{Row}
use Rattle.coding.specs.Coding.{value_of}
use Rattle.device.specs.Device.{block_of}
use Rattle.device.specs.declared.Device.{Device}
use Rattle.dictionary.specs.Named.{value}
use Rattle.dictionary.specs.Decide.{size_abort, range_abort, range_rule, crosses, is_locked, map_ruling, ruled, verdict_on, write_of}
use Rattle.dictionary.specs.declared.Decision.{Decision}
use Rattle.dictionary.specs.declared.Abort.{Abort}
use Rattle.dictionary.specs.declared.Abort.TheVariants.{ReadOnlyEntry, TooHigh, TooLow, LimitsCrossed, LockedNow}
use Rattle.dictionary.proofs.Laws.{between}

abbrev pub in_turn : Result (Unit {0}) Abort → Result Decision Abort → Result Decision Abort
in_turn (Ok passes) rest = rest
in_turn (Err abort) rest = Err abort

-- places 4 and 5
abbrev pub access_rule : Row → Result (Unit {0}) Abort
access_rule row = if not row.writable then Err ReadOnlyEntry else Ok tt

abbrev pub size_rule : Row → ℕ → Result (Unit {0}) Abort
size_rule row size = if row.size is size then Ok tt else Err (size_abort row.size size)

-- place 6: what passes lies in its row's range
pub range_kept : (place : ℕ) {row : Row} → row ≡ row_at place → {x : ℤ} {range : Result (Unit {0}) Abort} → range ≡ range_rule row x → {u : Unit {0}} → range ≡ Ok u → InRange place x
range_kept place {row} e {x} d p = rw e at (by (row.high <? x) (x <? row.low) refl refl (sym d ∙ p))
  where
    by : (high low : Bool) → (row.high <? x) ≡ high → (x <? row.low) ≡ low → {u : Unit {0}} → cond high (Err (range_abort row.choice TooHigh)) (cond low (Err (range_abort row.choice TooLow)) (Ok tt)) ≡ Ok u → Within row.low row.high x
    by true low h l p = apart (cc)
    by false true h l p = apart (cc)
    by false false h l p = between h l

module _ (d : Device) (which place size number : ℕ) {row : Row} (looked : row ≡ row_at place) {x : ℤ} (told : x ≡ value_of row.size row.signed number) where
  pub verdict_in_turn :
      {access bytes range limits lock : Result (Unit {0}) Abort} →
      access ≡ access_rule row → bytes ≡ size_rule row size → range ≡ range_rule row x →
      limits ≡ (if crosses (block_of which d) place x then Err LimitsCrossed else Ok tt) →
      lock ≡ (if is_locked row.lock d.state then Err LockedNow else Ok tt) →
      write_of d size number (value which place)
      ≡ in_turn access (in_turn bytes (in_turn range (in_turn limits (in_turn lock (ruled (map_ruling d.maps place x) which place x)))))
  unfolding write_of verdict_on
  verdict_in_turn access bytes range limits lock =
      rw (access, bytes, range, limits, lock, told, looked) (by (value_of (row_at place).size (row_at place).signed number))
    where
      by : (x : ℤ) → verdict_on d which place size x
          ≡ in_turn (access_rule (row_at place)) (in_turn (size_rule (row_at place) size)
          (in_turn (range_rule (row_at place) x)
          (in_turn (if crosses (block_of which d) place x then Err LimitsCrossed else Ok tt)
          (in_turn (if is_locked (row_at place).lock d.state then Err LockedNow else Ok tt) (ruled (map_ruling d.maps place x) which place x)))))
      by x =
          let row = row_at place in
          by_cases (not row.writable) (λ a. by_cases (row.size is size) (λ b. simp (a, b)) (λ b. simp (a, b)))
          (λ a. by_cases (row.size is size)
          (λ b. by_cases (row.high <? x) (λ c. rw (a, b, c))
          (λ c. by_cases (x <? row.low) (λ e. rw (a, b, c, e))
          (λ e. by_cases (crosses (block_of which d) place x) (λ f. rw (a, b, c, e, f))
          (λ f. by_cases (is_locked row.lock d.state) (λ g. rw (a, b, c, e, f, g)) (λ g. rw (a, b, c, e, f, g))))))
          (λ b. rw (a, b)))
