-- Chunks in a row: the records of the second are judged after those of the first, as those of one list. Only whole records count.
use mathlib.Core.List.{List, ◌++◌}
use mathlib.Core.Path.{◌≡◌, refl, ◌∙◌}
use Prim.Native.Nat.{ℕ, zero, suc, ◌+◌, ◌*◌, ◌/◌, ◌%◌, ◌<◌, ◌≤◌}
use native.Mathlib.Nat.{add-zero, add-suc}
use native.Mathlib.Omega.{arith}
use lib.ListN.{length, drop, length-append, length-drop}
use lib.Seq.{take-append-le, drop-append-le, drop-append-add}
use Rattle.judging.specs.Judging.{case_at, judged_case, judged, judged_all}
use Rattle.judging.specs.declared.Tally.{Tally}

-- a record of the first list, and one of the second
case_first : (k : ℕ) (a b : List ℕ) → 16 * k + 16 ≤ length a → case_at (a ++ b) k ≡ case_at a k
case_first k a b h = rw (drop-append-le (16 * k) a b (omega arith), take-append-le 16 (drop (16 * k) a) b (omega (arith, length-drop (16 * k) a)))

case_second : (k n : ℕ) (a b : List ℕ) → length a ≡ 16 * n → case_at (a ++ b) (n + k) ≡ case_at b k
case_second k n a b e =
    let place : 16 * (n + k) ≡ length a + 16 * k = omega arith in
    rw (place, drop-append-add a b (16 * k))

-- one record more; a lemma of its own, so that the inductions below compute nothing of what judges it
one_more : {case other : List ℕ} {t u : Tally} → case ≡ other → t ≡ u → judged_case case t ≡ judged_case other u
one_more e f = rw (e, f)

-- the records of the first list, and those of both
judged_first : (n : ℕ) (a b : List ℕ) (t : Tally) → 16 * n ≤ length a → judged n (a ++ b) t ≡ judged n a t
unfolding judged
judged_first zero a b t h = refl
judged_first (suc n) a b t h = one_more (case_first n a b (omega arith)) (judged_first n a b t (omega arith))

judged_both : (m n : ℕ) (a b : List ℕ) (t : Tally) → length a ≡ 16 * n → judged (n + m) (a ++ b) t ≡ judged m b (judged n a t)
unfolding judged
judged_both zero n a b t e = rw add-zero (judged_first n a b t (omega arith))
judged_both (suc m) n a b t e = rw add-suc (one_more (case_second m n a b e) (judged_both m n a b t e))

-- two chunks in a row give what one gives
pub two_chunks : (a b : List ℕ) (t : Tally) → length a % 16 ≡ 0 → judged_all (a ++ b) t ≡ judged_all b (judged_all a t)
two_chunks a b t e =
    let all : length (a ++ b) / 16 ≡ length a / 16 + length b / 16 = omega (arith, length-append a b) in
    rw all (judged_both (length b / 16) (length a / 16) a b t (omega arith))

-- a trailing part record is ignored
pub part_ignored : (a part : List ℕ) (t : Tally) → length a % 16 ≡ 0 → length part < 16 → judged_all (a ++ part) t ≡ judged_all a t
unfolding judged
part_ignored a part t e h =
    let none : length part / 16 ≡ 0 = omega arith in
    two_chunks a part t e ∙ rw none
