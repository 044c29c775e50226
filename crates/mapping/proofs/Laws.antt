-- What stands at a sub-index after a write; a table of three by its places; the bytes of one entry more.
use mathlib.Core.Bool.{Bool, true, false, ◌&&◌, ◌||◌}
use mathlib.Core.List.{List, [], ◌∷◌}
use mathlib.Core.Logic.{◌≢◌}
use mathlib.Core.Path.{◌≡◌, refl, sym, ◌∙◌}
use Prim.Native.Nat.{ℕ, zero, suc, ◌+◌, ◌-◌, ◌≤◌, ◌<◌}
use native.Mathlib.Omega.{arith}
use borrow.Author.Tests.{eqb-true, eqb-false, ne_eqb}
use lib.ListN.{length, get_or, take}
use lib.Seq.{get_or-set_same, get_or-set_other}
use Rattle.std.specs.List.{list_all, enumerate_from}
use Rattle.std.proofs.lemmas.List.Folds.{list_all_more}
use Rattle.integers.specs.Words.{each, ◌is◌, ◌among◌}
use Rattle.integers.proofs.Cases.{by_cases, clash}
use Rattle.mapping.specs.Maps.{bytes_of, stands_at, with_at, length_of}
use Rattle.mapping.specs.declared.Map.{Map}

-- ---- a write

-- what was written stands there
pub at_written : (sub number : ℕ) (m : Map) → sub ≤ length m.entries → stands_at (with_at sub number m) sub ≡ number
unfolding stands_at with_at
at_written sub number m h =
    by_cases (sub is 0) (λ e. rw e)
    (λ e. let later = eqb-false sub 0 e in rw e (get_or-set_same m.entries (sub - 1) number 0 (omega arith)))

-- and all else as before
pub at_others : (sub k number : ℕ) (m : Map) → k ≢ sub → stands_at (with_at sub number m) k ≡ stands_at m k
unfolding stands_at with_at
at_others sub k number m n =
    by_cases (sub is 0)
    (λ e. let first = eqb-true sub 0 e in let later : (k is 0) ≡ false = ne_eqb k 0 (λ z. n (z ∙ sym first)) in rw (e, later))
    (λ e. by_cases (k is 0) (λ f. rw (e, f))
    (λ f. let one = eqb-false sub 0 e in let two = eqb-false k 0 f in rw (e, f) (get_or-set_other m.entries (sub - 1) (k - 1) number 0 (λ q. n (omega arith)))))

-- ---- tables of three

-- of three tests the first two tell, and else the third
two_of_three : (a b c : Bool) → (a || b) ≡ true → (a || (b || (c || false))) ≡ true
two_of_three true b c e = refl
two_of_three false true c e = refl
two_of_three false false c e = clash e refl

third_of_three : (a b c : Bool) → (a || b) ≡ false → (a || (b || (c || false))) ≡ c
third_of_three true b c e = clash refl e
third_of_three false true c e = clash refl e
third_of_three false false true e = refl
third_of_three false false false e = refl

-- so of a table of three
pub among_two : (n : ℕ) (l : List ℕ) → length l ≡ 3 → (n is get_or l 0 0 || n is get_or l 1 0) ≡ true → (n among l) ≡ true
among_two n [] e h = absurd (omega arith)
among_two n (a ∷ []) e h = absurd (omega arith)
among_two n (a ∷ b ∷ []) e h = absurd (omega arith)
among_two n (a ∷ b ∷ c ∷ []) e h = two_of_three (n is a) (n is b) (n is c) h
among_two n (a ∷ b ∷ c ∷ d ∷ l) e h = absurd (omega arith)

pub among_third : (n : ℕ) (l : List ℕ) → length l ≡ 3 → (n is get_or l 0 0 || n is get_or l 1 0) ≡ false → (n among l) ≡ (n is get_or l 2 0)
among_third n [] e h = absurd (omega arith)
among_third n (a ∷ []) e h = absurd (omega arith)
among_third n (a ∷ b ∷ []) e h = absurd (omega arith)
among_third n (a ∷ b ∷ c ∷ []) e h = third_of_three (n is a) (n is b) (n is c) h
among_third n (a ∷ b ∷ c ∷ d ∷ l) e h = absurd (omega arith)

-- ---- tests of entries in a row

-- the test of the first n is the test of each below n
pub all_of_first : (test : ℕ → Bool) (entries : List ℕ) (n : ℕ) → n ≤ length entries → list_all test (take n entries) ≡ each n (λ k. test (get_or entries k 0))
unfolding each
all_of_first test entries zero h = refl
all_of_first test entries (suc n) h =
    let next : n + 1 ≡ suc n = omega arith in
    rw next at (list_all_more test entries n 0 (omega arith)) ∙ rw (all_of_first test entries n (omega arith)) refl

in_turn : (a b c d : Bool) → (a && (b && (c && (d && true)))) ≡ (((a && b) && c) && d)
in_turn true true true true = refl
in_turn true true true false = refl
in_turn true true false d = refl
in_turn true false c d = refl
in_turn false b c d = refl

-- and the test of four with their places is the test of each place
pub all_of_four : (test : ℕ → ℕ → Bool) (entries : List ℕ) → length entries ≡ 4 → list_all (λ (p : ℕ × ℕ). test p.0 p.1) (enumerate_from 0 entries) ≡ each 4 (λ k. test k (get_or entries k 0))
unfolding each
all_of_four test [] e = absurd (omega arith)
all_of_four test (a ∷ []) e = absurd (omega arith)
all_of_four test (a ∷ b ∷ []) e = absurd (omega arith)
all_of_four test (a ∷ b ∷ c ∷ []) e = absurd (omega arith)
all_of_four test (a ∷ b ∷ c ∷ d ∷ []) e = in_turn (test 0 a) (test 1 b) (test 2 c) (test 3 d)
all_of_four test (a ∷ b ∷ c ∷ d ∷ f ∷ l) e = absurd (omega arith)

-- ---- lengths

-- one entry more takes its bytes more
pub length_more : (entries : List ℕ) (k : ℕ) → k < length entries → length_of (take (k + 1) entries) ≡ length_of (take k entries) + bytes_of (get_or entries k 0)
length_more [] k h = absurd (omega arith)
length_more (entry ∷ entries) zero h = omega arith
length_more (entry ∷ entries) (suc k) h =
    let next : suc k + 1 ≡ suc (k + 1) = omega arith in
    rw (next, length_more entries k (omega arith)) (omega arith)
