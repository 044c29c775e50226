-- A test of each number below n: what it says of one number, what shows it, and what a loop that stops at the first failure has shown.
use mathlib.Core.Path.{◌≡◌, refl, sym, subst}
use mathlib.Core.Bool.{Bool, true, false, ◌&&◌, and-false}
use mathlib.Core.Logic.{⊎_elim}
use Prim.Native.Nat.{ℕ, zero, suc, ◌+◌, ◌<◌}
use native.Mathlib.Numerals.{add-one}
use native.Mathlib.Nat.{not-suc-le-zero, le_of_suc-le-suc, eq-or-lt_of_le}
use native.Mathlib.Omega.{arith}
use Rattle.integers.specs.Words.{each}

-- both tests hold where their conjunction does
pub and_split : (a b : Bool) → (a && b) ≡ true → (a ≡ true) × (b ≡ true)
and_split true b e = (refl, e)
and_split false b e = (e, cc)

pub and_both : {a b : Bool} → a ≡ true → b ≡ true → (a && b) ≡ true
and_both p q = simp (p, q)

pub each_none : (f : ℕ → Bool) → each 0 f ≡ true
unfolding each
each_none f = refl

pub each_more : (n : ℕ) (f : ℕ → Bool) → each n f ≡ true → f n ≡ true → each (n + 1) f ≡ true
unfolding each
each_more n f h e = rw add-one (and_both h e)

pub each_fails : (n : ℕ) (f : ℕ → Bool) (k : ℕ) → k < n → f k ≡ false → each n f ≡ false
unfolding each
each_fails zero f k h e = absurd (not-suc-le-zero h)
each_fails (suc n) f k h e =
    ⊎_elim (λ (q : k ≡ n). simp (← q, e, and-false)) (λ (q : k < n). simp (each_fails n f k q e)) (eq-or-lt_of_le (le_of_suc-le-suc h))

pub each_at : (n : ℕ) (f : ℕ → Bool) (k : ℕ) → each n f ≡ true → k < n → f k ≡ true
unfolding each
each_at zero f k t h = absurd (not-suc-le-zero h)
each_at (suc n) f k t h =
    let s = and_split (each n f) (f n) t in
    ⊎_elim (λ (q : k ≡ n). subst (λ (m : ℕ). f m ≡ true) (sym q) s.1) (λ (q : k < n). each_at n f k s.0 q) (eq-or-lt_of_le (le_of_suc-le-suc h))

-- four tests, two and two
pub and_across : (a b c d : Bool) → ((a && b) && (c && d)) ≡ ((a && c) && (b && d))
and_across true true c d = refl
and_across true false true d = refl
and_across true false false d = refl
and_across false b c d = refl

-- two tests of each number are one test of each and the other
pub each_and : (n : ℕ) (f g : ℕ → Bool) → each n (λ k. f k && g k) ≡ (each n f && each n g)
unfolding each
each_and zero f g = refl
each_and (suc n) f g = rw (each_and n f g) (and_across (each n f) (each n g) (f n) (g n))

pub each_all : (n : ℕ) (f : ℕ → Bool) → ((k : ℕ) → k < n → f k ≡ true) → each n f ≡ true
unfolding each
each_all zero f h = refl
each_all (suc n) f h = and_both (each_all n f (λ k p. h k (omega arith))) (h n (omega arith))
