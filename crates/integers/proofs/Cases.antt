-- A test has two outcomes: what is shown from each holds. Laws on a choice by a test, and on two tests that agree.
use mathlib.Core.Path.{◌≡◌, refl, sym, ◌∙◌}
use mathlib.Core.Bool.{Bool, true, false, cond, true≢false}
use Prim.Native.Nat.{ℕ, ◌≤◌, ◌<◌}
use native.Mathlib.Omega.{arith}
use borrow.Author.Tests.{ltb-true, ltb-false}
use lib.Dec.{ltb}
use lib.IntN.{ℤ}
use lib.Signed.{lt_z, ◌≤ℤ◌, ◌<ℤ◌}
use Rattle.integers.proofs.Linear.{ints}

pub by_cases {ℓ} : (t : Bool) {X : Type ℓ} → (t ≡ true → X) → (t ≡ false → X) → X
by_cases true f g = f refl
by_cases false f g = g refl

-- what holds of both values, each under its outcome, holds of the choice
pub by_test {ℓ} : {A : Type 0} (P : A → Type ℓ) (t : Bool) {x y : A} → (t ≡ true → P x) → (t ≡ false → P y) → P (cond t x y)
by_test P true f g = f refl
by_test P false f g = g refl

pub by_less {ℓ} : (a b : ℕ) {X : Type ℓ} → (a < b → X) → (b ≤ a → X) → X
by_less a b f g = by_cases (ltb a b) (λ e. f (ltb-true a b e)) (λ e. g (ltb-false a b e))

pub by_less_ℤ {ℓ} : (a b : ℤ) {X : Type ℓ} → (a <ℤ b → X) → (b ≤ℤ a → X) → X
by_less_ℤ a b f g = by_cases (lt_z a b) (λ e. f (omega (arith, ints))) (λ e. g (omega (arith, ints)))

-- no test has both outcomes
pub clash {ℓ} : {X : Type ℓ} {t : Bool} → t ≡ true → t ≡ false → X
clash e f = absurd (true≢false (sym e ∙ f))

-- nor are two constructors equal: of two values that should be, `cc` shows 0 equal to 1
pub apart {ℓ} : {X : Type ℓ} → ◌≡◌ {A = ℕ} 0 1 → X
apart e = absurd (never e)
  where
    never : ◌≡◌ {A = ℕ} 0 1 → ⊥
    never e = omega arith

-- two tests agree where each outcome of the first is the second's
pub lt_z_same : (a b c d : ℤ) → (a <ℤ b → c <ℤ d) → (b ≤ℤ a → d ≤ℤ c) → lt_z c d ≡ lt_z a b
lt_z_same a b c d f g =
    by_cases (lt_z a b)
    (λ e. let k : c <ℤ d = f (omega (arith, ints)) in sym (e ∙ sym (omega (arith, ints))))
    (λ e. let k : d ≤ℤ c = g (omega (arith, ints)) in sym (e ∙ sym (omega (arith, ints))))
