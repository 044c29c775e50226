-- What the machine says of signed numbers, said of the numbers. A signed local holds bits, so that a goal may speak of `to_z w (of_z w z)`, which is z where z fits. These laws read it in what a call told.
use mathlib.Core.Path.{◌≡◌, refl, sym, ap, ◌∙◌}
use mathlib.Core.Bool.{true, false}
use mathlib.Core.List.{List}
use Prim.Native.Nat.{ℕ, zero, suc, ◌/◌, ◌^◌, ◌<◌, ◌≤◌}
use native.Mathlib.Nat.{div-le_self}
use native.Mathlib.Omega.{arith}
use borrow.Author.Called.{Called}
use borrow.Author.Tests.{eq-eqb, ne_eqb, eqb-true}
use borrow.Fn.Kinds.{ParamKind, Dens, r_s_num}
use borrow.Fn.Args.{ArgsT, args_v}
use borrow.Table.Row.{Cx}
use borrow.Table.Typed.{Mo}
use contract.Lifetimes.{Lfts}
use lib.Dec.{T}
use lib.IntN.{ℤ, pos, negsuc, neg_ℤ, nat_abs}
use lib.Signed.{mag, quot_z, non_neg, ◌≤ℤ◌, yes_non_neg}
use mir.Syntax.{Width, w64}
use mir.Val.{Fits, SFits, to_z, of_z, hbits}
use mir.Facts.{to_z-of_z, Fits-nat_abs}
use Rattle.integers.specs.Words.{◌=?◌}
use Rattle.integers.proofs.Cases.{clash}

-- ---- equality as a test

pub =?-refl : (z : ℤ) → (z =? z) ≡ true
=?-refl (pos n) = eq-eqb n n refl
=?-refl (negsuc n) = eq-eqb n n refl

pub =?-yes : (a b : ℤ) → (a =? b) ≡ true → a ≡ b
=?-yes (pos a) (pos b) e = ap pos (eqb-true a b e)
=?-yes (pos a) (negsuc b) e = clash refl (sym e)
=?-yes (negsuc a) (pos b) e = clash refl (sym e)
=?-yes (negsuc a) (negsuc b) e = ap negsuc (eqb-true a b e)

pub =?-no : (a b : ℤ) → (a ≡ b → ⊥) → (a =? b) ≡ false
=?-no (pos a) (pos b) h = ne_eqb a b (λ e. h (ap pos e))
=?-no (pos a) (negsuc b) h = refl
=?-no (negsuc a) (pos b) h = refl
=?-no (negsuc a) (negsuc b) h = ne_eqb a b (λ e. h (ap negsuc e))

-- ---- what a call told
-- the range of a call's result, `c.f.type_inv`
pub ok_fits : {z : ℤ} → mag z < 2 ^ 63 → SFits w64 z
ok_fits h = record { sfits = h }

-- a quotient by a natural number fits where the dividend does
pub quot_fits : {w : Width} (a : ℤ) (d : ℕ) → SFits w a → SFits w (quot_z a (pos d))
quot_fits {w} a d f = record { sfits = by a (2 ^ hbits w) f.sfits }
  where
    neg : (q n : ℕ) → zero < n → q ≤ n → mag (neg_ℤ (pos q)) < n
    neg zero n g h = g
    neg (suc q) n g h = h

    by : (a : ℤ) (n : ℕ) → mag a < n → mag (quot_z a (pos d)) < n
    by (pos a) n h = omega (arith, div-le_self a d)
    by (negsuc a) n h = neg (suc a / d) n (omega arith) (omega (arith, div-le_self (suc a) d))

-- a call's result, read back: `c.f.type_inv` and `c.f.ensures`
pub result_told : {z y : ℤ} → mag z < 2 ^ 63 → z ≡ y → to_z w64 (of_z w64 z) ≡ y
result_told f e = to_z-of_z (ok_fits f) ∙ e

-- a number that is not below zero, cast to u64
pub unsigned : {z : ℤ} → SFits w64 z → pos 0 ≤ℤ z → T (non_neg z) × Fits w64 (nat_abs z)
unsigned f h = (yes_non_neg h, Fits-nat_abs {w = w64} tt f)

-- the result of a call, `c.f`, that ensures which number it is
pub told :
    {ps : List (ParamKind 0)} {f : (κs : Lfts 0) → Dens κs ps → ℤ} {Γ : Cx} {ar : ArgsT ps Γ.locals} {u : Mo Γ} →
    (c : Called ps (r_s_num w64) (λ κs a z e. z ≡ f κs a) Γ ar u) →
    to_z w64 (of_z w64 c.result) ≡ f c.lifetimes (args_v c.lifetimes ps Γ.locals ar u)
told c = result_told c.type_inv c.ensures
