-- Whole numbers for `omega`, which reads natural numbers alone. A whole number z is `up z - dn z`, so that an order or an equation of whole numbers is one of naturals, linear where it was:
--     a ≤ℤ b           up a + dn b ≤ up b + dn a
--     c ≡ a +ℤ b       up c + (dn a + dn b) ≡ dn c + (up a + up b)
-- `omega (arith, ints)` reads and proves `◌≤ℤ◌`, `◌<ℤ◌`, `◌≡◌` of ℤ, the tests `lt_z` and `le_z` with their outcomes, and `SFits`, also as fields of records. Of each sum, difference, negation and size that stands there it is handed the law: `omega (arith, ints, add_nat a b)`.
use mathlib.Core.Path.{◌≡◌, refl, sym, ap, subst}
use mathlib.Core.Bool.{Bool, true, false, not, cond}
use Prim.Native.Nat.{ℕ, zero, suc, ◌+◌, ◌-◌, ◌*◌, ◌^◌, ◌≤◌, ◌<◌}
use native.Mathlib.Omega.{arith}
use borrow.Author.Tests.{lt-ltb, le-ltb, le-leb, leb-false}
use lib.Dec.{T, ltb, ltb→lt, nltb→le, leb→le, le→leb, lt→ltb}
use lib.IntN.{ℤ, pos, negsuc, neg_ℤ, nat_abs, sub_ℕ, ◌+ℤ◌, ◌-ℤ◌, ◌*ℤ◌}
use lib.Signed.{mag, lt_z, le_z, ◌≤ℤ◌, ◌<ℤ◌, le_z_yes, lt_z_yes, lt_z_no}
use mir.Syntax.{Width}
use mir.Val.{SFits, hbits}

-- what z is above 0, and what it is below
abbrev pub up : ℤ → ℕ
up (pos n) = n
up (negsuc n) = 0

abbrev pub dn : ℤ → ℕ
dn (pos n) = 0
dn (negsuc n) = suc n

-- ---- an order or an equation in hand, as one of naturals

pub le_nat : {a b : ℤ} → a ≤ℤ b → up a + dn b ≤ up b + dn a
le_nat {a = pos a} {b = pos b} h = omega (arith, leb→le a b h.le)
le_nat {a = pos a} {b = negsuc b} h = absurd h.le
le_nat {a = negsuc a} {b = pos b} h = omega arith
le_nat {a = negsuc a} {b = negsuc b} h = omega (arith, leb→le b a h.le)

pub lt_nat : {a b : ℤ} → a <ℤ b → up a + dn b < up b + dn a
lt_nat {a = pos a} {b = pos b} h = omega (arith, ltb→lt a b h.lt)
lt_nat {a = pos a} {b = negsuc b} h = absurd h.lt
lt_nat {a = negsuc a} {b = pos b} h = omega arith
lt_nat {a = negsuc a} {b = negsuc b} h = omega (arith, ltb→lt b a h.lt)

pub test_lt : (a b : ℤ) → lt_z a b ≡ true → up a + dn b < up b + dn a
test_lt a b e = lt_nat (lt_z_yes {a = a} {b = b} (subst T (sym e) tt))

pub test_ge : (a b : ℤ) → lt_z a b ≡ false → up b + dn a ≤ up a + dn b
test_ge a b e = le_nat (lt_z_no {a = a} {b = b} (subst (λ (t : Bool). T (not t)) (sym e) tt))

pub test_le : (a b : ℤ) → le_z a b ≡ true → up a + dn b ≤ up b + dn a
test_le a b e = le_nat (le_z_yes {a = a} {b = b} (subst T (sym e) tt))

pub test_gt : (a b : ℤ) → le_z a b ≡ false → up b + dn a < up a + dn b
test_gt (pos a) (pos b) e = omega (arith, leb-false a b e)
test_gt (pos a) (negsuc b) e = omega arith
test_gt (negsuc a) (pos b) e = absurd (subst T e tt)
test_gt (negsuc a) (negsuc b) e = omega (arith, leb-false b a e)

pub eq_nat : {a b : ℤ} → a ≡ b → up a + dn b ≡ up b + dn a
eq_nat {a} {b} e = rw e (omega arith)

-- ---- and back

pub nat_le : {a b : ℤ} → up a + dn b ≤ up b + dn a → a ≤ℤ b
nat_le {a = pos a} {b = pos b} h = le_z_yes (le→leb a b (omega arith))
nat_le {a = pos a} {b = negsuc b} h = absurd (omega arith)
nat_le {a = negsuc a} {b = pos b} h = le_z_yes tt
nat_le {a = negsuc a} {b = negsuc b} h = le_z_yes (le→leb b a (omega arith))

pub nat_lt : {a b : ℤ} → up a + dn b < up b + dn a → a <ℤ b
nat_lt {a = pos a} {b = pos b} h = lt_z_yes (lt→ltb a b (omega arith))
nat_lt {a = pos a} {b = negsuc b} h = absurd (omega arith)
nat_lt {a = negsuc a} {b = pos b} h = lt_z_yes tt
nat_lt {a = negsuc a} {b = negsuc b} h = lt_z_yes (lt→ltb b a (omega arith))

pub nat_eq : {a b : ℤ} → up a + dn b ≡ up b + dn a → a ≡ b
nat_eq {a = pos a} {b = pos b} h = ap pos (omega arith)
nat_eq {a = pos a} {b = negsuc b} h = absurd (omega arith)
nat_eq {a = negsuc a} {b = pos b} h = absurd (omega arith)
nat_eq {a = negsuc a} {b = negsuc b} h = ap negsuc (omega arith)

pub nat_test_lt : (a b : ℤ) → up a + dn b < up b + dn a → lt_z a b ≡ true
nat_test_lt (pos a) (pos b) h = lt-ltb a b (omega arith)
nat_test_lt (pos a) (negsuc b) h = absurd (omega arith)
nat_test_lt (negsuc a) (pos b) h = refl
nat_test_lt (negsuc a) (negsuc b) h = lt-ltb b a (omega arith)

pub nat_test_ge : (a b : ℤ) → up b + dn a ≤ up a + dn b → lt_z a b ≡ false
nat_test_ge (pos a) (pos b) h = le-ltb a b (omega arith)
nat_test_ge (pos a) (negsuc b) h = refl
nat_test_ge (negsuc a) (pos b) h = absurd (omega arith)
nat_test_ge (negsuc a) (negsuc b) h = le-ltb b a (omega arith)

pub nat_test_le : (a b : ℤ) → up a + dn b ≤ up b + dn a → le_z a b ≡ true
nat_test_le (pos a) (pos b) h = le-leb a b (omega arith)
nat_test_le (pos a) (negsuc b) h = absurd (omega arith)
nat_test_le (negsuc a) (pos b) h = refl
nat_test_le (negsuc a) (negsuc b) h = le-leb b a (omega arith)

-- ---- the operations

pub neg_nat : (a : ℤ) → up (neg_ℤ a) + up a ≡ dn (neg_ℤ a) + dn a
neg_nat (pos zero) = refl
neg_nat (pos (suc n)) = omega arith
neg_nat (negsuc n) = omega arith

subℕ_nat : (a b : ℕ) → up (sub_ℕ a b) + b ≡ dn (sub_ℕ a b) + a
subℕ_nat a b = by (ltb a b) (ltb→lt a b) (nltb→le a b)
  where
    by : (t : Bool) → (T t → a < b) → (T (not t) → b ≤ a) → up (cond t (negsuc (b - suc a)) (pos (a - b))) + b ≡ dn (cond t (negsuc (b - suc a)) (pos (a - b))) + a
    by true f g = omega (arith, f tt)
    by false f g = omega (arith, g tt)

pub add_nat : (a b : ℤ) → up (a +ℤ b) + (dn a + dn b) ≡ dn (a +ℤ b) + (up a + up b)
add_nat (pos a) (pos b) = omega arith
add_nat (pos a) (negsuc b) = omega (arith, subℕ_nat a (suc b))
add_nat (negsuc a) (pos b) = omega (arith, subℕ_nat b (suc a))
add_nat (negsuc a) (negsuc b) = omega arith

pub sub_nat : (a b : ℤ) → up (a -ℤ b) + (dn a + up b) ≡ dn (a -ℤ b) + (up a + dn b)
sub_nat a b = omega (arith, add_nat a (neg_ℤ b), neg_nat b)

-- ---- the size. A difference of naturals is cut off at 0, so that one of the two is 0 whatever is known of `up z` and `dn z`

pub abs_nat : (z : ℤ) → nat_abs z ≡ (up z - dn z) + (dn z - up z)
abs_nat (pos n) = omega arith
abs_nat (negsuc n) = omega arith

-- and with no difference, where the sign is known
pub abs_high : (z : ℤ) → pos 0 ≤ℤ z → nat_abs z + dn z ≡ up z
abs_high z h = omega (arith, le_nat h, abs_nat z)

pub abs_low : (z : ℤ) → z ≤ℤ pos 0 → nat_abs z + up z ≡ dn z
abs_low z h = omega (arith, le_nat h, abs_nat z)

pub mag_nat : (z : ℤ) → mag z ≡ (up z - dn z) + (dn z - up z - 1)
mag_nat (pos n) = omega arith
mag_nat (negsuc n) = omega arith

pub abs_neg : (z : ℤ) → nat_abs (neg_ℤ z) ≡ nat_abs z
abs_neg z = omega (arith, abs_nat z, abs_nat (neg_ℤ z), neg_nat z)

pub abs_mul : (a b : ℤ) → nat_abs (a *ℤ b) ≡ nat_abs a * nat_abs b
abs_mul (pos a) (pos b) = refl
abs_mul (pos a) (negsuc b) = abs_neg (pos (a * suc b))
abs_mul (negsuc a) (pos b) = abs_neg (pos (suc a * b))
abs_mul (negsuc a) (negsuc b) = refl

-- a signed type holds z
pub nat_fits : {w : Width} (z : ℤ) → (up z - dn z) + (dn z - up z) < 2 ^ hbits w → SFits w z
nat_fits z h = record { sfits = omega (arith, mag_nat z) }

pub ruleset ints = (le_nat, lt_nat, eq_nat, test_lt, test_ge, test_le, test_gt, nat_le, nat_lt, nat_eq, nat_test_lt, nat_test_ge, nat_test_le, nat_fits)
