-- Where a whole number lies, step by step through an expression: each law takes what is known of the parts to what is known of the whole. At literals the ends compute, so that a sum, a product or a quotient fits is `fits (plus p q) tt tt`.
use mathlib.Core.Path.{◌≡◌}
use Prim.Native.Nat.{ℕ, zero, suc, ◌+◌, ◌*◌, ◌/◌, ◌^◌, ◌≤◌, ◌<◌, max}
use native.Mathlib.Nat.{mul-le-mul, le-div_iff_mul-le, div-add-mod', div-zero, zero-lt-suc}
use native.Mathlib.Omega.{arith}
use lib.Dec.{T, ltb, ltb→lt}
use lib.IntN.{ℤ, pos, negsuc, neg_ℤ, nat_abs, ◌+ℤ◌, ◌-ℤ◌, ◌*ℤ◌}
use lib.Signed.{mag, le_z, quot_z, ◌≤ℤ◌, le_z_yes}
use mir.Syntax.{Width}
use mir.Val.{SFits, hbits}
use Rattle.integers.specs.Words.{minus}
use Rattle.integers.specs.Range.{Within}
use Rattle.integers.proofs.Linear.{ints, up, dn, le_nat, add_nat, sub_nat, neg_nat, abs_nat, abs_mul, mag_nat}

module _ {l h a : ℤ} (p : Within l h a) where
  pub wider : {l' h' : ℤ} → T (le_z l' l) → T (le_z h h') → Within l' h' a
  wider {l'} {h'} s t = let x = le_z_yes {a = l'} {b = l} s in let y = le_z_yes {a = h} {b = h'} t in omega (arith, ints)

  pub same : {b : ℤ} → b ≡ a → Within l h b
  same e = omega (arith, ints)

  pub fits : {w : Width} → T (ltb (mag l) (2 ^ hbits w)) → T (ltb (mag h) (2 ^ hbits w)) → SFits w a
  fits {w} s t = record { sfits = by a (2 ^ hbits w) (le_nat p.from) (le_nat p.to) (ltb→lt (mag l) (2 ^ hbits w) s) (ltb→lt (mag h) (2 ^ hbits w) t) }
    where
      by : (a : ℤ) (n : ℕ) → up l + dn a ≤ up a + dn l → up a + dn h ≤ up h + dn a → mag l < n → mag h < n → mag a < n
      by (pos a) n p q s t = omega (arith, mag_nat h)
      by (negsuc a) n p q s t = omega (arith, mag_nat l)

  pub size : nat_abs a ≤ max (nat_abs l) (nat_abs h)
  size = by a (le_nat p.from) (le_nat p.to)
    where
      by : (a : ℤ) → up l + dn a ≤ up a + dn l → up a + dn h ≤ up h + dn a → nat_abs a ≤ max (nat_abs l) (nat_abs h)
      by (pos a) p q = omega (arith, abs_nat h)
      by (negsuc a) p q = omega (arith, abs_nat l)

  pub negated : Within (neg_ℤ h) (neg_ℤ l) (neg_ℤ a)
  negated = omega (arith, ints, neg_nat l, neg_nat h, neg_nat a)

-- from -n to n
pub around : (z : ℤ) (n : ℕ) → nat_abs z ≤ n → Within (minus n) (pos n) z
around z n p = omega (arith, ints, abs_nat z, neg_nat (pos n))

div_le_div_right : (m n k : ℕ) → m ≤ n → m / k ≤ n / k
div_le_div_right m n zero p = rw (div-zero m, div-zero n) (omega arith)
div_le_div_right m n (suc k) p = (le-div_iff_mul-le (zero-lt-suc k)).1 (omega (arith, div-add-mod' m (suc k)))

quot_up : (a b : ℤ) (d : ℕ) → a ≤ℤ b → quot_z a (pos d) ≤ℤ quot_z b (pos d)
quot_up (pos a) (pos b) d p = let q = div_le_div_right a b d (omega (arith, ints, le_nat p)) in omega (arith, ints)
quot_up (pos a) (negsuc b) d p = absurd p.le
quot_up (negsuc a) (pos b) d p = omega (arith, ints, neg_nat (pos (suc a / d)))
quot_up (negsuc a) (negsuc b) d p =
    let q = div_le_div_right (suc b) (suc a) d (omega (arith, ints, le_nat p)) in
    omega (arith, ints, neg_nat (pos (suc a / d)), neg_nat (pos (suc b / d)))

pub over : {l h a : ℤ} (d : ℕ) → Within l h a → Within (quot_z l (pos d)) (quot_z h (pos d)) (quot_z a (pos d))
over {l} {h} {a} d p = record { from = quot_up l a d p.from; to = quot_up a h d p.to }

module _ {l h a : ℤ} (p : Within l h a) {l' h' b : ℤ} (q : Within l' h' b) where
  pub plus : Within (l +ℤ l') (h +ℤ h') (a +ℤ b)
  plus = omega (arith, ints, add_nat l l', add_nat h h', add_nat a b)

  pub less : Within (l -ℤ h') (h -ℤ l') (a -ℤ b)
  less = omega (arith, ints, sub_nat l h', sub_nat h l', sub_nat a b)

  pub times : Within (minus (max (nat_abs l) (nat_abs h) * max (nat_abs l') (nat_abs h'))) (pos (max (nat_abs l) (nat_abs h) * max (nat_abs l') (nat_abs h'))) (a *ℤ b)
  times = around (a *ℤ b) _ (rw abs_mul (mul-le-mul (size p) (size q)))

-- a literal, or any number that can be computed
pub exactly : (z : ℤ) → Within z z z
exactly z = omega (arith, ints)
