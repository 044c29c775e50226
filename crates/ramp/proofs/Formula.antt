-- The ticks to go and the closed formula, on each of the three ways: type 0 at once, a ramp straight to the target, and a ramp with a halt at zero.
use mathlib.Core.Bool.{true, false}
use mathlib.Core.Path.{◌≡◌, sym, ◌∙◌}
use Prim.Native.Nat.{ℕ, ◌+◌, ◌-◌, ◌*◌, ◌≤◌, ◌<◌}
use native.Mathlib.Nat.{mul-le-mul_left}
use native.Mathlib.Omega.{arith}
use borrow.Author.Tests.{lt-ltb, le-ltb}
use lib.IntN.{ℤ, pos}
use Rattle.integers.specs.Words.{◌=?◌}
use Rattle.integers.proofs.Machine.{=?-refl, =?-yes}
use Rattle.integers.proofs.Cases.{by_cases, by_less, clash}
use Rattle.ramp.specs.Ramp.{distance, moved, ramped, halts, stride, rounded_up, ticks_to_zero, ticks_to_go, position_after, Sound, Way}
use Rattle.ramp.specs.Demand.{LATEST_TICK, LATEST_IN_TYPE_ONE}
use Rattle.ramp.specs.declared.Ramp.{Ramp}
use Rattle.ramp.proofs.Moves.{arrives, on_the_way, toward_none, distance_self}
use Rattle.ramp.proofs.Rounding.{enough, least, too_few}
use Rattle.ramp.proofs.Legs.{at_target, halts_beside, halts_ramped, halts_without_ramp}
use Rattle.ramp.proofs.Bounds.{stride_paced, distance_by_zero, distance_most}

-- the three ways
pub by_way {ℓ} : (r : Ramp) (t p : ℤ) {X : Type ℓ} → (ramped r ≡ false → X) → (ramped r ≡ true → halts r t p ≡ false → X) → (halts r t p ≡ true → X) → X
by_way r t p f g h = by_cases (halts r t p) h (λ e. by_cases (ramped r) (λ k. g k e) f)

-- from the tick to go on it is the target
pub kept : (r : Ramp) (t p : ℤ) (n : ℕ) → ticks_to_go r t p ≤ n → position_after r t p n ≡ t
unfolding position_after
kept r t p n h = rw (le-ltb n (ticks_to_go r t p) h)

pub none_to_go : (r : Ramp) (t : ℤ) → ticks_to_go r t t ≡ 0
unfolding ticks_to_go
none_to_go r t = rw (=?-refl t)

pub one_to_go : (r : Ramp) (t p : ℤ) → ramped r ≡ false → ticks_to_go r t p ≤ 1
unfolding ticks_to_go
one_to_go r t p k = by_cases (p =? t) (λ e. rw e (omega arith)) (λ e. rw (e, k) (omega arith))

-- type 0 is at the target at once
pub at_once : (r : Ramp) (t p : ℤ) → ramped r ≡ false → (n : ℕ) → 0 < n → position_after r t p n ≡ t
at_once r t p k n h = kept r t p n (omega (arith, one_to_go r t p k))

pub not_yet : (r : Ramp) (t p : ℤ) → ramped r ≡ false → position_after r t p 0 ≡ p
unfolding position_after ticks_to_go
not_yet r t p k =
    by_cases (p =? t)
    (λ e. rw (=?-yes p t e) (kept r t t 0 (omega (arith, none_to_go r t))))
    (λ e. let z : 0 * stride r t p ≡ 0 = omega arith in simp (e, k, halts_without_ramp r t p k, z) (toward_none t p))

-- a step is above zero
pub strides : {r : Ramp} → Sound r → (t p : ℤ) → 0 < stride r t p
strides s t p = omega (arith, (stride_paced s t p).slowest)

module _ {r : Ramp} {t p : ℤ} (w : Way r t p) where
  -- so many ticks are too few for zero, or enough
  pub short : (n : ℕ) → n < ticks_to_zero r t p → n * stride r t p < distance p (pos 0)
  unfolding ticks_to_zero
  short n l = too_few _ (strides w.ramp t p) n l

  pub reached : (n : ℕ) → ticks_to_zero r t p ≤ n → distance p (pos 0) ≤ n * stride r t p
  unfolding ticks_to_zero
  reached n l = enough _ (strides w.ramp t p) n l

  -- the ticks to go, straight and with a halt
  pub ticks_straight : ramped r ≡ true → halts r t p ≡ false → ticks_to_go r t p ≡ rounded_up (distance p t) (stride r t p)
  unfolding ticks_to_go
  ticks_straight k h =
      by_cases (p =? t)
      (λ e. let z : distance p t ≤ 0 * stride r t p = rw (=?-yes p t e, distance_self) (omega arith) in
      let f = least (distance p t) (strides w.ramp t p) 0 z in rw e (omega arith))
      (λ e. rw (e, k, h))

  pub ticks_halting : halts r t p ≡ true → ticks_to_go r t p ≡ ticks_to_zero r t p + rounded_up (distance (pos 0) t) (stride r t (pos 0))
  unfolding ticks_to_go
  ticks_halting h =
      by_cases (p =? t)
      (λ e. clash h (rw (=?-yes p t e) (halts_beside r t t (at_target t))))
      (λ e. rw (e, halts_ramped r t p h, h))

  -- the closed formula by moves that stop: straight, before a halt, and after it
  pub straight : ramped r ≡ true → halts r t p ≡ false → (n : ℕ) → position_after r t p n ≡ moved t (n * stride r t p) p
  unfolding position_after
  straight k h n =
      let e = ticks_straight k h in
      let s = strides w.ramp t p in
      by_less n (ticks_to_go r t p)
      (λ l. rw (lt-ltb n (ticks_to_go r t p) l, h) (sym (on_the_way t _ p (too_few (distance p t) s n (omega arith)))))
      (λ l. kept r t p n l ∙ sym (arrives t _ p (enough (distance p t) s n (omega arith))))

  pub before_zero : halts r t p ≡ true → (n : ℕ) → n < ticks_to_zero r t p → position_after r t p n ≡ moved (pos 0) (n * stride r t p) p
  unfolding position_after
  before_zero h n l =
      let g : n < ticks_to_go r t p = omega (arith, ticks_halting h) in
      rw (lt-ltb n (ticks_to_go r t p) g, h, lt-ltb n (ticks_to_zero r t p) l) (sym (on_the_way (pos 0) _ p (short n l)))

  pub after_zero : halts r t p ≡ true → (n : ℕ) → ticks_to_zero r t p ≤ n → position_after r t p n ≡ moved t ((n - ticks_to_zero r t p) * stride r t (pos 0)) (pos 0)
  unfolding position_after
  after_zero h n l =
      let k = ticks_to_zero r t p in
      let e = ticks_halting h in
      let s = strides w.ramp t (pos 0) in
      by_less n (ticks_to_go r t p)
      (λ g. rw (lt-ltb n (ticks_to_go r t p) g, h, le-ltb n k l) (sym (on_the_way t _ (pos 0) (too_few (distance (pos 0) t) s (n - k) (omega arith)))))
      (λ g. kept r t p n g ∙ sym (arrives t _ (pos 0) (enough (distance (pos 0) t) s (n - k) (omega arith))))

  -- where n of the longest time's steps are enough, n ticks are
  ticks_most : (p g : ℤ) (n : ℕ) → distance p g ≤ n * 298 → rounded_up (distance p g) (stride r t p) ≤ n
  ticks_most p g n d = least (distance p g) (strides w.ramp t p) n (omega (arith, mul-le-mul_left n (stride_paced w.ramp t p).slowest))

  -- with no halt the way is at most from end to end; type 0 takes one tick
  pub latest_straight : halts r t p ≡ false → ticks_to_go r t p ≤ LATEST_IN_TYPE_ONE
  latest_straight h =
      by_cases (ramped r)
      (λ k. omega (arith, ticks_straight k h, ticks_most p t LATEST_IN_TYPE_ONE (omega (arith, distance_most p t w.position w.target))))
      (λ k. omega (arith, one_to_go r t p k))

  -- with a halt it is at most full stroke to zero, and full stroke on
  pub latest : ticks_to_go r t p ≤ LATEST_TICK
  unfolding ticks_to_zero
  latest =
      let from = w.position.inside in
      let to = w.target.inside in
      by_cases (halts r t p)
      (λ h. omega (
        arith,
        ticks_halting h,
        ticks_most p (pos 0) 3603161 (omega (arith, distance_by_zero p (pos 0))),
        ticks_most (pos 0) t 3603161 (omega (arith, distance_by_zero (pos 0) t)),
      ))
      (λ h. omega (arith, latest_straight h))
