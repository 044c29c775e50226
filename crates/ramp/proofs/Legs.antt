-- What the travel asks of `halts`, `stop` and `stride`: on the way to the first stop neither it nor the step changes, and there is no halt in types 0 and 1, from zero, nor at the target.
use mathlib.Core.Bool.{true, false, and-false}
use mathlib.Core.Path.{◌≡◌, sym, ◌∙◌}
use Prim.Native.Nat.{ℕ, ◌≤◌, ◌<◌}
use native.Mathlib.Omega.{arith}
use borrow.Author.Tests.{lt-ltb, le-ltb}
use lib.IntN.{ℤ, pos, nat_abs}
use lib.Signed.{lt_z, ◌≤ℤ◌, ◌<ℤ◌}
use Rattle.integers.proofs.Linear.{ints, abs_high, abs_low}
use Rattle.integers.proofs.Each.{and_split}
use Rattle.integers.proofs.Machine.{=?-no}
use Rattle.integers.proofs.Cases.{by_cases, by_less_ℤ, clash, lt_z_same}
use Rattle.ramp.specs.Ramp.{ramped, may_halt, side_of, away_time, back_time, step_of, opposite, decelerates, distance, moved, halts, stop, stride}
use Rattle.ramp.specs.declared.Ramp.{Ramp}
use Rattle.ramp.proofs.Moves.{by_move}

-- ---- sides of zero

-- t and p are on opposite sides
pub data Across (t p : ℤ) : Type 0 where
  falling : t <ℤ pos 0 → pos 0 <ℤ p → Across t p
  rising : p <ℤ pos 0 → pos 0 <ℤ t → Across t p

-- t and p are on one side, or one of them is at zero
pub data Beside (t p : ℤ) : Type 0 where
  high : pos 0 ≤ℤ t → pos 0 ≤ℤ p → Beside t p
  low : t ≤ℤ pos 0 → p ≤ℤ pos 0 → Beside t p

across : {t p : ℤ} → Across t p → opposite t p ≡ true
unfolding opposite
across {t} {p} (falling h k) =
    let a : lt_z t (pos 0) ≡ true = omega (arith, ints) in
    let b : lt_z (pos 0) p ≡ true = omega (arith, ints) in
    rw (a, b)
across {t} {p} (rising h k) =
    let a : lt_z t (pos 0) ≡ false = omega (arith, ints) in
    let b : lt_z p (pos 0) ≡ true = omega (arith, ints) in
    let d : lt_z (pos 0) t ≡ true = omega (arith, ints) in
    rw (a, b, d)

pub beside : {t p : ℤ} → Beside t p → opposite t p ≡ false
unfolding opposite
beside {t} {p} (high h k) =
    let a : lt_z t (pos 0) ≡ false = omega (arith, ints) in
    let b : lt_z p (pos 0) ≡ false = omega (arith, ints) in
    rw (a, b)
beside {t} {p} (low h k) =
    let a : lt_z (pos 0) p ≡ false = omega (arith, ints) in
    let b : lt_z (pos 0) t ≡ false = omega (arith, ints) in
    simp (a, b, and-false)

pub flip : {t p : ℤ} → Beside t p → Beside p t
flip (high h k) = high k h
flip (low h k) = low k h

-- one or the other
pub by_side {ℓ} : (t p : ℤ) {X : Type ℓ} → (Across t p → X) → (Beside t p → X) → X
by_side t p f g =
    by_less_ℤ t (pos 0)
    (λ a. by_less_ℤ (pos 0) p (λ b. f (falling a b)) (λ b. g (low (omega (arith, ints)) b)))
    (λ a. by_less_ℤ p (pos 0)
    (λ b. by_less_ℤ (pos 0) t (λ d. f (rising b d)) (λ d. g (low d (omega (arith, ints)))))
    (λ b. g (high a b)))

-- ---- on the way

-- q lies between p, included, and g
pub data Between (p q g : ℤ) : Type 0 where
  upward : p ≤ℤ q → q <ℤ g → Between p q g
  downward : q ≤ℤ p → g <ℤ q → Between p q g

pub between : (g : ℤ) (m : ℕ) (p : ℤ) → m < distance p g → Between p (moved g m p) g
between g m p h =
    by_move g m p
    (λ w. upward (omega (arith, ints)) (omega (arith, ints)))
    (λ w. downward (omega (arith, ints)) (omega (arith, ints)))

-- the tests at q are those at p
pub record Same (t p q : ℤ) : Type 0 where
  pub sides : opposite t q ≡ opposite t p
  pub slows : decelerates t q ≡ decelerates t p
  pub signs : decelerates t p ≡ true → lt_z q (pos 0) ≡ lt_z p (pos 0)

-- toward zero, from the far side
crossing : (t p q : ℤ) → Across t p → Across t q → lt_z q (pos 0) ≡ lt_z p (pos 0) → Same t p q
unfolding decelerates
crossing t p q a b e = record { sides = across b ∙ sym (across a); slows = rw (across a, across b); signs = λ s. e }

to_zero : (t p q : ℤ) → Across t p → Between p q (pos 0) → Same t p q
to_zero t p q (falling a b) (upward c d) = absurd (omega (arith, ints))
to_zero t p q (falling a b) (downward c d) =
    crossing t p q (falling a b) (falling a d) (lt_z_same p (pos 0) q (pos 0) (λ n. omega (arith, ints)) (λ n. omega (arith, ints)))
to_zero t p q (rising a b) (upward c d) =
    crossing t p q (rising a b) (rising d b) (lt_z_same p (pos 0) q (pos 0) (λ n. omega (arith, ints)) (λ n. omega (arith, ints)))
to_zero t p q (rising a b) (downward c d) = absurd (omega (arith, ints))

-- on the target's side: neither p nor q is farther out than t, or both are
module _ (t p q : ℤ) (b : Beside t p) (d : Beside t q) where
  outward : nat_abs p ≤ nat_abs t → nat_abs q ≤ nat_abs t → Same t p q
  unfolding decelerates
  outward h k =
      let e : decelerates t p ≡ false = rw (beside b, le-ltb (nat_abs t) (nat_abs p) h) in
      let f : decelerates t q ≡ false = rw (beside d, le-ltb (nat_abs t) (nat_abs q) k) in
      record { sides = beside d ∙ sym (beside b); slows = f ∙ sym e; signs = λ s. let z : true ≡ false = sym s ∙ e in cc }

  inward : nat_abs t < nat_abs p → nat_abs t < nat_abs q → lt_z q (pos 0) ≡ lt_z p (pos 0) → Same t p q
  unfolding decelerates
  inward h k g =
      let e : decelerates t p ≡ true = rw (beside b, lt-ltb (nat_abs t) (nat_abs p) h) in
      let f : decelerates t q ≡ true = rw (beside d, lt-ltb (nat_abs t) (nat_abs q) k) in
      record { sides = beside d ∙ sym (beside b); slows = f ∙ sym e; signs = λ s. g }

to_target : (t p q : ℤ) → Beside t p → Between p q t → Same t p q
to_target t p q (high a b) (upward c d) =
    let e : pos 0 ≤ℤ q = omega (arith, ints) in
    outward t p q (high a b) (high a e) (omega (arith, ints, abs_high t a, abs_high p b)) (omega (arith, ints, abs_high t a, abs_high q e))
to_target t p q (high a b) (downward c d) =
    let e : pos 0 ≤ℤ q = omega (arith, ints) in
    inward t p q (high a b) (high a e) (omega (arith, ints, abs_high t a, abs_high p b)) (omega (arith, ints, abs_high t a, abs_high q e)) (lt_z_same p (pos 0) q (pos 0) (λ n. omega (arith, ints)) (λ n. e))
to_target t p q (low a b) (upward c d) =
    let e : q ≤ℤ pos 0 = omega (arith, ints) in
    inward t p q (low a b) (low a e) (omega (arith, ints, abs_low t a, abs_low p b)) (omega (arith, ints, abs_low t a, abs_low q e)) (lt_z_same p (pos 0) q (pos 0) (λ n. omega (arith, ints)) (λ n. omega (arith, ints)))
to_target t p q (low a b) (downward c d) =
    let e : q ≤ℤ pos 0 = omega (arith, ints) in
    outward t p q (low a b) (low a e) (omega (arith, ints, abs_low t a, abs_low p b)) (omega (arith, ints, abs_low t a, abs_low q e))

-- ---- the first stop

pub halts_across : (r : Ramp) (t p : ℤ) → may_halt r ≡ true → Across t p → halts r t p ≡ true
unfolding halts
halts_across r t p k a = simp (k, across a)

pub halts_beside : (r : Ramp) (t p : ℤ) → Beside t p → halts r t p ≡ false
unfolding halts
halts_beside r t p b = rw (beside b)

pub halts_never : (r : Ramp) (t p : ℤ) → may_halt r ≡ false → halts r t p ≡ false
unfolding halts
halts_never r t p k = simp (k, and-false)

-- with a halt there is a ramp
pub may_halt_ramped : (r : Ramp) → may_halt r ≡ true → ramped r ≡ true
may_halt_ramped r k = rw (=?-no r.kind (pos 0) (λ e. clash k (rw e)))

pub halts_ramped : (r : Ramp) (t p : ℤ) → halts r t p ≡ true → ramped r ≡ true
unfolding halts
halts_ramped r t p h = may_halt_ramped r (and_split (opposite t p) (may_halt r) h).1

pub halts_without_ramp : (r : Ramp) (t p : ℤ) → ramped r ≡ false → halts r t p ≡ false
halts_without_ramp r t p k = by_cases (halts r t p) (λ h. clash (halts_ramped r t p h) k) (λ h. h)

-- no halt from zero, nor at the target
pub from_zero : (t : ℤ) → Beside t (pos 0)
from_zero t = by_less_ℤ t (pos 0) (λ l. low (omega (arith, ints)) (omega (arith, ints))) (λ l. high l (omega (arith, ints)))

pub at_target : (t : ℤ) → Beside t t
at_target t = by_less_ℤ t (pos 0) (λ l. low (omega (arith, ints)) (omega (arith, ints))) (λ l. high l l)

pub stop_at_zero : (r : Ramp) (t p : ℤ) → halts r t p ≡ true → stop r t p ≡ pos 0
unfolding stop
stop_at_zero r t p h = rw h

pub stop_at_target : (r : Ramp) (t p : ℤ) → halts r t p ≡ false → stop r t p ≡ t
unfolding stop
stop_at_target r t p h = rw h

-- in types 0 and 1 the step is that of 6331h everywhere, and type 0 does not use it
pub one_step_lem : (r : Ramp) (t p : ℤ) → may_halt r ≡ false → stride r t p ≡ step_of r.acceleration.one
unfolding stride away_time back_time
one_step_lem r t p k =
    let two = =?-no r.kind (pos 2) (λ e. clash (rw e) k) in
    let three = =?-no r.kind (pos 3) (λ e. clash (rw e) k) in
    by_cases (decelerates t p) (λ e. rw (e, two, three)) (λ e. rw (e, three))

-- on the way to the first stop neither it nor the step changes
pub record Steady (r : Ramp) (t p q : ℤ) : Type 0 where
  pub stops : stop r t q ≡ stop r t p
  pub strides : stride r t q ≡ stride r t p

by_tests : (r : Ramp) (t p q : ℤ) → Same t p q → Steady r t p q
unfolding halts stop stride back_time side_of
by_tests r t p q s =
    record {
      stops = rw s.sides;
      strides = by_cases (decelerates t p)
          (λ e. rw (s.slows, e, s.signs e))
          (λ e. rw (s.slows, e));
    }

-- in types 0 and 1 they are the same everywhere
one_way : (r : Ramp) (t p q : ℤ) → may_halt r ≡ false → Steady r t p q
one_way r t p q k =
    record {
      stops = stop_at_target r t q (halts_never r t q k) ∙ sym (stop_at_target r t p (halts_never r t p k));
      strides = one_step_lem r t q k ∙ sym (one_step_lem r t p k);
    }

pub steady : (r : Ramp) (t p : ℤ) (m : ℕ) → m < distance p (stop r t p) → Steady r t p (moved (stop r t p) m p)
steady r t p m h =
    let b = between (stop r t p) m p h in
    by_cases (may_halt r)
    (λ k. by_tests r t p _ (by_side t p
    (λ a. let e = stop_at_zero r t p (halts_across r t p k a) in rw e (to_zero t p _ a (rw e at b)))
    (λ a. let e = stop_at_target r t p (halts_beside r t p a) in rw e (to_target t p _ a (rw e at b)))))
    (one_way r t p _)
