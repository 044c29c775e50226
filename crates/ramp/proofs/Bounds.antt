-- Steps are from 298 to full stroke, and positions stay within full stroke; so the sums and products of the code fit.
use Prim.Native.Nat.{ℕ, ◌+◌, ◌*◌, ◌≤◌, max}
use native.Mathlib.Nat.{le-div_iff_mul-le, div-le_self, mul-le-mul_right}
use native.Mathlib.Omega.{arith}
use lib.IntN.{ℤ, pos, nat_abs, ◌-ℤ◌}
use lib.Signed.{lt_z}
use mir.Syntax.{w64}
use mir.Val.{Fits}
use Rattle.integers.specs.Words.{◌=?◌}
use Rattle.integers.proofs.Linear.{ints, up, dn, abs_nat, abs_high, sub_nat}
use Rattle.integers.proofs.Cases.{by_test}
use Rattle.objects.specs.Numbers.{FULL_POSITION}
use Rattle.objects.specs.Table.{objects}
use Rattle.ramp.specs.Ramp.{side_of, away_time, back_time, step_of, distance, moved, stride, decelerates, Inside, Timed, AllTimed, Sound, Way}
use Rattle.ramp.specs.Asked.{Steppable}
use Rattle.ramp.specs.declared.Times.{Times}
use Rattle.ramp.specs.declared.Ramp.{Ramp}
use Rattle.ramp.proofs.Moves.{by_move}

-- ---- times and steps

side_timed : {times : Times} → AllTimed times → (z : ℤ) → Timed (side_of times z)
unfolding side_of
side_timed a z = by_test Timed (lt_z z (pos 0)) (λ e. a.negative) (λ e. a.positive)

pub away_timed : {r : Ramp} → Sound r → (z : ℤ) → Timed (away_time r z)
unfolding away_time
away_timed {r} s z = by_test Timed (r.kind =? pos 3) (λ e. side_timed s.acceleration z) (λ e. s.acceleration.one)

pub back_timed : {r : Ramp} → Sound r → (z : ℤ) → Timed (back_time r z)
unfolding back_time
back_timed {r} s z =
    by_test Timed (r.kind =? pos 3) (λ e. side_timed s.deceleration z)
    (λ e. by_test Timed (r.kind =? pos 2) (λ f. s.deceleration.one) (λ f. s.acceleration.one))

-- from the step of the longest time to that of the shortest
pub record Paced (step : ℕ) : Type 0 where
  pub slowest : 298 ≤ step
  pub fastest : step ≤ FULL_POSITION

step_paced : (time : ℤ) → Timed time → Paced (step_of time)
unfolding step_of objects
step_paced time h =
    let m : max (nat_abs time) 1 ≤ 3600000 = omega (arith, ints, abs_high time h.from) in
    record { slowest = (le-div_iff_mul-le {k = max (nat_abs time) 1} (omega arith)).1 (omega arith); fastest = div-le_self FULL_POSITION (max (nat_abs time) 1) }

pub stride_paced : {r : Ramp} → Sound r → (t p : ℤ) → Paced (stride r t p)
unfolding stride
stride_paced s t p = by_test Paced (decelerates t p) (λ e. step_paced _ (back_timed s p)) (λ e. step_paced _ (away_timed s t))

-- ---- within full stroke

record Held (z : ℤ) : Type 0 where
  least : dn z ≤ up z + FULL_POSITION
  most : up z ≤ dn z + FULL_POSITION

held : {z : ℤ} → Inside z → Held z
held {z} h = record { least = omega (arith, abs_nat z); most = omega (arith, abs_nat z) }

inside : {z : ℤ} → Held z → Inside z
inside {z} h = record { inside = omega (arith, abs_nat z) }

pub zero_inside : Inside (pos 0)
zero_inside = record { inside = omega arith }

-- no farther than by zero
pub distance_by_zero : (p g : ℤ) → distance p g ≤ nat_abs p + nat_abs g
unfolding distance
distance_by_zero p g = omega (arith, sub_nat p g, abs_nat p, abs_nat g, abs_nat (p -ℤ g))

pub distance_most : (p g : ℤ) → Inside p → Inside g → distance p g ≤ 2 * FULL_POSITION
distance_most p g h k = omega (arith, distance_by_zero p g)

pub moved_inside : (g : ℤ) (m : ℕ) (p : ℤ) → Inside g → Inside p → Inside (moved g m p)
moved_inside g m p h k =
    let a = held h in let b = held k in
    by_move g m p
    (λ w. inside (record { least = omega arith; most = omega arith }))
    (λ w. inside (record { least = omega arith; most = omega arith }))

-- the way on from zero
pub way_on : {r : Ramp} {t p : ℤ} → Way r t p → Way r t (pos 0)
way_on w = record { ramp = w.ramp; target = w.target; position = zero_inside }

-- a distance over a step can be rounded up
pub steppable : {r : Ramp} {t p g : ℤ} → Way r t p → Inside g → Steppable (distance p g) (stride r t p)
steppable {r} {t} {p} {g} w h =
    let s = stride_paced w.ramp t p in
    record { most = distance_most p g w.position h; above = omega arith; fastest = s.fastest }

-- a count of 32 bits times a step
pub steps_fit : {r : Ramp} → Sound r → (t p : ℤ) {n : ℕ} → n ≤ 4294967295 → Fits w64 (n * stride r t p)
steps_fit {r} s t p h = let f = stride_paced s t p in record { fits = omega (arith, mul-le-mul_right (stride r t p) h) }
