-- Demand 3, from every sound ramp, target and position.
use mathlib.Core.Bool.{true, false}
use mathlib.Core.Logic.{◌≢◌}
use mathlib.Core.Path.{◌≡◌, sym, ap, ◌∙◌}
use Prim.Native.Nat.{ℕ, ◌+◌, ◌-◌, ◌*◌, ◌≤◌, ◌<◌}
use native.Mathlib.Omega.{arith}
use lib.IntN.{ℤ, pos}
use Rattle.integers.proofs.Linear.{ints}
use Rattle.ramp.specs.Ramp.{may_halt, step_of, opposite, distance, moved, halts, stop, stride, tick_of, ticked, rounded_up, ticks_to_go, position_after, Way}
use Rattle.ramp.specs.Demand.{Demand3}
use Rattle.ramp.specs.declared.Ramp.{Ramp}
use Rattle.ramp.proofs.Moves.{by_move}
use Rattle.ramp.proofs.Legs.{Beside, high, low, beside, flip, by_side, from_zero, halts_across, halts_beside, halts_never, may_halt_ramped, stop_at_zero, stop_at_target, one_step_lem}
use Rattle.ramp.proofs.Formula.{kept, ticks_straight, straight, latest, latest_straight}
use Rattle.ramp.proofs.Travel.{formula, jumps, not_before, stays}

-- a move toward a stop on its own side of zero, or at zero, stays on that side
same_side : (g : ℤ) (m : ℕ) (p : ℤ) → Beside g p → Beside p (moved g m p)
same_side g m p (high a b) = high b (by_move g m p (λ w. omega (arith, ints)) (λ w. omega (arith, ints)))
same_side g m p (low a b) = low b (by_move g m p (λ w. omega (arith, ints)) (λ w. omega (arith, ints)))

uncrossed : (r : Ramp) (t p : ℤ) → may_halt r ≡ true → opposite p (tick_of r t p) ≡ false
unfolding tick_of
uncrossed r t p k =
    rw (may_halt_ramped r k) (beside (same_side (stop r t p) (stride r t p) p
    (by_side t p (λ a. rw (stop_at_zero r t p (halts_across r t p k a)) (flip (from_zero p))) (λ b. rw (stop_at_target r t p (halts_beside r t p b)) b))))

-- of two equal positions the later would meet the target at the last tick, and so the earlier before it
once : {r : Ramp} {t p : ℤ} → Way r t p → (m n : ℕ) → m < n → n ≤ ticks_to_go r t p → position_after r t p m ≢ position_after r t p n
once {r} {t} {p} w m n l k e =
    let j = ticks_to_go r t p - n in
    not_before w (m + j) (omega arith)
    (sym (jumps w m j) ∙ ap (λ q. position_after r t q j) e ∙ jumps w n j ∙ kept r t p (n + j) (omega arith))

-- type 1 is a ramp that never halts, and has one step
module _ {r : Ramp} {t p : ℤ} (w : Way r t p) (one : r.kind ≡ pos 1) where
  never : halts r t p ≡ false
  never = halts_never r t p (rw one)

  step : stride r t p ≡ step_of r.acceleration.one
  step = one_step_lem r t p (rw one)

  whole_distance : ticks_to_go r t p ≡ rounded_up (distance p t) (step_of r.acceleration.one)
  whole_distance = ticks_straight w (rw one) never ∙ rw step

  whole_steps : (n : ℕ) → position_after r t p n ≡ moved t (n * step_of r.acceleration.one) p
  whole_steps n = straight w (rw one) never n ∙ rw step

pub demand3 : {r : Ramp} {t p : ℤ} → Way r t p → Demand3 r t p
unfolding ticked
demand3 {r} {t} {p} w =
    record {
      formula = formula w;
      jumps = jumps w;
      kept = kept r t p;
      first = not_before w;
      latest = latest w;
      latest_in_type_one = λ one. latest_straight w (never w one);
      stays = stays w;
      once = once w;
      ticks_in_type_one = whole_distance w;
      position_in_type_one = whole_steps w;
      uncrossed = λ kind two e n. uncrossed r t (ticked r t p n) (rw e (omega (arith, ints)));
    }
