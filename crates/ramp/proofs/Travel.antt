-- n single ticks end where the closed formula says: to zero and to the target a tick is one step more, and the target, once met, is kept.
use mathlib.Core.Bool.{true, false}
use mathlib.Core.Logic.{◌≢◌}
use mathlib.Core.Path.{◌≡◌, sym, ap, ◌∙◌}
use Prim.Native.Nat.{ℕ, zero, suc, ◌+◌, ◌-◌, ◌*◌, ◌<◌}
use native.Mathlib.Nat.{add-zero, add-suc}
use native.Mathlib.Omega.{arith}
use lib.IntN.{ℤ, pos}
use Rattle.integers.proofs.Cases.{by_less}
use Rattle.ramp.specs.Ramp.{distance, moved, ramped, halts, stop, stride, tick_of, ticked, ticks_to_zero, ticks_to_go, position_after, Inside, Way}
use Rattle.ramp.specs.declared.Ramp.{Ramp}
use Rattle.ramp.proofs.Moves.{arrives, short_of, moved_none, moved_again, distance_self, distance_zero}
use Rattle.ramp.proofs.Rounding.{too_few}
use Rattle.ramp.proofs.Legs.{steady, at_target, from_zero, halts_beside, halts_ramped, stop_at_zero, stop_at_target}
use Rattle.ramp.proofs.Bounds.{moved_inside, zero_inside}
use Rattle.ramp.proofs.Formula.{by_way, none_to_go, one_to_go, at_once, not_yet, strides, short, reached, ticks_straight, ticks_halting, straight, before_zero, after_zero}

-- ---- one tick of a ramp

module _ (r : Ramp) (t p : ℤ) (k : ramped r ≡ true) where
  -- on the way to the first stop it is a step more
  onward : (n : ℕ) → n * stride r t p < distance p (stop r t p) → tick_of r t (moved (stop r t p) (n * stride r t p) p) ≡ moved (stop r t p) (suc n * stride r t p) p
  unfolding tick_of
  onward n h =
      let s = steady r t p (n * stride r t p) h in
      let e : n * stride r t p + stride r t p ≡ suc n * stride r t p = omega arith in
      rw (k, s.stops, s.strides, moved_again, e)

  -- at the target it changes nothing
  rest : tick_of r t t ≡ t
  unfolding tick_of
  rest = let e = distance_self t in rw (k, stop_at_target r t t (halts_beside r t t (at_target t))) (arrives t (stride r t t) t (omega arith))

  -- with no halt it is a step more, also at the end
  last_leg : halts r t p ≡ false → (n : ℕ) → tick_of r t (moved t (n * stride r t p) p) ≡ moved t (suc n * stride r t p) p
  last_leg h n =
      let e = stop_at_target r t p h in
      by_less (n * stride r t p) (distance p t)
      (λ l. rw e at (onward n (rw e l)))
      (λ l. ap (tick_of r t) (arrives t (n * stride r t p) p l) ∙ rest ∙ sym (arrives t (suc n * stride r t p) p (omega arith)))

-- ---- the whole way

module _ {r : Ramp} {t p : ℤ} (w : Way r t p) where
  -- with a halt, at the tick that meets zero
  turn : halts r t p ≡ true → (n : ℕ) → ticks_to_zero r t p ≡ n → position_after r t p n ≡ pos 0
  turn h n e =
      let z : (n - ticks_to_zero r t p) * stride r t (pos 0) ≡ 0 = let d : n - ticks_to_zero r t p ≡ 0 = omega arith in rw d (omega arith) in
      after_zero w h n (omega arith) ∙ rw (z, moved_none)

  pub start : position_after r t p 0 ≡ p
  start =
      let z : 0 * stride r t p ≡ 0 = omega arith in
      by_way r t p
      (λ k. not_yet r t p k)
      (λ k h. straight w k h 0 ∙ rw (z, moved_none))
      (λ h. by_less 0 (ticks_to_zero r t p)
      (λ l. before_zero w h 0 l ∙ rw (z, moved_none))
      (λ l. turn h 0 (omega arith) ∙ sym (distance_zero p (pos 0) (omega (arith, reached w 0 l)))))

  -- one tick more is the formula at n + 1
  next : (n : ℕ) → tick_of r t (position_after r t p n) ≡ position_after r t p (suc n)
  unfolding tick_of
  next n =
      by_way r t p
      (λ k. rw k (sym (at_once r t p k (suc n) (omega arith))))
      (λ k h. ap (tick_of r t) (straight w k h n) ∙ last_leg r t p k h n ∙ sym (straight w k h (suc n)))
      (λ h. let k = halts_ramped r t p h in
      by_less n (ticks_to_zero r t p)
      (λ l. ap (tick_of r t) (before_zero w h n l)
      ∙ (rw (stop_at_zero r t p h) at (onward r t p k n (rw (stop_at_zero r t p h) (short w n l))))
      ∙ by_less (suc n) (ticks_to_zero r t p)
      (λ m. sym (before_zero w h (suc n) m))
      (λ m. arrives (pos 0) (suc n * stride r t p) p (reached w (suc n) m) ∙ sym (turn h (suc n) (omega arith))))
      (λ l. let e : suc (n - ticks_to_zero r t p) ≡ suc n - ticks_to_zero r t p = omega arith in
      ap (tick_of r t) (after_zero w h n l) ∙ last_leg r t (pos 0) k (halts_beside r t (pos 0) (from_zero t)) (n - ticks_to_zero r t p)
      ∙ rw e (sym (after_zero w h (suc n) (omega arith)))))

  pub formula : (n : ℕ) → ticked r t p n ≡ position_after r t p n
  unfolding ticked
  formula zero = sym start
  formula (suc n) = ap (tick_of r t) (formula n) ∙ next n

  -- at no tick before the last: there is still a distance to go
  pub not_before : (n : ℕ) → n < ticks_to_go r t p → position_after r t p n ≢ t
  not_before n l e =
      by_way r t p
      (λ k. let z : n ≡ 0 = omega (arith, one_to_go r t p k) in
      let q : p ≡ t = sym start ∙ (rw z at e) in
      let o : ticks_to_go r t p ≡ 0 = rw q (none_to_go r t) in omega arith)
      (λ k h. short_of t _ p (too_few _ (strides w.ramp t p) n (rw (ticks_straight w k h) at l)) (sym (straight w k h n) ∙ e))
      (λ h. by_less n (ticks_to_zero r t p)
      (λ m. let f = stop_at_zero r t p h in
      let q : moved (pos 0) (n * stride r t p) p ≡ t = sym (before_zero w h n m) ∙ e in
      let g : stop r t t ≡ pos 0 = rw (f, q) at (steady r t p (n * stride r t p) (rw f (short w n m))).stops in
      short_of (pos 0) _ p (short w n m) (q ∙ sym (stop_at_target r t t (halts_beside r t t (at_target t))) ∙ g))
      (λ m. short_of t _ (pos 0) (too_few _ (strides w.ramp t (pos 0)) (n - ticks_to_zero r t p) (omega (arith, ticks_halting w h))) (sym (after_zero w h n m) ∙ e)))

  pub stays : (n : ℕ) → Inside (position_after r t p n)
  stays n =
      by_way r t p
      (λ k. by_less 0 n (λ l. rw (at_once r t p k n l) w.target) (λ l. let e : n ≡ 0 = omega arith in rw (e, start) w.position))
      (λ k h. rw (straight w k h n) (moved_inside t _ p w.target w.position))
      (λ h. by_less n (ticks_to_zero r t p)
      (λ l. rw (before_zero w h n l) (moved_inside (pos 0) _ p zero_inside w.position))
      (λ l. rw (after_zero w h n l) (moved_inside t _ (pos 0) w.target zero_inside)))

  -- the way that is left after n ticks
  pub way_after : (n : ℕ) → Way r t (position_after r t p n)
  way_after n = record { ramp = w.ramp; target = w.target; position = stays n }

-- n single ticks after m are m + n
ticked_more : (r : Ramp) (t p : ℤ) (m n : ℕ) → ticked r t (ticked r t p m) n ≡ ticked r t p (m + n)
unfolding ticked
ticked_more r t p m zero = rw add-zero
ticked_more r t p m (suc n) = rw add-suc (ap (tick_of r t) (ticked_more r t p m n))

pub jumps : {r : Ramp} {t p : ℤ} → Way r t p → (m n : ℕ) → position_after r t (position_after r t p m) n ≡ position_after r t p (m + n)
jumps {r} {t} {p} w m n =
    sym (formula (way_after w m) n) ∙ rw (← formula w m) (ticked_more r t p m n) ∙ formula w (m + n)
