-- Document 01, "Ramp", with wish 3 of document 02. A position p and a target t are whole numbers in 1/65,536 ir; steps, distances and ticks count from zero up.
use Rattle.std.specs.Prelude.{Bool, not, ◌&&◌, ◌||◌, ℕ, zero, suc, ◌+◌, ◌-◌, ◌*◌, ◌/◌, ◌≤◌, max, ℤ, pos, nat_abs, ◌+ℤ◌, ◌-ℤ◌, if◌then◌else◌}
use Rattle.integers.specs.Words.{◌<?◌, ◌=?◌, ◌below◌}
use Rattle.objects.specs.Numbers.{FULL_POSITION}
use Rattle.objects.specs.Places.{RAMP_TYPE, ACCELERATION}
use Rattle.objects.specs.Table.{InRange}
use Rattle.ramp.specs.declared.Times.{Times}
use Rattle.ramp.specs.declared.Ramp.{Ramp}

-- types 1 to 3 have a ramp
abbrev pub ramped : Ramp → Bool
ramped r = not (r.kind =? pos 0)

-- types 2 and 3 halt at zero on the way to its other side; type 1 goes straight through (wish 3)
abbrev pub may_halt : Ramp → Bool
may_halt r = pos 1 <? r.kind

-- ---- times and steps

-- the time of the side of zero on which z is
unfoldable pub side_of : Times → ℤ → ℤ
side_of times z = if z <? pos 0 then times.negative else times.positive

-- the time away from zero, on the side of z: 6331h in types 1 and 2, 6332h or 6333h in type 3
unfoldable pub away_time : Ramp → ℤ → ℤ
away_time r z =
    if r.kind =? pos 3 then side_of r.acceleration z
    else r.acceleration.one

-- the time toward zero, on the side of z: 6331h in type 1, 6334h in type 2, 6335h or 6336h in type 3
unfoldable pub back_time : Ramp → ℤ → ℤ
back_time r z =
    if r.kind =? pos 3 then side_of r.deceleration z
    else if r.kind =? pos 2 then r.deceleration.one
    else r.acceleration.one

-- the step of a time: full stroke over it, the fraction dropped; time 0 has the step of time 1
unfoldable pub step_of : ℤ → ℕ
step_of time = FULL_POSITION / max (nat_abs time) 1

-- ---- one tick

-- p is on the far side of zero from t
unfoldable pub opposite : ℤ → ℤ → Bool
opposite t p = (t <? pos 0 && pos 0 <? p) || (p <? pos 0 && pos 0 <? t)

-- p is on the far side of zero from t, or farther out than t
unfoldable pub decelerates : ℤ → ℤ → Bool
decelerates t p = opposite t p || nat_abs t below nat_abs p

-- how far p is from g
unfoldable pub distance : ℤ → ℤ → ℕ
distance p g = nat_abs (p -ℤ g)

-- p moved by m toward g
unfoldable pub toward : ℤ → ℕ → ℤ → ℤ
toward g m p = if p <? g then p +ℤ pos m else p -ℤ pos m

-- p moved by m toward g, stopping at g
unfoldable pub moved : ℤ → ℕ → ℤ → ℤ
moved g m p = if m below distance p g then toward g m p else g

-- the way halts at zero before it goes on to the target: from the far side of zero, in types 2 and 3
unfoldable pub halts : Ramp → ℤ → ℤ → Bool
halts r t p = opposite t p && may_halt r

-- where the ticks from p stop first: at zero, or at the target
unfoldable pub stop : Ramp → ℤ → ℤ → ℤ
stop r t p = if halts r t p then pos 0 else t

-- the step of a tick on a ramp: it decelerates on p's own side, or else accelerates on the target's
unfoldable pub stride : Ramp → ℤ → ℤ → ℕ
stride r t p =
    if decelerates t p then step_of (back_time r p)
    else step_of (away_time r t)

-- one tick: type 0 sets the position to the target, and a ramp moves it by the step
unfoldable pub tick_of : Ramp → ℤ → ℤ → ℤ
tick_of r t p =
    if not (ramped r) then t
    else moved (stop r t p) (stride r t p) p

-- the position after n single ticks
unfoldable pub ticked : Ramp → ℤ → ℤ → ℕ → ℤ
ticked r t p zero = p
ticked r t p (suc n) = tick_of r t (ticked r t p n)

-- ---- ticks to go, and the closed formula

-- a distance over a step, rounded up
unfoldable pub rounded_up : ℕ → ℕ → ℕ
rounded_up d s = (d + (s - 1)) / s

-- the ticks to zero
unfoldable pub ticks_to_zero : Ramp → ℤ → ℤ → ℕ
ticks_to_zero r t p = rounded_up (distance p (pos 0)) (stride r t p)

-- 0 at the target; 1 for type 0 elsewhere; with a halt, the sum for the way to zero and for the way on; else the distance over the step, rounded up
unfoldable pub ticks_to_go : Ramp → ℤ → ℤ → ℕ
ticks_to_go r t p =
    if p =? t then 0
    else if not (ramped r) then 1
    else if halts r t p then ticks_to_zero r t p + rounded_up (distance (pos 0) t) (stride r t (pos 0))
    else rounded_up (distance p t) (stride r t p)

-- the target from that tick on; before it n steps toward the target; but with a halt, from the tick k on that meets zero, n - k steps out on the target's side
unfoldable pub position_after : Ramp → ℤ → ℤ → ℕ → ℤ
position_after r t p n =
    if not (n below ticks_to_go r t p) then t
    else if not (halts r t p) then toward t (n * stride r t p) p
    else if n below ticks_to_zero r t p then toward (pos 0) (n * stride r t p) p
    else toward t ((n - ticks_to_zero r t p) * stride r t (pos 0)) (pos 0)

-- ---- what is sound

-- within full stroke
pub record Inside (p : ℤ) : Type 0 where
  pub inside : nat_abs p ≤ FULL_POSITION

-- in the range of a time, which is the same for 6331h to 6336h
abbrev pub Timed : ℤ → Type 0
Timed time = InRange ACCELERATION time

-- each of three times in its range
pub record AllTimed (times : Times) : Type 0 where
  pub one : Timed times.one
  pub positive : Timed times.positive
  pub negative : Timed times.negative

-- the type and each time in its range
pub record Sound (r : Ramp) : Type 0 where
  pub kind : InRange RAMP_TYPE r.kind
  pub acceleration : AllTimed r.acceleration
  pub deceleration : AllTimed r.deceleration

-- what the functions of the ramp ask: a sound ramp, and target and position within full stroke
pub record Way (r : Ramp) (t p : ℤ) : Type 0 where
  pub ramp : Sound r
  pub target : Inside t
  pub position : Inside p
