-- What the functions of the ramp ask of what they are handed, beside `Timed`.
use Rattle.std.specs.Prelude.{ℕ, ◌*◌, ◌≤◌, ◌<◌, ℤ}
use Rattle.objects.specs.Numbers.{FULL_POSITION}
use Rattle.ramp.specs.Ramp.{Inside}

-- two positions, each within full stroke
pub record BothInside (a b : ℤ) : Type 0 where
  pub one : Inside a
  pub other : Inside b

-- a move by at most the distance from end to end, from within full stroke
pub record Movable (m : ℕ) (p : ℤ) : Type 0 where
  pub most : m ≤ 2 * FULL_POSITION
  pub from : Inside p

-- a distance of at most that from end to end, and a step above zero that it is divided by
pub record Steppable (d s : ℕ) : Type 0 where
  pub most : d ≤ 2 * FULL_POSITION
  pub above : 0 < s
  pub fastest : s ≤ FULL_POSITION
