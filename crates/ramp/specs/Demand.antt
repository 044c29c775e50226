-- Demand 3, of a ramp r with the target t, from the position p.
use Rattle.std.specs.Prelude.{false, ◌≢◌, ◌≡◌, ℕ, suc, ◌+◌, ◌*◌, ◌≤◌, ◌<◌, ℤ, pos}
use Rattle.ramp.specs.Ramp.{step_of, opposite, distance, moved, ticked, rounded_up, ticks_to_go, position_after, Inside}
use Rattle.ramp.specs.declared.Ramp.{Ramp}

-- no way takes more ticks
abbrev pub LATEST_TICK : ℕ
LATEST_TICK = 7206322

-- nor one of type 1 more than these
abbrev pub LATEST_IN_TYPE_ONE : ℕ
LATEST_IN_TYPE_ONE = 7206321

pub record Demand3 (r : Ramp) (t p : ℤ) : Type 0 where
  -- n single ticks end where the closed formula says
  pub formula : (n : ℕ) → ticked r t p n ≡ position_after r t p n
  -- a jump of m and then one of n is a jump of m + n
  pub jumps : (m n : ℕ) → position_after r t (position_after r t p m) n ≡ position_after r t p (m + n)
  -- the target is met at the tick that the formula names, and kept
  pub kept : (n : ℕ) → ticks_to_go r t p ≤ n → position_after r t p n ≡ t
  -- and not met before
  pub first : (n : ℕ) → n < ticks_to_go r t p → position_after r t p n ≢ t
  -- it is met by the latest tick
  pub latest : ticks_to_go r t p ≤ LATEST_TICK
  -- in type 1 a tick earlier
  pub latest_in_type_one : r.kind ≡ pos 1 → ticks_to_go r t p ≤ LATEST_IN_TYPE_ONE
  -- the position stays within full stroke
  pub stays : (n : ℕ) → Inside (position_after r t p n)
  -- until the target is met no position comes twice, so that at most one of them is zero
  pub once : (m n : ℕ) → m < n → n ≤ ticks_to_go r t p → position_after r t p m ≢ position_after r t p n
  -- in type 1 the ticks to go are the whole distance over the step, rounded up
  pub ticks_in_type_one : r.kind ≡ pos 1 → ticks_to_go r t p ≡ rounded_up (distance p t) (step_of r.acceleration.one)
  -- and n ticks move by n steps straight toward the target, stopping only there
  pub position_in_type_one : r.kind ≡ pos 1 → (n : ℕ) → position_after r t p n ≡ moved t (n * step_of r.acceleration.one) p
  -- in types 2 and 3 no tick crosses zero
  pub uncrossed : (kind : ℕ) → 2 ≤ kind → r.kind ≡ pos kind → (n : ℕ) → opposite (ticked r t p n) (ticked r t p (suc n)) ≡ false
