-- Ranges of whole numbers, as requirements of internal functions name them.
use Rattle.std.specs.Prelude.{ℤ, ◌≤ℤ◌}

-- z lies from `low` to `high`, ends included
pub record Within (low high z : ℤ) : Type 0 where
  pub from : low ≤ℤ z
  pub to : z ≤ℤ high
