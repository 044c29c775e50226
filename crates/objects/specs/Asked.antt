-- What the functions of the table ask of what they are handed.
use Rattle.std.specs.Prelude.{ℕ, ◌<◌}
use Rattle.objects.specs.Places.{ROWS}

-- a place of the table
pub record InTable (place : ℕ) : Type 0 where
  pub below : place < ROWS
