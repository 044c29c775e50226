-- What the functions of the coding ask of what they are handed.
use Rattle.std.specs.Prelude.{List, ℕ, ◌+◌, ◌<◌, ◌≤◌, length}

-- a number below the span of at most four bytes
pub record BelowSpan (limit low : ℕ) : Type 0 where
  pub below : low < limit
  pub four : limit ≤ 4294967296

-- room for some bytes from a place on
pub record Room (room : List ℕ) (from : ℕ) (bytes : List ℕ) : Type 0 where
  pub fits : from + length bytes ≤ length room
