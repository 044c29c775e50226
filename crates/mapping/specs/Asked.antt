-- What the functions of a map ask of what they are handed.
use Rattle.std.specs.Prelude.{◌≡◌, ℕ, ◌<◌, ◌≤◌}
use Rattle.mapping.specs.Maps.{ENTRIES}

-- at most four: a sub-index of a map, or how many of its entries are meant
pub record Few (n : ℕ) : Type 0 where
  pub most : n ≤ ENTRIES

-- a number at a sub-index, at most four at sub-index 0
pub record Counting (sub number : ℕ) : Type 0 where
  pub most : sub ≡ 0 → number ≤ ENTRIES

-- a sub-index of a map and a number for it, of one byte at sub-index 0
pub record Fitting (sub number : ℕ) : Type 0 where
  pub most : sub ≤ ENTRIES
  pub byte : sub ≡ 0 → number < 256
