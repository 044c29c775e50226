-- What the functions of the dictionary ask of what they are handed, and what `value_at` gives.
use Rattle.std.specs.Prelude.{◌≡◌, ℕ, ◌+◌, ◌<◌, ◌≤◌, ℤ, Result, Ok, Err}
use Rattle.objects.specs.Places.{RECEIVE_MAP, SET_POINT, WRITABLE, ROWS}
use Rattle.objects.specs.Table.{row_at, InRange}
use Rattle.objects.specs.declared.Row.{Row}
use Rattle.device.specs.Sound.{Sound}
use Rattle.device.specs.declared.Device.{Device}
use Rattle.dictionary.specs.Values.{value_at}
use Rattle.dictionary.specs.declared.Decision.{Decision}
use Rattle.dictionary.specs.declared.Decision.TheVariants.{Read, Write}
use Rattle.dictionary.specs.declared.Abort.{Abort}

-- a sound device, and a place of the table
pub record Placed (d : Device) (place : ℕ) : Type 0 where
  pub sound : Sound d
  pub below : place < ROWS

-- and one that is neither a stored setting's nor the dither's nor a map's
pub record Other (d : Device) (place : ℕ) : Type 0 where
  pub placed : Placed d place
  pub past : SET_POINT ≤ place

-- a place of a map
pub record OfMap (place : ℕ) : Type 0 where
  pub from : RECEIVE_MAP ≤ place
  pub below : place < SET_POINT

-- one of a sound device
pub record Mapped (d : Device) (place : ℕ) : Type 0 where
  pub sound : Sound d
  pub of_map : OfMap place

-- a sound device, a place of the table, and its row
pub record Looked (d : Device) (place : ℕ) (row : Row) : Type 0 where
  pub placed : Placed d place
  pub looked : row ≡ row_at place

-- the place of an object's first value, its row, and a value so many rows after it
pub record After (place : ℕ) (row : Row) (k : ℕ) : Type 0 where
  pub looked : row ≡ row_at place
  pub below : place + k < ROWS

-- a value in its row's range
pub record Ranged (place : ℕ) (x : ℤ) : Type 0 where
  pub range : InRange place x

-- the value of a block at a place, which lies in its row's range
pub record Valued (d : Device) (which place : ℕ) (r : ℤ) : Type 0 where
  pub value : r ≡ value_at d which place
  pub range : InRange place r

-- a value for an object that can be written
pub record Writing (place : ℕ) (x : ℤ) : Type 0 where
  pub writable : place < WRITABLE
  pub range : InRange place x

-- and for a map
pub record MapWriting (place : ℕ) (x : ℤ) : Type 0 where
  pub of_map : OfMap place
  pub range : InRange place x

-- what a decision writes, if it is a write, is a value for an object that can be written
abbrev pub Writes : Result Decision Abort → Type 0
Writes (Ok (Read size number)) = Unit {0}
Writes (Ok (Write which place x)) = Writing place x
Writes (Err abort) = Unit {0}

pub record Decided (decision : Result Decision Abort) : Type 0 where
  pub writes : Writes decision
