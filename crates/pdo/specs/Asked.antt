-- What the functions of process data ask of what they are handed.
use Rattle.std.specs.Prelude.{true, List, ◌≡◌, ℕ, ◌+◌, ◌≤◌, length}
use Rattle.integers.specs.Words.{◌among◌}
use Rattle.mapping.specs.Maps.{RECEIVABLE, SENDABLE, bytes_of, map_length}
use Rattle.device.specs.Sound.{Sound}
use Rattle.device.specs.declared.Device.{Device}

-- a sound device, an entry that may be received, and a place so low that the next one can be counted
pub record Acting (d : Device) (entry at : ℕ) : Type 0 where
  pub sound : Sound d
  pub mapped : entry among RECEIVABLE ≡ true
  pub near : at ≤ 255

-- a sound device, and an entry that may be sent
pub record Telling (d : Device) (entry : ℕ) : Type 0 where
  pub sound : Sound d
  pub mapped : entry among SENDABLE ≡ true

-- and at most four bytes, with room for them from a place on
pub record Putting (d : Device) (entry : ℕ) (room : List ℕ) (at : ℕ) : Type 0 where
  pub telling : Telling d entry
  pub four : bytes_of entry ≤ 4
  pub fits : at + bytes_of entry ≤ length room

-- a sound device, and room for its PDO
pub record Sending (d : Device) (room : List ℕ) : Type 0 where
  pub sound : Sound d
  pub fits : map_length d.maps.transmit ≤ length room
