-- What makes a write one that no rule forbids, and where a write that was decided comes from.
use Rattle.std.specs.Prelude.{true, false, ◌≡◌, ℕ, ◌<◌, ℤ, Ok}
use Rattle.objects.specs.Places.{WRITABLE}
use Rattle.objects.specs.Table.{row_at, InRange}
use Rattle.objects.specs.Lookup.{Object}
use Rattle.coding.specs.Coding.{value_of}
use Rattle.device.specs.Device.{block_of}
use Rattle.device.specs.declared.Device.{Device}
use Rattle.dictionary.specs.Named.{value, named}
use Rattle.dictionary.specs.Decide.{crosses, is_locked, map_ruling}

-- a write of so many bytes that stand for a value, to a place of a block, which passes places 4 to 11
pub record Accept (d : Device) (which place size : ℕ) (x : ℤ) : Type 0 where
  pub writable : (row_at place).writable ≡ true
  pub sized : (row_at place).size ≡ size
  pub range : InRange place x
  pub uncrossed : crosses (block_of which d) place x ≡ false
  pub unlocked : is_locked (row_at place).lock d.state ≡ false
  pub unruled : map_ruling d.maps place x ≡ Ok tt

-- a decided write of a value to a place of a block, from a write of so many bytes of a number to an index and a sub-index
pub record Origin (d : Device) (index sub size number which place : ℕ) (x : ℤ) : Type 0 where
  pub found : named index sub ≡ value which place
  pub object : Object which place
  pub below : place < WRITABLE
  pub stands : x ≡ value_of (row_at place).size (row_at place).signed number
  pub accept : Accept d which place size x
