-- Document 01, "Objects" and "SDO", aborts 2 and 3, with wish 6 of document 02: what an index and a sub-index name.
use Rattle.std.specs.Prelude.{Option, Some, None, ℕ, ◌+◌}
use Rattle.objects.specs.Table.{row_at}
use Rattle.objects.specs.Lookup.{place_of, entry_at}
use Rattle.objects.specs.declared.Place.{Place}
use Rattle.objects.specs.declared.Entry.{Entry}
use Rattle.objects.specs.declared.Entry.TheVariants.{Value, Fixed}
use Rattle.dictionary.specs.declared.Abort.{Abort}
use Rattle.dictionary.specs.declared.Abort.TheVariants.{NoObject, NoSubIndex}

-- the value of a block at a place, a byte that never changes, or nothing, with the abort
pub data Named : Type 0 where
  value : ℕ → ℕ → Named
  byte : ℕ → Named
  nothing : Abort → Named

-- what stands at an entry of the object whose first value is at a place
abbrev pub entered : ℕ → ℕ → Option Entry → Named
entered which place (Some (Value k)) = value which (place + k)
entered which place (Some (Fixed number)) = byte number
entered which place None = nothing NoSubIndex

-- what a sub-index of that object names
abbrev pub located : Option Place → ℕ → Named
located (Some p) sub = entered p.which p.place (entry_at (row_at p.place).entries sub)
located None sub = nothing NoObject

-- what an index and a sub-index name
unfoldable pub named : ℕ → ℕ → Named
named index sub = located (place_of index) sub
