-- Document 01, "Objects", with wishes 2, 4 and 6 of document 02: which object has an index, of which block, and what stands at a sub-index.
use Rattle.std.specs.Prelude.{Bool, true, not, ◌&&◌, ◌||◌, List, [], ◌∷◌, Option, Some, None, ◌≡◌, if◌then◌else◌}
use Rattle.std.specs.Prelude.{ℕ, suc, ◌+◌, ◌-◌, ◌*◌, ◌≤◌, ◌<◌}
use Rattle.integers.specs.Words.{◌is◌, ◌below◌}
use Rattle.objects.specs.Places.{SETTINGS, SET_POINT, COMMAND, POSITION, PRESSURE, ROWS}
use Rattle.objects.specs.Table.{objects, row_at, VARIABLE, MAP}
use Rattle.objects.specs.declared.Columns.{Columns}
use Rattle.objects.specs.declared.Place.{Place}
use Rattle.objects.specs.declared.Entry.{Entry}
use Rattle.objects.specs.declared.Entry.TheVariants.{Value, Fixed}

-- ---- which block, which place

-- how far the index of a pressure object stands above its counterpart's
abbrev pub ABOVE : ℕ
ABOVE = 0x80

-- the block of which an index is: 6380h to 63C5h are those of the pressure block, with the counterparts 6300h to 6345h; what is of no block
-- counts to the position block
unfoldable pub block_number : ℕ → ℕ
block_number index = if not (index below 0x6380) && index below 0x63C6 then PRESSURE else POSITION

-- the place of the first row with this index, where the rows begin at `place`
unfoldable pub place_from : ℕ → List Columns → ℕ → Option ℕ
place_from place [] index = None
place_from place (row ∷ rows) index =
    if row.0 is index then Some place
    else place_from (suc place) rows index

-- a place that was found, of a block
abbrev pub in_block : ℕ → Option ℕ → Option Place
in_block which (Some place) = Some (record { which = which; place = place })
in_block which None = None

-- of which block an index is, and its place in the table: of a pressure object its counterpart's
unfoldable pub place_of : ℕ → Option Place
place_of index = in_block (block_number index) (place_from 0 objects (index - ABOVE * block_number index))

-- the places that a block has of its own: its settings, its set point and its command
unfoldable pub is_of_block : ℕ → Bool
is_of_block place = place below SETTINGS || place is SET_POINT || place is COMMAND

-- an object: a place of the table; of the pressure block one that a block has of its own
pub record Object (which place : ℕ) : Type 0 where
  pub row : place < ROWS
  pub block : which ≤ PRESSURE
  pub own : which ≡ PRESSURE → is_of_block place ≡ true

-- the index of an object
abbrev pub index_of : ℕ → ℕ → ℕ
index_of which place = (row_at place).index + ABOVE * which

-- ---- what stands at a sub-index

-- the unit of a time, 03h (s), and its prefix, -3 (milli), as a byte
abbrev pub SECONDS : ℕ
SECONDS = 0x03

abbrev pub MILLI : ℕ
MILLI = 0xFD

-- a record has its number of entries at 0 and its value at 1; a time has its unit at 2 and its prefix at 3;
-- an entry is the value so many rows after the object's first, or a byte that never changes
unfoldable pub record_entry : ℕ → ℕ → Entry
record_entry entries sub =
    if sub is 0 then Fixed entries
    else if sub is 1 then Value 0
    else if sub is 2 then Fixed SECONDS
    else Fixed MILLI

-- a sub-index beyond the entries is missing; a variable's only one is its value, and each of a map's is one
unfoldable pub entry_at : ℕ → ℕ → Option Entry
entry_at entries sub =
    if entries below sub then None
    else if entries is VARIABLE || entries is MAP then Some (Value sub)
    else Some (record_entry entries sub)
