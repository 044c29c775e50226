-- Document 01, "Objects", with the maps, the dither and the selection of wishes 2, 4 and 6 of document 02: the table, a row for each value,
-- the stored settings first and in tag order. The rows of the position block are those of the pressure block too.
use Rattle.std.specs.Prelude.{Bool, true, false, ◌&&◌, ◌||◌, List, [], ◌∷◌, ℕ, ℤ, pos, get_or}
use Rattle.integers.specs.Words.{minus, ◌≤?◌, ◌is◌}
use Rattle.integers.specs.Range.{Within}
use Rattle.objects.specs.Places.{RAMP_TYPE, DEAD_BAND_TYPE, DITHER_TYPE}
use Rattle.objects.specs.declared.Row.{Row}
use Rattle.objects.specs.declared.Columns.{Columns}
use Rattle.objects.specs.declared.Kind.{Kind}
use Rattle.objects.specs.declared.Kind.TheVariants.{I8, I16, U16, U32, U8}
use Rattle.objects.specs.declared.Access.{Access}
use Rattle.objects.specs.declared.Access.TheVariants.{Ro, Rw}
use Rattle.objects.specs.declared.Lock.{Lock}
use Rattle.objects.specs.declared.Lock.TheVariants.{Free, WhileActive, OutsideDisabled}

-- the entries: a variable has none, a record one, a time three, a map four
abbrev pub VARIABLE : ℕ
VARIABLE = 0

abbrev RECORD : ℕ
RECORD = 1

abbrev TIME : ℕ
TIME = 3

abbrev pub MAP : ℕ
MAP = 4

-- the columns: index, sub-index, entries, type, size, access, low, high, fresh value, lock
abbrev row : ℕ → ℕ → ℕ → Kind → ℕ → Access → ℤ → ℤ → ℤ → Lock → Columns
row index sub entries kind size access low high fresh lock =
    record { 0 = index; 1 = sub; 2 = entries; 3 = kind; 4 = size; 5 = access; 6 = low; 7 = high; 8 = fresh; 9 = lock }

-- the values, each at its place
unfoldable pub objects : List Columns
objects =
    row 0x6314 1 RECORD I16 2 Rw (minus 32768) (pos 32767) (pos 0) Free ∷  -- hold set point
    row 0x6320 1 RECORD I16 2 Rw (minus 32768) (pos 32767) (pos 16384) Free ∷  -- upper limit
    row 0x6321 1 RECORD I16 2 Rw (minus 32768) (pos 32767) (minus 16384) Free ∷  -- lower limit
    row 0x6322 0 VARIABLE U32 4 Rw (pos 0) (pos 4294967295) (pos 65536) Free ∷  -- scaling factor
    row 0x6323 1 RECORD I16 2 Rw (minus 32768) (pos 32767) (pos 0) Free ∷  -- scaling offset
    row 0x6324 1 RECORD I16 2 Rw (minus 32768) (pos 32767) (pos 0) Free ∷  -- zero correction
    row 0x6330 0 VARIABLE I8 1 Rw (pos 0) (pos 3) (pos 0) WhileActive ∷  -- ramp type
    row 0x6331 1 TIME U32 4 Rw (pos 0) (pos 3600000) (pos 0) WhileActive ∷  -- acceleration time: one
    row 0x6332 1 TIME U32 4 Rw (pos 0) (pos 3600000) (pos 0) WhileActive ∷  -- positive
    row 0x6333 1 TIME U32 4 Rw (pos 0) (pos 3600000) (pos 0) WhileActive ∷  -- negative
    row 0x6334 1 TIME U32 4 Rw (pos 0) (pos 3600000) (pos 0) WhileActive ∷  -- deceleration time: one
    row 0x6335 1 TIME U32 4 Rw (pos 0) (pos 3600000) (pos 0) WhileActive ∷  -- positive
    row 0x6336 1 TIME U32 4 Rw (pos 0) (pos 3600000) (pos 0) WhileActive ∷  -- negative
    row 0x6342 0 VARIABLE I8 1 Rw (pos 0) (pos 1) (pos 0) WhileActive ∷  -- dead band type
    row 0x6343 1 RECORD I16 2 Rw (pos 0) (pos 4096) (pos 0) WhileActive ∷  -- dead band A side
    row 0x6344 1 RECORD I16 2 Rw (pos 0) (pos 4096) (pos 0) WhileActive ∷  -- dead band B side
    row 0x6345 1 RECORD I16 2 Rw (pos 0) (pos 16384) (pos 0) WhileActive ∷  -- dead band threshold
    row 0x6360 0 VARIABLE I8 1 Rw (pos 0) (pos 2) (pos 0) WhileActive ∷  -- dither type
    row 0x6361 1 RECORD U16 2 Rw (pos 0) (pos 1024) (pos 0) WhileActive ∷  -- dither amplitude
    row 0x6362 1 RECORD U16 2 Rw (pos 0) (pos 250) (pos 0) WhileActive ∷  -- dither frequency
    row 0x1600 0 MAP U8 1 Rw (pos 0) (pos 255) (pos 0) Free ∷  -- receive map: number of entries
    row 0x1600 1 MAP U32 4 Rw (pos 0) (pos 4294967295) (pos 0) Free ∷  -- entry 1
    row 0x1600 2 MAP U32 4 Rw (pos 0) (pos 4294967295) (pos 0) Free ∷  -- entry 2
    row 0x1600 3 MAP U32 4 Rw (pos 0) (pos 4294967295) (pos 0) Free ∷  -- entry 3
    row 0x1600 4 MAP U32 4 Rw (pos 0) (pos 4294967295) (pos 0) Free ∷  -- entry 4
    row 0x1A00 0 MAP U8 1 Rw (pos 0) (pos 255) (pos 0) Free ∷  -- transmit map: number of entries
    row 0x1A00 1 MAP U32 4 Rw (pos 0) (pos 4294967295) (pos 0) Free ∷  -- entry 1
    row 0x1A00 2 MAP U32 4 Rw (pos 0) (pos 4294967295) (pos 0) Free ∷  -- entry 2
    row 0x1A00 3 MAP U32 4 Rw (pos 0) (pos 4294967295) (pos 0) Free ∷  -- entry 3
    row 0x1A00 4 MAP U32 4 Rw (pos 0) (pos 4294967295) (pos 0) Free ∷  -- entry 4
    row 0x6300 1 RECORD I16 2 Rw (minus 32768) (pos 32767) (pos 0) Free ∷  -- set point
    row 0x2000 0 VARIABLE U8 1 Rw (pos 0) (pos 1) (pos 0) OutsideDisabled ∷  -- selection: the block that drives the command
    row 0x6040 0 VARIABLE U16 2 Rw (pos 0) (pos 65535) (pos 0) Free ∷  -- control word
    row 0x6041 0 VARIABLE U16 2 Ro (pos 0) (pos 65535) (pos 0) Free ∷  -- status word
    row 0x604E 0 VARIABLE U16 2 Ro (pos 0) (pos 65535) (pos 0) Free ∷  -- error code
    row 0x6310 1 RECORD I16 2 Ro (minus 32768) (pos 32767) (pos 0) Free ∷  -- command
    []

-- the columns at a place; past the end those of an empty row
abbrev pub columns_at : ℕ → Columns
columns_at place = get_or objects place (row 0 0 VARIABLE U16 2 Ro (pos 0) (pos 0) (pos 0) Free)

-- the signed types
unfoldable pub is_signed : Kind → Bool
is_signed I8 = true
is_signed I16 = true
is_signed U16 = false
is_signed U32 = false
is_signed U8 = false

-- read only, or read and written
abbrev pub is_writable : Access → Bool
is_writable Ro = false
is_writable Rw = true

-- a choice among numbered kinds: 6330h, 6342h and 6360h
unfoldable pub is_choice : ℕ → Bool
is_choice place = place is RAMP_TYPE || place is DEAD_BAND_TYPE || place is DITHER_TYPE

-- the row at a place, by the names of its columns
abbrev pub row_at : ℕ → Row
row_at place =
    let columns = columns_at place in
    record {
      low = columns.6;
      high = columns.7;
      fresh = columns.8;
      index = columns.0;
      sub = columns.1;
      entries = columns.2;
      size = columns.4;
      lock = columns.9;
      signed = is_signed columns.3;
      writable = is_writable columns.5;
      choice = is_choice place;
    }

-- x lies from `low` to `high`, ends included
unfoldable pub lies_in : ℤ → ℤ → ℤ → Bool
lies_in low high x = low ≤? x && x ≤? high

-- x lies in the range of a row
abbrev pub in_row : Row → ℤ → Bool
in_row row x = lies_in row.low row.high x

-- a value in the range of the object at a place
abbrev pub InRange : ℕ → ℤ → Type 0
InRange place value = Within (row_at place).low (row_at place).high value
