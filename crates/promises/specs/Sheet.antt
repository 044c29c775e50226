-- Document 01, "Objects", with wishes 2, 4 and 6 of document 02: a line for each entry that can be addressed.
use Rattle.std.specs.Prelude.{Bool, true, false, not, ◌&&◌, ◌||◌, List, [], ◌∷◌, ◌++◌, ℕ, ◌+◌, ◌-◌, ◌/◌, ◌^◌, ℤ, pos}
use Rattle.std.specs.Prelude.{length, if◌then◌else◌}
use Rattle.integers.specs.Words.{minus, ◌is◌, ◌among◌, ◌≤?◌}

-- a type: how many bytes, signed or not, lowest and highest value
pub record Kind : Type 0 where
  pub bytes : ℕ
  pub signed : Bool
  pub low : ℤ
  pub high : ℤ

-- all values of so many bytes: U8, U16, U32; I8, I16
abbrev unsigned : ℕ → Kind
unsigned bytes = record { bytes = bytes; signed = false; low = pos 0; high = pos (256 ^ bytes - 1) }

abbrev signed : ℕ → Kind
signed bytes = record { bytes = bytes; signed = true; low = minus (256 ^ bytes / 2); high = pos (256 ^ bytes / 2 - 1) }

-- some of them
infix 60 ◌from◌to◌
abbrev ◌from◌to◌ : Kind → ℕ → ℕ → Kind
kind from low to high = record { bytes = kind.bytes; signed = kind.signed; low = pos low; high = pos high }

-- the states in which an entry can be written: 0 DISABLED, 1 HOLD, 2 ACTIVE, 3 FAULT; one that is read only has none
abbrev never : List ℕ
never = []

abbrev always : List ℕ
always = 0 ∷ 1 ∷ 2 ∷ 3 ∷ []

abbrev not_active : List ℕ
not_active = 0 ∷ 1 ∷ 3 ∷ []

abbrev in_disabled : List ℕ
in_disabled = 0 ∷ []

-- `fresh` is what a fresh device reads, and of a byte that never changes what every device reads
pub record Line : Type 0 where
  pub index : ℕ
  pub sub : ℕ
  pub kind : Kind
  pub fresh : ℤ
  pub writable : List ℕ

abbrev line : ℕ → ℕ → Kind → ℤ → List ℕ → Line
line index sub kind fresh states = record { index = index; sub = sub; kind = kind; fresh = fresh; writable = states }

-- a variable has sub-index 0 only
abbrev a_variable : ℕ → Kind → ℤ → List ℕ → List Line
a_variable index kind fresh writable = line index 0 kind fresh writable ∷ []

-- a record has sub 0, its number of entries, and sub 1, its value
abbrev a_record : ℕ → Kind → ℤ → List ℕ → List Line
a_record index kind fresh writable = line index 0 (unsigned 1) (pos 1) never ∷ line index 1 kind fresh writable ∷ []

-- a time has three entries: sub 2 is 03h (s) and sub 3 is -3 (milli)
abbrev a_time : ℕ → List Line
a_time index =
    line index 0 (unsigned 1) (pos 3) never
    ∷ line index 1 (unsigned 4 from 0 to 3600000) (pos 0) not_active
    ∷ line index 2 (unsigned 1) (pos 0x03) never
    ∷ line index 3 (signed 1) (minus 3) never
    ∷ []

-- wish 2: a map has its number of entries and four entries
abbrev a_map : ℕ → List Line
a_map index =
    line index 0 (unsigned 1) (pos 0) always
    ∷ line index 1 (unsigned 4) (pos 0) always
    ∷ line index 2 (unsigned 4) (pos 0) always
    ∷ line index 3 (unsigned 4) (pos 0) always
    ∷ line index 4 (unsigned 4) (pos 0) always
    ∷ []

-- the objects of a block: those of the position block, and by wish 6 those of the pressure block 80h above
abbrev block : ℕ → List Line
block above =
    a_record (0x6300 + above) (signed 2) (pos 0) always  -- set point
    ++ a_record (0x6310 + above) (signed 2) (pos 0) never  -- command
    ++ a_record (0x6314 + above) (signed 2) (pos 0) always  -- hold set point
    ++ a_record (0x6320 + above) (signed 2) (pos 16384) always  -- upper limit
    ++ a_record (0x6321 + above) (signed 2) (minus 16384) always  -- lower limit
    ++ a_variable (0x6322 + above) (unsigned 4) (pos 65536) always  -- scaling factor
    ++ a_record (0x6323 + above) (signed 2) (pos 0) always  -- scaling offset
    ++ a_record (0x6324 + above) (signed 2) (pos 0) always  -- zero correction
    ++ a_variable (0x6330 + above) (signed 1 from 0 to 3) (pos 0) not_active  -- ramp type
    ++ a_time (0x6331 + above)  -- acceleration time: one
    ++ a_time (0x6332 + above)  -- positive
    ++ a_time (0x6333 + above)  -- negative
    ++ a_time (0x6334 + above)  -- deceleration time: one
    ++ a_time (0x6335 + above)  -- positive
    ++ a_time (0x6336 + above)  -- negative
    ++ a_variable (0x6342 + above) (signed 1 from 0 to 1) (pos 0) not_active  -- dead band type
    ++ a_record (0x6343 + above) (signed 2 from 0 to 4096) (pos 0) not_active  -- dead band A side
    ++ a_record (0x6344 + above) (signed 2 from 0 to 4096) (pos 0) not_active  -- dead band B side
    ++ a_record (0x6345 + above) (signed 2 from 0 to 16384) (pos 0) not_active  -- dead band threshold

unfoldable pub sheet : List Line
sheet =
    a_variable 0x6040 (unsigned 2) (pos 0) always  -- control word
    ++ a_variable 0x6041 (unsigned 2) (pos 8) never  -- status word
    ++ a_variable 0x604E (unsigned 2) (pos 0) never  -- error code
    ++ block 0
    ++ a_map 0x1600  -- wish 2: receive map
    ++ a_map 0x1A00  -- transmit map
    ++ a_variable 0x6360 (signed 1 from 0 to 2) (pos 0) not_active  -- wish 4: dither type
    ++ a_record 0x6361 (unsigned 2 from 0 to 1024) (pos 0) not_active  -- amplitude
    ++ a_record 0x6362 (unsigned 2 from 0 to 250) (pos 0) not_active  -- frequency
    ++ block 0x80  -- wish 6: the pressure block
    ++ a_variable 0x2000 (unsigned 1 from 0 to 1) (pos 0) in_disabled  -- selection

-- the line of an entry; where there is none, one of no bytes
abbrev pub line_in : List Line → ℕ → ℕ → Line
line_in [] index sub = line 0 0 (unsigned 0) (pos 0) never
line_in (l ∷ lines) index sub = if l.index is index && l.sub is sub then l else line_in lines index sub

abbrev pub line_at : ℕ → ℕ → Line
line_at index sub = line_in sheet index sub

-- there is such an entry; an object has sub-index 0 in any case
abbrev pub has_entry : ℕ → ℕ → Bool
has_entry index sub = not ((line_at index sub).kind.bytes is 0)

abbrev pub is_read_only : Line → Bool
is_read_only l = length l.writable is 0

-- its value is told by index and sub-index: it can be written, and is none of 6040h and 2000h, which are told by name
abbrev pub is_held : Line → Bool
is_held l = not (is_read_only l) && not (l.index among 0x6040 ∷ 0x2000 ∷ [])

-- every such value of some lines lies in its range
unfoldable pub in_range : List Line → (ℕ → ℕ → ℤ) → Bool
in_range [] value = true
in_range (l ∷ lines) value =
    let x = value l.index l.sub in
    (not (is_held l) || (l.kind.low ≤? x && x ≤? l.kind.high)) && in_range lines value
