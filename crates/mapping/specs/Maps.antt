-- Wish 2 of document 02: a map of process data is a number of entries and four entries; what an entry is made of; how long a PDO is.
use Rattle.std.specs.Prelude.{List, [], ◌∷◌, ℕ, ◌+◌, ◌-◌, ◌/◌, ◌%◌, get_or, set, take, if◌then◌else◌}
use Rattle.integers.specs.Words.{◌is◌}
use Rattle.mapping.specs.declared.Map.{Map}
use Rattle.mapping.specs.declared.Maps.{Maps}

-- ---- entries

-- a map has so many
abbrev pub ENTRIES : ℕ
ENTRIES = 4

-- an entry is the number index * 65536 + sub-index * 256 + length in bits
abbrev pub index_of : ℕ → ℕ
index_of entry = entry / 65536

abbrev pub sub_of : ℕ → ℕ
sub_of entry = entry / 256 % 256

-- the length of an entry in bytes
abbrev pub bytes_of : ℕ → ℕ
bytes_of entry = entry % 256 / 8

-- 6040h, 6300h and 6314h may be received
abbrev pub RECEIVABLE : List ℕ
RECEIVABLE = 0x60400010 ∷ 0x63000110 ∷ 0x63140110 ∷ []

-- 6041h, 604Eh and 6310h may be sent
abbrev pub SENDABLE : List ℕ
SENDABLE = 0x60410010 ∷ 0x604E0010 ∷ 0x63100110 ∷ []

-- ---- maps

-- the entry at a place from 0
abbrev pub entry_of : Map → ℕ → ℕ
entry_of m k = get_or m.entries k 0

-- what stands at a sub-index: the number of entries at 0, and the entries at 1 to 4
unfoldable pub stands_at : Map → ℕ → ℕ
stands_at m sub = if sub is 0 then m.count else entry_of m (sub - 1)

-- the map with another number there
unfoldable pub with_at : ℕ → ℕ → Map → Map
with_at sub number m =
    if sub is 0 then record { count = number; entries = m.entries }
    else record { count = m.count; entries = set m.entries (sub - 1) number }

-- the entries that its number counts, in map order
abbrev pub counted : Map → List ℕ
counted m = take m.count m.entries

-- how many bytes some entries take
abbrev pub length_of : List ℕ → ℕ
length_of [] = 0
length_of (entry ∷ entries) = bytes_of entry + length_of entries

-- how many bytes the PDO of a map has
unfoldable pub map_length : Map → ℕ
map_length m = length_of (counted m)

-- a fresh map is all zeros
unfoldable pub fresh_map : Map
fresh_map = record { count = 0; entries = 0 ∷ 0 ∷ 0 ∷ 0 ∷ [] }

-- ---- both maps

-- the maps with another receive map, and with another transmit map
abbrev pub with_receive : Map → Maps → Maps
with_receive m maps = record { receive = m; transmit = maps.transmit }

abbrev pub with_transmit : Map → Maps → Maps
with_transmit m maps = record { receive = maps.receive; transmit = m }

-- both fresh
unfoldable pub fresh_maps : Maps
fresh_maps = record { receive = fresh_map; transmit = fresh_map }
