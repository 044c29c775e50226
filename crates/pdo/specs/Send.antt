-- Wish 2 of document 02: the bytes of a PDO that is sent: the mapped values in order, low first.
use Rattle.std.specs.Prelude.{List, [], ◌∷◌, ◌++◌, ℕ, take, drop, Result, Ok, Err}
use Rattle.coding.specs.Bytes.{four_bytes}
use Rattle.mapping.specs.Maps.{index_of, sub_of, bytes_of, length_of}
use Rattle.device.specs.declared.Device.{Device}
use Rattle.dictionary.specs.Decide.{read_decision}
use Rattle.dictionary.specs.declared.Decision.{Decision}
use Rattle.dictionary.specs.declared.Decision.TheVariants.{Read, Write}
use Rattle.dictionary.specs.declared.Abort.{Abort}

-- the number that a read gives; 0 where it gives none
abbrev pub number_read : Result Decision Abort → ℕ
number_read (Ok (Read size number)) = number
number_read (Ok (Write which place x)) = 0
number_read (Err abort) = 0

-- the bytes of an entry: as many as its length, of what a read of its index and sub-index gives
unfoldable pub sent_by : Device → ℕ → List ℕ
sent_by d entry = take (bytes_of entry) (four_bytes (number_read (read_decision d (index_of entry) (sub_of entry))))

-- of entries in map order
unfoldable pub sent : Device → List ℕ → List ℕ
sent d [] = []
sent d (entry ∷ entries) = sent_by d entry ++ sent d entries

-- the room after it: the first bytes are the PDO's, and later bytes stay
unfoldable pub sent_in : Device → List ℕ → List ℕ → List ℕ
sent_in d entries room = sent d entries ++ drop (length_of entries) room
