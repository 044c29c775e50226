-- Wish 2 of document 02: what a received PDO does. Its entries act in map order, each as the same SDO write would.
use Rattle.std.specs.Prelude.{List, [], ◌∷◌, ℕ, drop}
use Rattle.coding.specs.Bytes.{byte_at, four_of}
use Rattle.mapping.specs.Maps.{index_of, sub_of, bytes_of}
use Rattle.device.specs.declared.Device.{Device}
use Rattle.dictionary.specs.Decide.{write_decision, carried_out}

-- the first four bytes as the number of a request's data bytes, of which a write takes as many as its size; past the end they are 0
abbrev pub data_in : List ℕ → ℕ
data_in bytes = four_of (byte_at bytes 0) (byte_at bytes 1) (byte_at bytes 2) (byte_at bytes 3)

-- an entry acts on the first bytes: a write of as many as its length to its index and sub-index
unfoldable pub acted : ℕ → List ℕ → Device → Device
acted entry bytes d = carried_out (write_decision d (index_of entry) (sub_of entry) (bytes_of entry) (data_in bytes)) d

-- entries in map order, each on the bytes that those before it leave
unfoldable pub received : List ℕ → List ℕ → Device → Device
received [] bytes d = d
received (entry ∷ entries) bytes d = received entries (drop (bytes_of entry) bytes) (acted entry bytes d)
