-- A device as 56 words of 64 bits, in the order of the struct of include/rainsheave.h: the words of a device, and the device that words hold.
-- What the header calls selected_block, other_block, set_point, control_word, error_code and type is here block, other, setpoint, control,
-- error and kind.
use Rattle.std.specs.Prelude.{Bool, ◌&&◌, List, [], ◌∷◌, ◌++◌, map, ℕ, zero, suc, ◌+◌, ℤ, pos, nat_abs, get_or}
use Rattle.objects.specs.Places.{SETTINGS}
use Rattle.objects.specs.Table.{lies_in}
use Rattle.block.specs.declared.Block.{Block}
use Rattle.mapping.specs.declared.Map.{Map}
use Rattle.dither.specs.declared.Dither.{Dither}
use Rattle.device.specs.declared.Device.{Device}

-- ---- where each part begins

-- a block has its set point, its position and its settings
abbrev pub SELECTED_BLOCK : ℕ
SELECTED_BLOCK = 0

abbrev pub OTHER_BLOCK : ℕ
OTHER_BLOCK = 19

abbrev pub SELECTED : ℕ
SELECTED = 38

abbrev pub STATE : ℕ
STATE = 39

abbrev pub CONTROL_WORD : ℕ
CONTROL_WORD = 40

abbrev pub ERROR_CODE : ℕ
ERROR_CODE = 41

-- the dither has its phase, and then its type, amplitude and frequency
abbrev pub PHASE : ℕ
PHASE = 42

abbrev pub DITHER : ℕ
DITHER = 43

-- a map has its count and its entries
abbrev pub RECEIVE : ℕ
RECEIVE = 46

abbrev pub TRANSMIT : ℕ
TRANSMIT = 51

abbrev pub WORDS : ℕ
WORDS = 56

-- ---- the words of a device

abbrev pub block_words : Block → List ℤ
block_words b = b.setpoint ∷ b.position ∷ b.settings

abbrev pub map_words : Map → List ℤ
map_words m = pos m.count ∷ map pos m.entries

-- those after the blocks
abbrev pub later_words : Device → List ℤ
later_words d =
    pos d.selected ∷ pos d.state ∷ pos d.control ∷ pos d.error
    ∷ pos d.dither.phase ∷ d.dither.kind ∷ d.dither.amplitude ∷ d.dither.frequency
    ∷ (map_words d.maps.receive ++ map_words d.maps.transmit)

unfoldable pub words_of : Device → List ℤ
words_of d = block_words d.block ++ (block_words d.other ++ later_words d)

-- ---- the device that words hold

-- the word at a place, and as a number from zero up, which it is where the words hold a device
abbrev pub word : List ℤ → ℕ → ℤ
word words k = get_or words k (pos 0)

abbrev pub number : List ℤ → ℕ → ℕ
number words k = nat_abs (word words k)

-- so many words from a place on
unfoldable pub run : List ℤ → ℕ → ℕ → List ℤ
run words from zero = []
run words from (suc n) = run words from n ++ (word words (from + n) ∷ [])

unfoldable pub block_in : List ℤ → ℕ → Block
block_in words from = record { setpoint = word words from; position = word words (from + 1); settings = run words (from + 2) SETTINGS }

unfoldable pub map_in : List ℤ → ℕ → Map
map_in words from =
    record {
      count = number words from;
      entries = number words (from + 1) ∷ number words (from + 2) ∷ number words (from + 3) ∷ number words (from + 4) ∷ [];
    }

unfoldable pub dither_in : List ℤ → Dither
dither_in words =
    record { kind = word words DITHER; amplitude = word words (DITHER + 1); frequency = word words (DITHER + 2); phase = number words PHASE }

unfoldable pub device_in : List ℤ → Device
device_in words =
    record {
      block = block_in words SELECTED_BLOCK;
      other = block_in words OTHER_BLOCK;
      selected = number words SELECTED;
      state = number words STATE;
      control = number words CONTROL_WORD;
      error = number words ERROR_CODE;
      maps = record { receive = map_in words RECEIVE; transmit = map_in words TRANSMIT };
      dither = dither_in words;
    }

-- ---- whether they hold one

-- the highest number of one, two and four bytes
abbrev pub ONE_BYTE : ℕ
ONE_BYTE = 255

abbrev pub TWO_BYTES : ℕ
TWO_BYTES = 65535

abbrev pub FOUR_BYTES : ℕ
FOUR_BYTES = 4294967295

-- the word at a place is a number from 0 to the most
abbrev pub is_number : List ℤ → ℕ → ℤ → Bool
is_number words k most = lies_in (pos 0) most (word words k)

-- a count of one byte and four entries of four bytes
unfoldable pub hold_map : List ℤ → ℕ → Bool
hold_map words from =
    let first = is_number words (from + 1) (pos FOUR_BYTES) && is_number words (from + 2) (pos FOUR_BYTES) in
    let last = is_number words (from + 3) (pos FOUR_BYTES) && is_number words (from + 4) (pos FOUR_BYTES) in
    is_number words from (pos ONE_BYTE) && (first && last)

-- each word that stands for a number of one, two or four bytes is one
unfoldable pub hold_device : List ℤ → Bool
hold_device words =
    let bytes = is_number words SELECTED (pos ONE_BYTE) && is_number words STATE (pos ONE_BYTE) in
    let twos = is_number words CONTROL_WORD (pos TWO_BYTES) && is_number words ERROR_CODE (pos TWO_BYTES) in
    let phase = is_number words PHASE (pos FOUR_BYTES) in
    let maps = hold_map words RECEIVE && hold_map words TRANSMIT in
    (bytes && twos) && (phase && maps)
