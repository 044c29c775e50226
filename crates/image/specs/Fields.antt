-- Document 01, "Stored image": fields of one-byte tag, two-byte length (low first) and value (low first), one for each stored setting.
use Rattle.std.specs.Prelude.{List, [], ◌∷◌, ◌++◌, ℕ, zero, suc, ◌+◌, ℤ, drop, take}
use Rattle.objects.specs.Places.{SETTINGS}
use Rattle.objects.specs.Table.{row_at}
use Rattle.coding.specs.Bytes.{two_bytes, four_bytes}
use Rattle.coding.specs.Coding.{number_of}
use Rattle.block.specs.Block.{at}

-- how many bytes a full image has
abbrev pub IMAGE_LENGTH : ℕ
IMAGE_LENGTH = 97

-- how many bytes a field's tag and length have
abbrev pub HEADER : ℕ
HEADER = 3

-- the tag of a setting
abbrev pub tag_of : ℕ → ℕ
tag_of place = place + 1

-- how many bytes a setting's value has: those of its type
abbrev pub size_at : ℕ → ℕ
size_at place = (row_at place).size

-- how many bytes a setting's field has
abbrev pub field_length : ℕ → ℕ
field_length place = HEADER + size_at place

-- where the field of a setting starts: after those before it
unfoldable pub start : ℕ → ℕ
start zero = 0
start (suc place) = start place + field_length place

-- the bytes of a setting's value: of its number's four those that its type has
abbrev pub value_bytes : ℕ → ℤ → List ℕ
value_bytes place value = take (size_at place) (four_bytes (number_of (size_at place) value))

-- the field of a setting with a value: tag, length and value
unfoldable pub field_of : ℕ → ℤ → List ℕ
field_of place value = tag_of place ∷ (two_bytes (size_at place) ++ value_bytes place value)

-- a field that has all four bytes of a number, before it is cut
abbrev pub long_field : ℕ → ℕ → ℕ → List ℕ
long_field place size number = tag_of place ∷ (two_bytes size ++ four_bytes number)

-- the first n fields of some settings
unfoldable pub fields : ℕ → List ℤ → List ℕ
fields zero settings = []
fields (suc n) settings = fields n settings ++ field_of n (at settings n)

-- the image of some settings
unfoldable pub image_of : List ℤ → List ℕ
image_of settings = fields SETTINGS settings

-- the room after a store: the image in its first bytes, and later bytes as they were
unfoldable pub stored_in : List ℤ → List ℕ → List ℕ
stored_in settings room = image_of settings ++ drop IMAGE_LENGTH room
