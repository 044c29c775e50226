-- Document 01, "Stored image": what a full image is, and the settings in it.
use Rattle.std.specs.Prelude.{Bool, ◌&&◌, List, [], ◌∷◌, ◌++◌, ℕ, zero, suc, ◌+◌, ℤ, length}
use Rattle.integers.specs.Words.{each, ◌is◌}
use Rattle.objects.specs.Places.{SETTINGS}
use Rattle.objects.specs.Table.{row_at}
use Rattle.coding.specs.Bytes.{byte_at, two_of, four_of}
use Rattle.coding.specs.Coding.{value_of}
use Rattle.image.specs.Fields.{IMAGE_LENGTH, HEADER, tag_of, size_at, start}

-- the length that the header at k gives for its value
abbrev pub length_at : List ℕ → ℕ → ℕ
length_at image k = two_of (byte_at image (k + 1)) (byte_at image (k + 2))

-- the header of a setting's field: its tag, and the length of its type
unfoldable pub head_at : List ℕ → ℕ → Bool
head_at image place =
    byte_at image (start place) is tag_of place
    && length_at image (start place) is size_at place

-- a full image has each tag once, ascending, with the length of its type, and no more
unfoldable pub is_full : List ℕ → Bool
is_full image = length image is IMAGE_LENGTH && each SETTINGS (head_at image)

-- four bytes from k on, as a number low first
abbrev pub four_at : List ℕ → ℕ → ℕ
four_at image k = four_of (byte_at image k) (byte_at image (k + 1)) (byte_at image (k + 2)) (byte_at image (k + 3))

-- the value in a setting's field, of which the low bytes count that its type has
unfoldable pub value_in_image : List ℕ → ℕ → ℤ
value_in_image image place = value_of (size_at place) (row_at place).signed (four_at image (start place + HEADER))

-- the values in the first n fields
unfoldable pub values_in : ℕ → List ℕ → List ℤ
values_in zero image = []
values_in (suc n) image = values_in n image ++ (value_in_image image n ∷ [])

-- the settings in an image
unfoldable pub settings_in : List ℕ → List ℤ
settings_in image = values_in SETTINGS image
