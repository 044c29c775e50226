-- Document 01, "SDO" and "Stored image": numbers as bytes, low first.
use Rattle.std.specs.Prelude.{List, [], ◌∷◌, ℕ, ◌+◌, ◌*◌, ◌/◌, ◌%◌, ◌^◌, get_or}

-- the byte at a place of some bytes; past the end it is 0
abbrev pub byte_at : List ℕ → ℕ → ℕ
byte_at bytes place = get_or bytes place 0

-- the byte at a place of a number
abbrev pub byte_of : ℕ → ℕ → ℕ
byte_of number place = number / 2 ^ (8 * place) % 256

-- a number's two bytes, and its four
unfoldable pub two_bytes : ℕ → List ℕ
two_bytes number = byte_of number 0 ∷ byte_of number 1 ∷ []

unfoldable pub four_bytes : ℕ → List ℕ
four_bytes number = byte_of number 0 ∷ byte_of number 1 ∷ byte_of number 2 ∷ byte_of number 3 ∷ []

-- two bytes as a number, and four
abbrev pub two_of : ℕ → ℕ → ℕ
two_of a b = a + b * 256

abbrev pub four_of : ℕ → ℕ → ℕ → ℕ → ℕ
four_of a b c d = a + b * 256 + c * 65536 + d * 16777216
