-- Document 01, "SDO" and "Stored image": a value of 1, 2 or 4 bytes as a number. A signed value below zero has the top bit set.
use Rattle.std.specs.Prelude.{Bool, not, ◌&&◌, ℕ, ◌-◌, ◌/◌, ◌%◌, ℤ, pos, nat_abs, ◌-ℤ◌, if◌then◌else◌}
use Rattle.integers.specs.Words.{minus, ◌is◌, ◌below◌, ◌<?◌}
use Rattle.integers.specs.Range.{Within}

-- how many numbers so many bytes hold
unfoldable pub span : ℕ → ℕ
span size =
    if size is 1 then 256
    else if size is 2 then 65536
    else 4294967296

-- the value for which a number below the span stands: a signed one's upper half lies below zero
unfoldable pub in_span : ℕ → Bool → ℕ → ℤ
in_span limit signed low =
    if signed && not (low below limit / 2) then pos low -ℤ pos limit
    else pos low

-- the value for which the low bytes of a number stand
unfoldable pub value_of : ℕ → Bool → ℕ → ℤ
value_of size signed number = in_span (span size) signed (number % span size)

-- the number that stands for a value
unfoldable pub number_of : ℕ → ℤ → ℕ
number_of size value =
    if value <? pos 0 then span size - nat_abs value
    else nat_abs value

-- a value that so many bytes hold, signed or not
pub record Held (size : ℕ) (value : ℤ) : Type 0 where
  pub range : Within (minus (span size / 2)) (pos (span size - 1)) value

-- the least and the greatest value of a type: so many bytes, signed or not
abbrev pub lowest : ℕ → Bool → ℤ
lowest size signed = if signed then minus (span size / 2) else pos 0

abbrev pub highest : ℕ → Bool → ℤ
highest size signed = if signed then pos (span size / 2 - 1) else pos (span size - 1)

-- a value of a type: so many bytes, signed or not
pub record Typed (size : ℕ) (signed : Bool) (value : ℤ) : Type 0 where
  pub range : Within (lowest size signed) (highest size signed) value
