-- Document 01, "Stored image": by wish 6 of document 02 that of the position block, whichever is selected.
use Rattle.std.specs.Prelude.{if◌then◌else◌}
use Rattle.std.specs.Prelude.{Bool, true, ◌&&◌, List, [], ◌∷◌, ◌++◌, ℕ, zero, suc, ◌+◌, ℤ, pos, length, take, drop}
use Rattle.integers.specs.Words.{◌is◌, ◌below◌, ◌≤?◌}
use Rattle.promises.specs.Library.{Told, Reply}
use Rattle.promises.specs.Sheet.{Line, line_at, in_range}
use Rattle.promises.specs.Sdo.{number_for, stands_for, low_first, put, byte, two_from, four_from}

-- tags 1 to 17
unfoldable pub tagged : List Line
tagged =
    line_at 0x6314 1 ∷ line_at 0x6320 1 ∷ line_at 0x6321 1 ∷ line_at 0x6322 0 ∷ line_at 0x6323 1 ∷ line_at 0x6324 1
    ∷ line_at 0x6330 0 ∷ line_at 0x6331 1 ∷ line_at 0x6332 1 ∷ line_at 0x6333 1 ∷ line_at 0x6334 1 ∷ line_at 0x6335 1
    ∷ line_at 0x6336 1 ∷ line_at 0x6342 0 ∷ line_at 0x6343 1 ∷ line_at 0x6344 1 ∷ line_at 0x6345 1 ∷ []

-- the fields of some lines, the first with this tag: one-byte tag, two-byte length (low first), value (low first)
unfoldable pub fields : ℕ → List Line → Told → List ℕ
fields tag [] t = []
fields tag (l ∷ lines) t =
    let size = l.kind.bytes in
    let number = number_for l.kind (t.value l.index l.sub) in
    (tag ∷ (take 2 (low_first size) ++ take size (low_first number))) ++ fields (suc tag) lines t

unfoldable pub image : Told → List ℕ
image t = fields 1 tagged t

-- each tag once, ascending, with the length of its type
unfoldable pub headed : ℕ → List Line → List ℕ → Bool
headed tag [] bytes = true
headed tag (l ∷ lines) bytes =
    byte bytes 0 is tag && two_from bytes 1 is l.kind.bytes && headed (suc tag) lines (drop (3 + l.kind.bytes) bytes)

-- a full image: 97 bytes and no more
unfoldable pub full : List ℕ → Bool
full bytes = length bytes is 97 && headed 1 tagged bytes

-- the values in the fields of some lines, and all else as it was
unfoldable pub values_in : List Line → List ℕ → (ℕ → ℕ → ℤ) → ℕ → ℕ → ℤ
values_in [] bytes value = value
values_in (l ∷ lines) bytes value =
    let rest = values_in lines (drop (3 + l.kind.bytes) bytes) value in
    put l.index l.sub (stands_for l.kind (four_from bytes 3)) rest

-- the values after a load
abbrev pub loaded : List ℕ → Told → ℕ → ℕ → ℤ
loaded bytes t = values_in tagged bytes t.value

-- they are in range, and the lower limit is not above the upper
unfoldable pub fits : List ℕ → Told → Bool
fits bytes t = in_range tagged (loaded bytes t) && loaded bytes t 0x6321 1 ≤? loaded bytes t 0x6320 1

-- what a search comes to: a number, and a part that begins there
abbrev pub found : ℕ → ℕ → List ℕ → Reply
found number begin part = record { number = number; room = []; value = pos 0; begin = begin; part = part }

-- the fields are walked from byte k on: the walk has ended; a field is cut short; it is so tagged; else on to the next
unfoldable pub search_from : ℕ → List ℕ → ℕ → ℕ → Reply
search_from zero bytes tag k = found 10 0 []
search_from (suc fields) bytes tag k =
    let size = two_from bytes (k + 1) in
    if length bytes below (k + 1) then found 10 0 []
    else if length bytes below (k + 3) then found 7 0 []
    else if length bytes below (k + 3 + size) then found 7 0 []
    else if byte bytes k is tag then found 0 (k + 3) (take size (drop (k + 3) bytes))
    else search_from fields bytes tag (k + 3 + size)

-- from the start; there are fewer fields than bytes
unfoldable pub search : List ℕ → ℕ → Reply
search bytes tag = search_from (suc (length bytes)) bytes tag 0
