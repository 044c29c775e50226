-- Document 01, "SDO", with wishes 1, 2, 4 and 6 of document 02; then wish 2's process data.
use Rattle.std.specs.Prelude.{Bool, false, not, ◌&&◌, ◌||◌, List, [], ◌∷◌, ◌++◌, ℕ, ◌+◌, ◌-◌, ◌*◌, ◌/◌, ◌%◌, ◌^◌, ℤ}
use Rattle.std.specs.Prelude.{pos, nat_abs, ◌-ℤ◌, get_or, take, drop, if◌then◌else◌}
use Rattle.integers.specs.Words.{each, ◌<?◌, ◌is◌, ◌below◌, ◌among◌}
use Rattle.promises.specs.Library.{Told, holding, Refusal, ◌when◌, first}
use Rattle.promises.specs.Sheet.{Kind, Line, line_at, has_entry, is_read_only, is_held}
use Rattle.promises.specs.Valve.{controlled, status, command}

-- the number that the bytes of a type have for a value: below zero the top bit is set
unfoldable pub number_for : Kind → ℤ → ℕ
number_for kind x = if x <? pos 0 then 256 ^ kind.bytes - nat_abs x else nat_abs x

-- the value for which a number stands: bytes beyond the type's are ignored
unfoldable pub stands_for : Kind → ℕ → ℤ
stands_for kind n =
    let all = 256 ^ kind.bytes in
    if kind.signed && not (n % all below all / 2) then pos (n % all) -ℤ pos all else pos (n % all)

-- the value of an entry; by wish 6 the command of the block that is not selected reads 0
unfoldable pub value_at : Told → Line → ℤ
value_at t l =
    if is_held l then t.value l.index l.sub
    else if l.index is 0x6040 then pos t.control
    else if l.index is 0x6041 then pos (status t)
    else if l.index is 0x604E then pos t.error
    else if l.index is 0x2000 then pos t.selected
    else if l.index is 0x6310 && l.sub is 1 then (if t.selected is 0 then command t else pos 0)
    else if l.index is 0x6390 && l.sub is 1 then (if t.selected is 1 then command t else pos 0)
    else l.fresh

-- the number that a read of an entry tells
abbrev pub number_at : Told → ℕ → ℕ → ℕ
number_at t index sub = number_for (line_at index sub).kind (value_at t (line_at index sub))

-- 2Fh, 2Bh, 27h, 23h write 1, 2, 3, 4 bytes
unfoldable pub sent_by : ℕ → ℕ
sent_by command = if command is 0x2F then 1 else if command is 0x2B then 2 else if command is 0x27 then 3 else 4

-- upper limit below lower after this write: 6321h stands after 6320h, and 63A1h after 63A0h
unfoldable pub crosses : Told → ℕ → ℤ → Bool
crosses t index x =
    if index among 0x6320 ∷ 0x63A0 ∷ [] then x <? t.value (index + 1) 1
    else if index among 0x6321 ∷ 0x63A1 ∷ [] then t.value (index - 1) 1 <? x
    else false

-- wish 2: what 1600h may receive and 1A00h may send; an entry is index, sub-index and length in bits
abbrev pub mappable : ℕ → List ℕ
mappable map =
    if map is 0x1600 then 0x60400010 ∷ 0x63000110 ∷ 0x63140110 ∷ []
    else 0x60410010 ∷ 0x604E0010 ∷ 0x63100110 ∷ []

-- the number of entries of a map, at sub-index 0, and its entries
abbrev pub mapped : Told → ℕ → ℕ → ℕ
mapped t map sub = nat_abs (t.value map sub)

-- wish 2: an entry while sub 0 isn't 0; a sub 0 above 4; an entry that it would count, or a nonzero one, not mappable
unfoldable pub map_aborts : Told → ℕ → ℕ → ℕ → List Refusal
map_aborts t map sub n =
    0x08000022 when (not (sub is 0) && not (mapped t map 0 is 0))
    ∷ 0x06040042 when (sub is 0 && 4 below n)
    ∷ 0x06040041 when (sub is 0 && not (each n (λ k. mapped t map (k + 1) among mappable map)))
    ∷ 0x06040041 when (not (sub is 0) && not (n is 0 || n among mappable map))
    ∷ []

-- places 4 to 8: write to a read-only entry; by wish 1 too many bytes, too few; another choice, too high, too low;
-- upper limit below lower; locked in this state
unfoldable pub write_aborts : Told → Line → ℕ → ℤ → List Refusal
write_aborts t l sent x =
    0x06010002 when is_read_only l
    ∷ 0x06070012 when (l.kind.bytes below sent)
    ∷ 0x06070013 when (sent below l.kind.bytes)
    ∷ 0x06090030 when (l.index among 0x6330 ∷ 0x6342 ∷ 0x6360 ∷ 0x63B0 ∷ 0x63C2 ∷ []
    && (l.kind.high <? x || x <? l.kind.low))
    ∷ 0x06090031 when (l.kind.high <? x)
    ∷ 0x06090032 when (x <? l.kind.low)
    ∷ 0x06090036 when crosses t l.index x
    ∷ 0x08000022 when not (t.state among l.writable)
    ∷ (if l.index among 0x1600 ∷ 0x1A00 ∷ [] then map_aborts t l.index l.sub (nat_abs x) else [])

-- of a request: another command byte; no such object; no such sub-index; and of a write the others
unfoldable pub aborts : Told → ℕ → ℕ → ℕ → ℕ → List Refusal
aborts t command index sub n =
    let l = line_at index sub in
    0x05040001 when not (command among 0x40 ∷ 0x2F ∷ 0x2B ∷ 0x27 ∷ 0x23 ∷ [])
    ∷ 0x06020000 when not (has_entry index 0)
    ∷ 0x06090011 when not (has_entry index sub)
    ∷ (if command is 0x40 then [] else write_aborts t l (sent_by command) (stands_for l.kind n))

-- the values with another one at an index and a sub-index
abbrev pub put : ℕ → ℕ → ℤ → (ℕ → ℕ → ℤ) → ℕ → ℕ → ℤ
put index sub x value i s = if index is i && sub is s then x else value i s

-- an accepted write: 6040h is a control word, 2000h selects a block, any other value is held
unfoldable pub written : ℕ → ℕ → ℤ → Told → Told
written index sub x t =
    if index is 0x6040 then controlled (nat_abs x) t
    else if index is 0x2000 then holding (nat_abs x) t.value t
    else holding t.selected (put index sub x t.value) t

-- an abort changes no state; reading never does
unfoldable pub served : ℕ → ℕ → ℕ → ℕ → Told → Told
served command index sub n t =
    if command is 0x40 || not (first (aborts t command index sub n) is 0) then t
    else written index sub (stands_for (line_at index sub).kind n) t

-- four bytes of a number, low first
abbrev pub low_first : ℕ → List ℕ
low_first n = n % 256 ∷ n / 256 % 256 ∷ n / 65536 % 256 ∷ n / 16777216 % 256 ∷ []

-- a frame: command, index low first, sub-index, four data bytes low first
abbrev pub frame : ℕ → ℕ → ℕ → ℕ → List ℕ
frame command index sub n = command ∷ index % 256 ∷ index / 256 ∷ sub ∷ low_first n

-- the reply: abort 80h and the code; read 4Fh, 4Bh or 43h and 1, 2 or 4 bytes, unused ones zero; write 60h and zeros
unfoldable pub reply : ℕ → ℕ → ℕ → ℕ → Told → List ℕ
reply command index sub n t =
    let code = first (aborts t command index sub n) in
    let bytes = (line_at index sub).kind.bytes in
    let tells : ℕ = if bytes is 1 then 0x4F else if bytes is 2 then 0x4B else 0x43 in
    if not (code is 0) then frame 0x80 index sub code
    else if command is 0x40 then frame tells index sub (number_at t index sub)
    else frame 0x60 index sub 0

-- ==== Process data

-- the byte at a place, 0 past the end; two bytes from there on as a number, low first, and four
abbrev pub byte : List ℕ → ℕ → ℕ
byte bytes k = get_or bytes k 0

abbrev pub two_from : List ℕ → ℕ → ℕ
two_from bytes k = byte bytes k + byte bytes (k + 1) * 256

abbrev pub four_from : List ℕ → ℕ → ℕ
four_from bytes k = byte bytes k + byte bytes (k + 1) * 256 + byte bytes (k + 2) * 65536 + byte bytes (k + 3) * 16777216

-- the entries that a map counts
abbrev pub counted : Told → ℕ → List ℕ
counted t map = take (mapped t map 0) (mapped t map 1 ∷ mapped t map 2 ∷ mapped t map 3 ∷ mapped t map 4 ∷ [])

-- a received PDO: entries act in map order, each on two bytes, as the same SDO write would
unfoldable pub received : List ℕ → List ℕ → Told → Told
received [] pdo t = t
received (e ∷ entries) pdo t =
    received entries (drop 2 pdo) (served 0x2B (e / 65536) (e / 256 % 256) (four_from pdo 0) t)

-- a sent one: two bytes of each entry, which a read tells
unfoldable pub sent : List ℕ → Told → List ℕ
sent [] t = []
sent (e ∷ entries) t = take 2 (low_first (number_at t (e / 65536) (e / 256 % 256))) ++ sent entries t

-- a sound map: at most four are counted, and an entry is zero and not counted, or may be mapped
unfoldable pub sound_map : Told → ℕ → Bool
sound_map t map =
    let count = mapped t map 0 in
    let entry : ℕ → ℕ = λ k. mapped t map (k + 1) in
    not (4 below count) && each 4 (λ k. if entry k is 0 then not (k below count) else entry k among mappable map)
