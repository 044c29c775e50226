-- What a store puts: a field is the long one cut, and a turn of the loop puts one more field after those before it and leaves the later bytes.
use mathlib.Core.Path.{◌≡◌}
use mathlib.Core.List.{List, ◌++◌}
use Prim.Native.Nat.{ℕ, ◌+◌}
use native.Mathlib.Numerals.{add-one}
use native.Mathlib.Omega.{arith}
use lib.IntN.{ℤ}
use lib.ListN.{take, drop}
use lib.Seq.{paste, take-add, take_at, take_all, drop-append-add, drop-drop}
use Rattle.coding.specs.Bytes.{two_bytes}
use Rattle.coding.specs.Coding.{number_of}
use Rattle.block.specs.Block.{at}
use Rattle.image.specs.Fields.{HEADER, size_at, field_length, start, field_of, long_field, fields}
use Rattle.image.proofs.Lengths.{start_next, length_field, length_fields}

pub long_field_cut : (place : ℕ) (value : ℤ)
    → take (field_length place) (long_field place (size_at place) (number_of (size_at place) value)) ≡ field_of place value
unfolding field_of two_bytes
long_field_cut place value = take-add HEADER (size_at place) _

pub stored_next : (n : ℕ) (settings : List ℤ) (room : List ℕ)
    → paste (fields n settings ++ drop (start n) room) (start n) (field_of n (at settings n)) (field_length n)
    ≡ fields (n + 1) settings ++ drop (start (n + 1)) room
unfolding fields
stored_next n settings room =
    let before = length_fields n settings in
    let whole = take_all (field_length n) (field_of n (at settings n)) (omega (arith, length_field n (at settings n))) in
    rw (start_next, add-one) (simp (take_at (fields n settings) (drop (start n) room) (start n) before, whole, ← before, drop-append-add, drop-drop))
