-- A number and its bytes are each other's. Division by 256, again and again, takes the bytes off from the lowest up.
use mathlib.Core.Path.{◌≡◌}
use mathlib.Core.List.{[], ◌∷◌}
use Prim.Native.Nat.{ℕ, ◌+◌, ◌*◌, ◌/◌, ◌<◌}
use native.Mathlib.Omega.{arith}
use Rattle.coding.specs.Bytes.{byte_of, two_bytes, four_bytes, two_of, four_of}

-- the two bytes of a number that has no more make it
pub two_back : {n : ℕ} → n < 65536 → two_of (byte_of n 0) (byte_of n 1) ≡ n
two_back h = omega arith

-- and the four bytes
pub four_back : {n : ℕ} → n < 4294967296 → four_of (byte_of n 0) (byte_of n 1) (byte_of n 2) (byte_of n 3) ≡ n
four_back {n} h =
    let two : n / 256 ≡ n / 65536 * 256 + byte_of n 1 = omega arith in
    let three : n / 65536 ≡ n / 16777216 * 256 + byte_of n 2 = omega arith in
    let four : n / 16777216 ≡ byte_of n 3 = omega arith in
    omega arith

-- two bytes are the bytes of the number that they make
pub bytes_of_two : {a b : ℕ} → a < 256 → b < 256 → two_bytes (two_of a b) ≡ a ∷ b ∷ []
unfolding two_bytes
bytes_of_two {a} {b} p q =
    let x : byte_of (two_of a b) 0 ≡ a = omega arith in
    let y : byte_of (two_of a b) 1 ≡ b = omega arith in
    rw (x, y)

-- and four bytes
pub bytes_of_four : {a b c d : ℕ} → a < 256 → b < 256 → c < 256 → d < 256 → four_bytes (four_of a b c d) ≡ a ∷ b ∷ c ∷ d ∷ []
unfolding four_bytes
bytes_of_four {a} {b} {c} {d} p q r s =
    let n = four_of a b c d in
    let one : n / 256 ≡ b + c * 256 + d * 65536 = omega arith in
    let two : n / 65536 ≡ c + d * 256 = omega arith in
    let three : n / 16777216 ≡ d = omega arith in
    let w : byte_of n 0 ≡ a = omega arith in
    let x : byte_of n 1 ≡ b = rw one (omega arith) in
    let y : byte_of n 2 ≡ c = rw two (omega arith) in
    let z : byte_of n 3 ≡ d = rw three (omega arith) in
    rw (w, x, y, z)
