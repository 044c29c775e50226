-- The low bytes of four, as many as a size has: they are a part of the image, they make a number of that size, and they are the bytes of it.
use mathlib.Core.List.{List, [], ◌∷◌}
use mathlib.Core.Path.{◌≡◌, refl}
use Prim.Native.Nat.{ℕ, zero, suc, ◌+◌, ◌*◌, ◌%◌, ◌≤◌, ◌<◌}
use native.Mathlib.Numerals.{add-one}
use native.Mathlib.Omega.{arith}
use lib.ListN.{length, take, drop}
use lib.Seq.{drop-cons}
use Rattle.coding.specs.Bytes.{byte_at, byte_of, four_of, four_bytes}
use Rattle.coding.specs.Coding.{span}
use Rattle.coding.proofs.Bytes.{four_back, bytes_of_four}
use Rattle.image.proofs.Lengths.{Sized, one, two, four}

abbrev pub four_from : List ℕ → ℕ → List ℕ
four_from image k = byte_at image k ∷ byte_at image (k + 1) ∷ byte_at image (k + 2) ∷ byte_at image (k + 3) ∷ []

pub bytes_from : (n : ℕ) (image : List ℕ) (k : ℕ) → n ≤ 4 → k + n ≤ length image → take n (drop k image) ≡ take n (four_from image k)
bytes_from zero image k few h = refl
bytes_from (suc zero) image k few h = rw (drop-cons image k 0 (omega arith))
bytes_from (suc (suc zero)) image k few h = rw (add-one, drop-cons image k 0 (omega arith), drop-cons image (suc k) 0 (omega arith))
bytes_from (suc (suc (suc zero))) image k few h =
    let a : k + 2 ≡ suc (suc k) = omega arith in
    rw (add-one, a, drop-cons image k 0 (omega arith), drop-cons image (suc k) 0 (omega arith), drop-cons image (suc (suc k)) 0 (omega arith))
bytes_from (suc (suc (suc (suc zero)))) image k few h =
    let a : k + 2 ≡ suc (suc k) = omega arith in
    let b : k + 3 ≡ suc (suc (suc k)) = omega arith in
    let last = drop-cons image (suc (suc (suc k))) 0 (omega arith) in
    rw (add-one, a, b, drop-cons image k 0 (omega arith), drop-cons image (suc k) 0 (omega arith), drop-cons image (suc (suc k)) 0 (omega arith), last)
bytes_from (suc (suc (suc (suc (suc n))))) image k few h = absurd (omega arith)

-- they make a number of that size
pub number_from_bytes : {n : ℕ} → Sized n → (number a b c d : ℕ) → number < span n
    → take n (a ∷ b ∷ c ∷ d ∷ []) ≡ take n (four_bytes number) → four_of a b c d % span n ≡ number
unfolding span four_bytes
number_from_bytes (one e) number a b c d h same =
    let k : number < 256 = rw e at h in
    let l : take 1 (a ∷ b ∷ c ∷ d ∷ []) ≡ take 1 (four_bytes number) = rw e at same in
    let p : a ≡ byte_of number 0 = cc in
    rw e (omega arith)
number_from_bytes (two e) number a b c d h same =
    let k : number < 65536 = rw e at h in
    let l : take 2 (a ∷ b ∷ c ∷ d ∷ []) ≡ take 2 (four_bytes number) = rw e at same in
    let p : a ≡ byte_of number 0 = cc in
    let q : b ≡ byte_of number 1 = cc in
    rw e (omega arith)
number_from_bytes (four e) number a b c d h same =
    let k : number < 4294967296 = rw e at h in
    let l : take 4 (a ∷ b ∷ c ∷ d ∷ []) ≡ take 4 (four_bytes number) = rw e at same in
    let v : four_of a b c d ≡ number = cc (four_back k) in
    rw e (omega arith)

-- and are the bytes of the number that they make
pub bytes_from_number : {n : ℕ} → Sized n → {a b c d : ℕ} → a < 256 → b < 256 → c < 256 → d < 256
    → take n (four_bytes (four_of a b c d % span n)) ≡ take n (a ∷ b ∷ c ∷ d ∷ [])
unfolding span four_bytes
bytes_from_number (one e) {a} {b} {c} {d} p q r t =
    let x : byte_of (four_of a b c d % 256) 0 ≡ a = omega arith in
    rw (e, x)
bytes_from_number (two e) {a} {b} {c} {d} p q r t =
    let n : four_of a b c d % 65536 ≡ a + b * 256 = omega arith in
    let x : byte_of (four_of a b c d % 65536) 0 ≡ a = rw n (omega arith) in
    let y : byte_of (four_of a b c d % 65536) 1 ≡ b = rw n (omega arith) in
    rw (e, x, y)
bytes_from_number (four e) {a} {b} {c} {d} p q r t =
    let n : four_of a b c d % 4294967296 ≡ four_of a b c d = omega arith in
    rw (e, n) (bytes_of_four p q r t)
