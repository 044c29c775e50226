-- The service reads from a built request what was put in. Of a request's eight bytes the index has two and the number four, and each is made of its bytes again.
use Rattle.std.specs.Prelude.{Result, Ok, Err}
use mathlib.Core.Path.{◌≡◌, refl, sym, ◌∙◌}
use mathlib.Core.Bool.{true}
use Prim.Native.Nat.{ℕ, zero, suc, ◌%◌, ◌/◌, ◌≤◌, ◌<◌}
use native.Mathlib.Omega.{arith}
use borrow.Author.Tests.{eqb-true}
use lib.Dec.{eqb}
use lib.ListN.{length}
use Rattle.integers.proofs.Cases.{by_test, apart}
use Rattle.coding.specs.Bytes.{two_of, four_bytes}
use Rattle.coding.proofs.Bytes.{four_back}
use Rattle.dictionary.specs.declared.Abort.{Abort}
use Rattle.dictionary.specs.declared.Abort.TheVariants.{UnknownCommand}
use Rattle.sdo.specs.Frames.{FRAME, request_of, asks_of, frame_of, read_request, write_command, write_request}
use Rattle.sdo.specs.declared.Request.{Request}
use Rattle.sdo.specs.declared.Asks.{Asks}
use Rattle.sdo.specs.declared.Asks.TheVariants.{Reads, Writes}

-- the parts of a request
abbrev request : ℕ → ℕ → ℕ → ℕ → Request
request command index sub number = record { command = command; sub = sub; index = index; number = number }

-- a frame has eight bytes, and the request in them is that of its parts
pub frame_long : (command index sub number : ℕ) → length (frame_of command index sub number) ≡ FRAME
unfolding frame_of four_bytes
frame_long command index sub number = refl

pub frame_read : (command sub : ℕ) {index number : ℕ} → index < 65536 → number < 4294967296 → request_of (frame_of command index sub number) ≡ request command index sub number
unfolding frame_of four_bytes
frame_read command sub {index} {number} i n =
    let e : two_of (index % 256) (index / 256) ≡ index = omega arith in
    rw (e, four_back n)

-- ---- the two requests

pub read_request_read : (sub : ℕ) {index : ℕ} → index < 65536 → request_of (read_request index sub) ≡ request 0x40 index sub 0
unfolding read_request
read_request_read sub i = frame_read 0x40 sub i (omega arith)

pub read_request_asks : asks_of 0x40 ≡ Ok Reads
unfolding asks_of
read_request_asks = refl

pub write_request_read : (sub size : ℕ) {index number : ℕ} → index < 65536 → number < 4294967296 → request_of (write_request index sub size number) ≡ request (write_command size) index sub number
unfolding write_request
write_request_read sub size i n = frame_read (write_command size) sub i n

pub write_request_asks : (size : ℕ) → 0 < size → size ≤ 4 → asks_of (write_command size) ≡ Ok (Writes size)
unfolding asks_of write_command
write_request_asks zero h k = absurd (omega arith)
write_request_asks (suc zero) h k = refl
write_request_asks (suc (suc zero)) h k = refl
write_request_asks (suc (suc (suc zero))) h k = refl
write_request_asks (suc (suc (suc (suc zero)))) h k = refl
write_request_asks (suc (suc (suc (suc (suc size))))) h k = absurd (omega arith)

-- and a command byte that asks for a write is the one of its size
pub asks_write : (command size : ℕ) → asks_of command ≡ Ok (Writes size) → (command ≡ write_command size) × (0 < size) × (size ≤ 4)
unfolding asks_of write_command
asks_write command size =
    by_test P (eqb command 0x40) (λ t e. apart (cc))
    (λ _. by_test P (eqb command 0x2F) (λ t. of 1 0x2F t refl (omega arith) (omega arith))
    (λ _. by_test P (eqb command 0x2B) (λ t. of 2 0x2B t refl (omega arith) (omega arith))
    (λ _. by_test P (eqb command 0x27) (λ t. of 3 0x27 t refl (omega arith) (omega arith))
    (λ _. by_test P (eqb command 0x23) (λ t. of 4 0x23 t refl (omega arith) (omega arith)) (λ t e. apart (cc))))))
  where
    Sized : ℕ → Type 0
    Sized n = (command ≡ write_command n) × (0 < n) × (n ≤ 4)

    P : Result Asks Abort → Type 0
    P a = a ≡ Ok (Writes size) → Sized size

    of : (n byte : ℕ) → eqb command byte ≡ true → write_command n ≡ byte → 0 < n → n ≤ 4 → P (Ok (Writes n))
    of n byte t w h k e =
        let same : n ≡ size = cc in
        let sized : Sized n = (eqb-true command byte t ∙ sym w, h, k) in
        rw same at sized

-- and one that asks for nothing is told to be unknown
pub asks_unknown : (command : ℕ) (abort : Abort) → asks_of command ≡ Err abort → abort ≡ UnknownCommand
unfolding asks_of
asks_unknown command abort =
    by_test P (eqb command 0x40) (λ t e. apart (cc))
    (λ _. by_test P (eqb command 0x2F) (λ t e. apart (cc))
    (λ _. by_test P (eqb command 0x2B) (λ t e. apart (cc))
    (λ _. by_test P (eqb command 0x27) (λ t e. apart (cc))
    (λ _. by_test P (eqb command 0x23) (λ t e. apart (cc)) (λ t e. cc)))))
  where
    P : Result Asks Abort → Type 0
    P a = a ≡ Err abort → abort ≡ UnknownCommand
