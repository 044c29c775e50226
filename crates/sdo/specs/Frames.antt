-- Document 01, "SDO": the bytes of a request and of its reply.
use Rattle.std.specs.Prelude.{Bool, true, false, List, [], ◌∷◌, ◌++◌, ℕ, ◌%◌, ◌/◌, drop, Result, Ok, Err, if◌then◌else◌}
use Rattle.integers.specs.Words.{◌is◌}
use Rattle.coding.specs.Bytes.{byte_at, two_of, four_of, four_bytes}
use Rattle.device.specs.Numbers.{number_of_refusal}
use Rattle.dictionary.specs.Aborts.{code_of_abort}
use Rattle.dictionary.specs.declared.Abort.{Abort}
use Rattle.dictionary.specs.declared.Abort.TheVariants.{UnknownCommand}
use Rattle.sdo.specs.declared.Request.{Request}
use Rattle.sdo.specs.declared.Asks.{Asks}
use Rattle.sdo.specs.declared.Asks.TheVariants.{Reads, Writes}
use Rattle.sdo.specs.declared.Outcome.{Outcome}
use Rattle.sdo.specs.declared.Outcome.TheVariants.{Read, Written, Abort as Aborted, Refused}

-- a request and a reply have eight bytes
abbrev pub FRAME : ℕ
FRAME = 8

-- ---- requests

-- command, index low first, sub-index, four data bytes low first
abbrev pub request_of : List ℕ → Request
request_of bytes =
    record {
      command = byte_at bytes 0;
      sub = byte_at bytes 3;
      index = two_of (byte_at bytes 1) (byte_at bytes 2);
      number = four_of (byte_at bytes 4) (byte_at bytes 5) (byte_at bytes 6) (byte_at bytes 7);
    }

-- what a command byte asks: 40h reads; 2Fh, 2Bh, 27h, 23h write 1, 2, 3, 4 bytes
unfoldable pub asks_of : ℕ → Result Asks Abort
asks_of command =
    if command is 0x40 then Ok Reads
    else if command is 0x2F then Ok (Writes 1)
    else if command is 0x2B then Ok (Writes 2)
    else if command is 0x27 then Ok (Writes 3)
    else if command is 0x23 then Ok (Writes 4)
    else Err UnknownCommand

-- command, index low first, sub-index, four bytes of a number low first
unfoldable pub frame_of : ℕ → ℕ → ℕ → ℕ → List ℕ
frame_of command index sub number = command ∷ index % 256 ∷ index / 256 ∷ sub ∷ four_bytes number

-- the request that reads an entry
unfoldable pub read_request : ℕ → ℕ → List ℕ
read_request index sub = frame_of 0x40 index sub 0

-- the command byte of a write of 1, 2, 3 bytes, and else of 4
unfoldable pub write_command : ℕ → ℕ
write_command size =
    if size is 1 then 0x2F
    else if size is 2 then 0x2B
    else if size is 3 then 0x27
    else 0x23

-- the request that writes so many bytes of a number to an entry
unfoldable pub write_request : ℕ → ℕ → ℕ → ℕ → List ℕ
write_request index sub size number = frame_of (write_command size) index sub number

-- ---- replies

-- the command byte of a read reply: 4Fh, 4Bh or 43h for 1, 2 or 4 bytes
unfoldable pub read_reply : ℕ → ℕ
read_reply size =
    if size is 1 then 0x4F
    else if size is 2 then 0x4B
    else 0x43

-- the eight bytes of a reply; a refusal has none
abbrev pub reply_of : Outcome → Request → List ℕ
reply_of (Read size number) q = frame_of (read_reply size) q.index q.sub number
reply_of Written q = frame_of 0x60 q.index q.sub 0
reply_of (Aborted abort) q = frame_of 0x80 q.index q.sub (code_of_abort abort)
reply_of (Refused refusal) q = []

-- a reply is due to all but a refusal
abbrev pub is_due : Outcome → Bool
is_due (Read size number) = true
is_due Written = true
is_due (Aborted abort) = true
is_due (Refused refusal) = false

-- the room after the reply: it goes to the first eight bytes and later bytes stay; a refusal writes nothing
unfoldable pub replied_in : Outcome → Request → List ℕ → List ℕ
replied_in outcome q room = if is_due outcome then reply_of outcome q ++ drop FRAME room else room

-- the number handed back: 0 where it is done, an abort reply included
abbrev pub number_handed_back : Outcome → ℕ
number_handed_back (Read size number) = 0
number_handed_back Written = 0
number_handed_back (Aborted abort) = 0
number_handed_back (Refused refusal) = number_of_refusal refusal
