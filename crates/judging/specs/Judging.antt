-- Document 01, "Examples": cases run in order, each a record of 16 bytes, a request and its expected reply.
use Rattle.std.specs.Prelude.{Bool, ◌&&◌, List, ℕ, zero, suc, ◌+◌, ◌*◌, ◌/◌, length, take, drop, replicate, if◌then◌else◌}
use Rattle.integers.specs.Words.{◌is◌, ◌below◌, each}
use Rattle.coding.specs.Bytes.{byte_at}
use Rattle.device.specs.Device.{fresh_device}
use Rattle.sdo.specs.Frames.{FRAME, is_due}
use Rattle.sdo.specs.declared.Outcome.{Outcome}
use Rattle.rainsheave.specs.Calls.{sdo_answer, sdo_room}
use Rattle.judging.specs.declared.Tally.{Tally}

-- a case has 16 bytes: a request and its expected reply
abbrev pub CASE : ℕ
CASE = 16

-- eight bytes, each the same
unfoldable pub same : List ℕ → List ℕ → Bool
same a b = each FRAME (λ k. byte_at a k is byte_at b k)

-- a case passes where a reply is due and is the expected one
unfoldable pub passes : Outcome → List ℕ → List ℕ → Bool
passes outcome reply expected = is_due outcome && same reply expected

-- one more; a count ends at the largest number of 64 bits
unfoldable pub one_more : ℕ → ℕ
one_more n = if n below 0xFFFFFFFFFFFFFFFF then n + 1 else n

-- how many failed, by whether one case more passes
unfoldable pub failed_after : ℕ → Bool → ℕ
failed_after failed passes = if passes then failed else one_more failed

-- before the first case
abbrev pub fresh_tally : Tally
fresh_tally = record { device = fresh_device; cases = 0; failed = 0 }

-- after one case more: its first eight bytes are asked of the device, in a room of eight zeros, and its last eight expected
unfoldable pub judged_case : List ℕ → Tally → Tally
judged_case case t =
    let request = take FRAME case in
    let answer = sdo_answer t.device request FRAME in
    let reply = sdo_room t.device request (replicate FRAME 0) in
    record {
      device = answer.device;
      cases = one_more t.cases;
      failed = failed_after t.failed (passes answer.outcome reply (drop FRAME case));
    }

-- the record at a place
abbrev pub case_at : List ℕ → ℕ → List ℕ
case_at bytes k = take CASE (drop (CASE * k) bytes)

-- after the first n records
unfoldable pub judged : ℕ → List ℕ → Tally → Tally
judged zero bytes t = t
judged (suc n) bytes t = judged_case (case_at bytes n) (judged n bytes t)

-- after all whole records
abbrev pub judged_all : List ℕ → Tally → Tally
judged_all bytes t = judged (length bytes / CASE) bytes t
