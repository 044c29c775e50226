-- What the six objects of process data take and give: those that may be received take every value of two bytes in every state, and those that may be sent give two bytes.
use Rattle.std.specs.Prelude.{Ok}
use mathlib.Core.Bool.{Bool, true, false}
use mathlib.Core.List.{List}
use mathlib.Core.Path.{◌≡◌, refl, sym, ap, ◌∙◌}
use Prim.Native.Nat.{ℕ, ◌%◌, ◌<◌}
use native.Mathlib.Omega.{arith}
use borrow.Author.Tests.{le-ltb}
use lib.IntN.{pos}
use Rattle.integers.specs.Words.{◌among◌}
use Rattle.objects.specs.Places.{HOLD_SET_POINT, SET_POINT, CONTROL_WORD, COMMAND, POSITION}
use Rattle.objects.specs.Table.{objects, is_signed}
use Rattle.objects.specs.Lookup.{block_number, place_from, place_of, record_entry, entry_at}
use Rattle.coding.specs.Bytes.{four_of}
use Rattle.coding.specs.Coding.{span, in_span, value_of, number_of, Held}
use Rattle.coding.proofs.Laws.{number_below, value_typed, low_bytes}
use Rattle.coding.proofs.Rows.{row_held}
use Rattle.block.specs.Block.{with_setting, with_setpoint}
use Rattle.mapping.specs.Maps.{SENDABLE, index_of, sub_of}
use Rattle.mapping.proofs.Sound.{one_of_three}
use Rattle.device.specs.Device.{block_of, with_block_of}
use Rattle.device.specs.Events.{controlled}
use Rattle.device.specs.Queries.{status_of, block_command}
use Rattle.device.specs.declared.Device.{Device}
use Rattle.device.proofs.Laws.{status_most}
use Rattle.dictionary.specs.Named.{named}
use Rattle.dictionary.specs.Values.{value_at, written_to}
use Rattle.dictionary.specs.Decide.{crosses, is_locked, map_ruling, read_of, read_decision, write_of, write_decision}
use Rattle.dictionary.specs.declared.Decision.TheVariants.{Read, Write}
use Rattle.dictionary.proofs.Laws.{block_command_within, is_accepted}
use Rattle.pdo.specs.Receive.{data_in, acted}

-- ---- received

-- each object that may be received takes every value of two bytes, in every state
module _ (d : Device) (n : ℕ) where
  pub word_taken : write_decision d 0x6040 0 2 n ≡ Ok (Write POSITION CONTROL_WORD (value_of 2 false n))
  unfolding write_decision named block_number place_of place_from entry_at record_entry objects write_of is_signed crosses is_locked map_ruling span
  word_taken =
      is_accepted {d = d} {which = POSITION} {place = CONTROL_WORD} {size = 2} {x = value_of 2 false n}
      (record { writable = refl; sized = refl; range = (value_typed 2 false n).range; uncrossed = refl; unlocked = refl; unruled = refl })

  pub set_point_taken : write_decision d 0x6300 1 2 n ≡ Ok (Write POSITION SET_POINT (value_of 2 true n))
  unfolding write_decision named block_number place_of place_from entry_at record_entry objects write_of is_signed crosses is_locked map_ruling span
  set_point_taken =
      is_accepted {d = d} {which = POSITION} {place = SET_POINT} {size = 2} {x = value_of 2 true n}
      (record { writable = refl; sized = refl; range = (value_typed 2 true n).range; uncrossed = refl; unlocked = refl; unruled = refl })

  pub hold_set_point_taken : write_decision d 0x6314 1 2 n ≡ Ok (Write POSITION HOLD_SET_POINT (value_of 2 true n))
  unfolding write_decision named block_number place_of place_from entry_at record_entry objects write_of is_signed crosses is_locked map_ruling span
  hold_set_point_taken =
      is_accepted {d = d} {which = POSITION} {place = HOLD_SET_POINT} {size = 2} {x = value_of 2 true n}
      (record { writable = refl; sized = refl; range = (value_typed 2 true n).range; uncrossed = refl; unlocked = refl; unruled = refl })

-- of which the low two bytes count
pub low_two : (signed : Bool) (a b c e : ℕ) → value_of 2 signed (four_of a b c e) ≡ value_of 2 signed (four_of a b 0 0)
unfolding span
low_two signed a b c e =
    let same : four_of a b c e % 65536 ≡ four_of a b 0 0 % 65536 = omega arith in
    sym (low_bytes 2 signed (four_of a b c e)) ∙ ap (value_of 2 signed) same ∙ low_bytes 2 signed (four_of a b 0 0)

-- so each entry acts as its write does
module _ (d : Device) (bytes : List ℕ) where
  pub word_acted : acted 0x60400010 bytes d ≡ controlled (data_in bytes % 65536) d
  unfolding acted written_to value_of span in_span
  word_acted = rw (word_taken d (data_in bytes))

  pub set_point_acted : acted 0x63000110 bytes d ≡ with_block_of POSITION (with_setpoint (value_of 2 true (data_in bytes)) (block_of POSITION d)) d
  unfolding acted written_to
  set_point_acted = rw (set_point_taken d (data_in bytes))

  pub hold_set_point_acted : acted 0x63140110 bytes d ≡ with_block_of POSITION (with_setting HOLD_SET_POINT (value_of 2 true (data_in bytes)) (block_of POSITION d)) d
  unfolding acted written_to
  hold_set_point_acted = rw (hold_set_point_taken d (data_in bytes))

-- ---- sent

-- a number from zero up is the number of its bytes
pub positive_number : (size n : ℕ) → number_of size (pos n) ≡ n
unfolding number_of
positive_number size n = rw (le-ltb n 0 (omega arith))

-- what a read of each gives
module _ (d : Device) where
  pub status_read : read_decision d 0x6041 0 ≡ Ok (Read 2 (number_of 2 (pos (status_of d))))
  unfolding read_decision named block_number place_of place_from entry_at record_entry objects read_of value_at
  status_read = refl

  pub error_read : read_decision d 0x604E 0 ≡ Ok (Read 2 (number_of 2 (pos d.error)))
  unfolding read_decision named block_number place_of place_from entry_at record_entry objects read_of value_at
  error_read = refl

  pub command_read : read_decision d 0x6310 1 ≡ Ok (Read 2 (number_of 2 (block_command POSITION d)))
  unfolding read_decision named block_number place_of place_from entry_at record_entry objects read_of value_at
  command_read = refl

  pub command_held : Held 2 (block_command POSITION d)
  unfolding objects
  command_held = row_held COMMAND {value = block_command POSITION d} (omega arith) (block_command_within POSITION d)

-- it is a number of two bytes
pub record ReadsTwo (d : Device) (entry : ℕ) : Type 0 where
  pub number : ℕ
  pub decision : read_decision d (index_of entry) (sub_of entry) ≡ Ok (Read 2 number)
  pub small : number < 65536

module _ (d : Device) (e : d.error < 65536) where
  reads_status : ReadsTwo d 0x60410010
  reads_status = let most = status_most d in record { number = number_of 2 (pos (status_of d)); decision = status_read d; small = rw (positive_number 2 (status_of d)) (omega arith) }

  reads_error : ReadsTwo d 0x604E0010
  reads_error = record { number = number_of 2 (pos d.error); decision = error_read d; small = rw (positive_number 2 d.error) e }

  reads_command : ReadsTwo d 0x63100110
  unfolding span
  reads_command = record { number = number_of 2 (block_command POSITION d); decision = command_read d; small = number_below (command_held d) }

  pub reads_two : (entry : ℕ) → entry among SENDABLE ≡ true → ReadsTwo d entry
  reads_two entry h = one_of_three 0x60410010 0x604E0010 0x63100110 entry h (λ q. rw q reads_status) (λ q. rw q reads_error) (λ q. rw q reads_command)
