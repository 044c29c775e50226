-- Rainsheave as such a library: its states are devices, and its answers those that its contracts name. What is told of
-- a device has not to be believed: by `Complete` a library that keeps the promises answers alike whatever it tells.
use Rattle.std.specs.Prelude.{Bool, ◌&&◌, [], ◌%◌, ℤ, pos, length, if◌then◌else◌}
use Rattle.integers.specs.Words.{◌is◌, ◌below◌}
use Rattle.objects.specs.Places.{SETTINGS, SELECTION}
use Rattle.mapping.specs.Maps.{ENTRIES}
use Rattle.image.specs.Walk.{walk, part_of, begin_of, code_of}
use Rattle.device.specs.Device.{fresh_device}
use Rattle.device.specs.Queries.{status_of, device_target, device_command, device_ticks_to_go}
use Rattle.device.specs.declared.Device.{Device}
use Rattle.dictionary.specs.Named.{Named, value, byte, nothing, named}
use Rattle.dictionary.specs.Values.{value_at}
use Rattle.sdo.specs.Frames.{number_handed_back}
use Rattle.rainsheave.specs.Calls.{sdo_answer, sdo_room, control_answer, fault_answer, tick_answer, jump_answer}
use Rattle.rainsheave.specs.Calls.{query_answer}
use Rattle.rainsheave.specs.Calls.{receive_answer, send_answer, send_room, store_answer, store_room, load_answer}
use Rattle.rainsheave.specs.Calls.{number_of_report, value_told, bytes_sent}
use Rattle.rainsheave.specs.declared.Change.{Change}
use Rattle.promises.specs.Library.{Query, Call}
use Rattle.promises.specs.Library.{fresh, sdo, control, fault, tick, jump, query, receive, send, store, load}
use Rattle.promises.specs.Library.{search}
use Rattle.promises.specs.Library.{Told, Answer, Library}
use Rattle.promises.specs.Library as Asked
use Rattle.promises.specs.Image.{found}
use Rattle.promises.specs.Promises.{replied}

-- ---- its answers

-- the value of a query
abbrev pub value_of : Query → Device → ℤ
value_of Asked.state d = pos d.state
value_of Asked.status d = pos (status_of d)
value_of Asked.error d = pos d.error
value_of Asked.position d = d.block.position
value_of Asked.target d = device_target d
value_of Asked.command d = device_command d
value_of Asked.ticks_to_go d = pos (device_ticks_to_go d)

-- a change of the device, which is lent no room
abbrev pub changing : Change → Answer Device
changing c = record { state = c.device; reply = replied (number_of_report c.report) [] (pos 0) }

abbrev pub answer_of : Call → Device → Answer Device
answer_of fresh d = record { state = fresh_device; reply = replied 0 [] (pos 0) }
answer_of (sdo request room) d =
    let a = sdo_answer d request (length room) in
    record { state = a.device; reply = replied (number_handed_back a.outcome) (sdo_room d request room) (pos 0) }
answer_of (control word) d = changing (control_answer d (word % 65536))
answer_of (fault code) d = changing (fault_answer d (code % 65536))
answer_of tick d = changing (tick_answer d)
answer_of (jump n) d = changing (jump_answer d n)
answer_of (query q) d =
    let r = query_answer d (value_of q d) in
    record { state = d; reply = replied (number_of_report r) [] (value_told r) }
answer_of (receive pdo) d = changing (receive_answer d pdo)
answer_of (send room) d =
    let a = send_answer d (length room) in
    record { state = d; reply = replied (number_of_report a) (send_room d room) (pos (bytes_sent a)) }
answer_of (store room) d =
    let number = number_of_report (store_answer d (length room)) in
    record { state = d; reply = replied number (store_room d room) (pos 0) }
answer_of (load bytes) d = changing (load_answer d bytes)
answer_of (search bytes tag) d =
    let w = walk bytes tag in
    record { state = d; reply = found (code_of w) (begin_of w) (part_of bytes w) }

-- ---- what is told of a device

-- the value of a block at a place, where it is held by index and sub-index
abbrev pub held_at : Device → Named → ℤ
held_at d (value which place) = if place below SELECTION then value_at d which place else pos 0
held_at d (byte number) = pos 0
held_at d (nothing abort) = pos 0

-- every array has its length, as of each device that Rust or C has
abbrev pub is_whole : Device → Bool
is_whole d =
    (length d.block.settings is SETTINGS && length d.other.settings is SETTINGS)
    && (length d.maps.receive.entries is ENTRIES && length d.maps.transmit.entries is ENTRIES)

unfoldable pub told_of : Device → Told
told_of d =
    record {
      -- what has not the form of a device is in none of the four states
      state = if is_whole d then d.state else 4;
      control = d.control;
      error = d.error;
      selected = d.selected;
      position = d.block.position;
      other = d.other.position;
      phase = d.dither.phase;
      value = λ index sub. held_at d (named index sub);
    }

abbrev pub rainsheave : Library
rainsheave = record { State = Device; fresh = fresh_device; answer = answer_of; told = told_of }
