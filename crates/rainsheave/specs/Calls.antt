-- Document 01, "Numbers handed back", with wishes 2 and 6 of document 02: what each call answers.
-- Whatever number but 0 is handed back, the state is the given one.
use Rattle.std.specs.Prelude.{Bool, not, List, ℕ, ◌/◌, ℤ, pos, length, if◌then◌else◌, Result, Ok, Err}
use Rattle.integers.specs.Words.{◌is◌, ◌below◌}
use Rattle.objects.specs.Places.{POSITION}
use Rattle.coding.specs.Bytes.{byte_at}
use Rattle.block.specs.Block.{with_settings}
use Rattle.block.specs.Sound.{sound_settings}
use Rattle.mapping.specs.Maps.{counted, map_length}
use Rattle.image.specs.Fields.{IMAGE_LENGTH, stored_in}
use Rattle.image.specs.Load.{is_full, settings_in}
use Rattle.device.specs.States.{DISABLED}
use Rattle.device.specs.Device.{block_of, with_block_of}
use Rattle.device.specs.Events.{controlled, faulted, tick_device, jump_device}
use Rattle.device.specs.Sound.{sound_device}
use Rattle.device.specs.Numbers.{number_of_refusal}
use Rattle.device.specs.declared.refusal.Refusal.{Refusal}
use Rattle.device.specs.declared.refusal.Refusal.TheVariants.{Unsound, WrongLength, NoRoom, NoReplyDue, NoFault, NoImageRoom, NotFull, BadValue, NotDisabled, ShortPdo}
use Rattle.device.specs.declared.Device.{Device}
use Rattle.dictionary.specs.declared.Decision.{Decision}
use Rattle.dictionary.specs.declared.Abort.{Abort}
use Rattle.sdo.specs.Frames.{FRAME, request_of, replied_in}
use Rattle.sdo.specs.Serve.{answer, decision_on, served}
use Rattle.sdo.specs.declared.Answer.{Answer}
use Rattle.sdo.specs.declared.Outcome.{Outcome}
use Rattle.sdo.specs.declared.Outcome.TheVariants.{Read, Written, Abort as Aborted, Refused}
use Rattle.pdo.specs.Receive.{received}
use Rattle.pdo.specs.Send.{sent_in}
use Rattle.rainsheave.specs.declared.Change.{Change}

-- what becomes of a call that has nothing else to tell
abbrev pub Report : Type 0
Report = Result (Unit {0}) Refusal

-- what becomes of an SDO request: it is decided, or refused
abbrev pub Settled : Type 0
Settled = Result (Result Decision Abort) Refusal

-- the paper's number of a report: 0 where it is done
abbrev pub number_of_report : {A : Type 0} → Result A Refusal → ℕ
number_of_report (Ok told) = 0
number_of_report (Err refusal) = number_of_refusal refusal

-- a report beside the device
abbrev pub change : Report → Device → Change
change report d = record { device = d; report = report }

-- what changes a sound device, and is refused by 1 of another
abbrev pub changed : Device → Change → Change
changed d done = if sound_device d then done else change (Err Unsound) d

-- one tick: 1
unfoldable pub tick_answer : Device → Change
tick_answer d = changed d (change (Ok tt) (tick_device d))

-- a jump of n ticks: 1
unfoldable pub jump_answer : Device → ℕ → Change
jump_answer d n = changed d (change (Ok tt) (jump_device n d))

-- a query: its value, and of an unsound state 1
unfoldable pub query_answer : Device → ℤ → Result ℤ Refusal
query_answer d value = if sound_device d then Ok value else Err Unsound

-- the value that is handed back beside the number: 0 beside a refusal's
abbrev pub value_told : Result ℤ Refusal → ℤ
value_told (Ok value) = value
value_told (Err refusal) = pos 0

-- the top three bits of a command byte are 100
abbrev pub is_client_abort : ℕ → Bool
is_client_abort command = command / 32 is 4

-- an SDO request with so much room for the reply: 1, 2, 3, 4
unfoldable pub sdo_answer : Device → List ℕ → ℕ → Answer
sdo_answer d request room =
    if not (sound_device d) then answer (Refused Unsound) d
    else if not (length request is FRAME) then answer (Refused WrongLength) d
    else if room below FRAME then answer (Refused NoRoom) d
    else if is_client_abort (byte_at request 0) then answer (Refused NoReplyDue) d
    else served d (request_of request)

-- what becomes of it before anything is carried out: the answer's refusal, or else what was decided
abbrev pub settled_by : Outcome → Result Decision Abort → Settled
settled_by (Refused refusal) decision = Err refusal
settled_by (Read size number) decision = Ok decision
settled_by Written decision = Ok decision
settled_by (Aborted abort) decision = Ok decision

unfoldable pub sdo_settled : Device → List ℕ → ℕ → Settled
sdo_settled d request room = settled_by (sdo_answer d request room).outcome (decision_on d (request_of request))

-- the room after it: the reply in the first eight bytes, and later bytes as they were; a refusal writes nothing
unfoldable pub sdo_room : Device → List ℕ → List ℕ → List ℕ
sdo_room d request room = replied_in (sdo_answer d request (length room)).outcome (request_of request) room

-- a control word, as an accepted SDO write of 6040h: 1
unfoldable pub control_answer : Device → ℕ → Change
control_answer d word = changed d (change (Ok tt) (controlled word d))

-- a fault report: 1, 5
unfoldable pub fault_answer : Device → ℕ → Change
fault_answer d code =
    changed d
    (if code is 0 then change (Err NoFault) d
    else change (Ok tt) (faulted code d))

-- a received PDO: 1, 14; else its map's entries act
unfoldable pub receive_answer : Device → List ℕ → Change
receive_answer d pdo =
    changed d
    (if length pdo below map_length d.maps.receive then change (Err ShortPdo) d
    else change (Ok tt) (received (counted d.maps.receive) pdo d))

-- a PDO to be sent, with so much room: 1, 3; else how many bytes are written
unfoldable pub send_answer : Device → ℕ → Result ℕ Refusal
send_answer d room =
    if not (sound_device d) then Err Unsound
    else if room below map_length d.maps.transmit then Err NoRoom
    else Ok (map_length d.maps.transmit)

-- how many bytes were written: none beside a refusal
abbrev pub bytes_sent : Result ℕ Refusal → ℕ
bytes_sent (Ok bytes) = bytes
bytes_sent (Err refusal) = 0

-- the room after it; a refusal writes nothing
abbrev pub send_room_by : Result ℕ Refusal → Device → List ℕ → List ℕ
send_room_by (Ok bytes) d room = sent_in d (counted d.maps.transmit) room
send_room_by (Err refusal) d room = room

unfoldable pub send_room : Device → List ℕ → List ℕ
send_room d room = send_room_by (send_answer d (length room)) d room

-- a store with so much room: 1, 6
unfoldable pub store_answer : Device → ℕ → Report
store_answer d room =
    if not (sound_device d) then Err Unsound
    else if room below IMAGE_LENGTH then Err NoImageRoom
    else Ok tt

-- the settings that are stored, and that a load replaces: those of the position block, whichever is selected
abbrev pub stored_settings : Device → List ℤ
stored_settings d = (block_of POSITION d).settings

-- the room after it; a refusal writes nothing
abbrev pub room_by : Report → Device → List ℕ → List ℕ
room_by (Ok done) d room = stored_in (stored_settings d) room
room_by (Err refusal) d room = room

unfoldable pub store_room : Device → List ℕ → List ℕ
store_room d room = room_by (store_answer d (length room)) d room

-- the device with other settings of the position block, and all else as it was
abbrev pub loaded : List ℤ → Device → Device
loaded settings d = with_block_of POSITION (with_settings settings (block_of POSITION d)) d

-- a load: 1, 9, 7, 8
unfoldable pub load_answer : Device → List ℕ → Change
load_answer d image =
    changed d
    (if not (d.state is DISABLED) then change (Err NotDisabled) d
    else if not (is_full image) then change (Err NotFull) d
    else if not (sound_settings (settings_in image)) then change (Err BadValue) d
    else change (Ok tt) (loaded (settings_in image) d))
