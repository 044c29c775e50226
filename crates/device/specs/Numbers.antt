-- Document 01, "Numbers handed back", with wish 2 of document 02: 0 is done, an abort reply included; each other number refuses.
use Rattle.std.specs.Prelude.{ℕ}
use Rattle.device.specs.declared.refusal.Refusal.{Refusal}
use Rattle.device.specs.declared.refusal.Refusal.TheVariants.{Unsound, WrongLength, NoRoom, NoReplyDue, NoFault, NoImageRoom, NotFull, BadValue, NotDisabled, ShortPdo, Other}

-- the state isn't sound
abbrev pub UNSOUND : ℕ
UNSOUND = 1

-- request isn't eight bytes
abbrev pub WRONG_LENGTH : ℕ
WRONG_LENGTH = 2

-- reply room under eight; room to send that is shorter than the map
abbrev pub NO_ROOM : ℕ
NO_ROOM = 3

-- no reply is due: top three bits of the command byte are 100 (client abort)
abbrev pub NO_REPLY_DUE : ℕ
NO_REPLY_DUE = 4

-- fault code 0
abbrev pub NO_FAULT : ℕ
NO_FAULT = 5

-- image room under 97
abbrev pub NO_IMAGE_ROOM : ℕ
NO_IMAGE_ROOM = 6

-- load: not a full image
abbrev pub NOT_FULL : ℕ
NOT_FULL = 7

-- image value out of range, or limits crossed
abbrev pub BAD_VALUE : ℕ
BAD_VALUE = 8

-- load outside DISABLED
abbrev pub NOT_DISABLED : ℕ
NOT_DISABLED = 9

-- a received PDO shorter than its map
abbrev pub SHORT_PDO : ℕ
SHORT_PDO = 14

-- the number handed back for a refusal; `Other` has a number of the caller's own, by which no call refuses
abbrev pub number_of_refusal : Refusal → ℕ
number_of_refusal Unsound = UNSOUND
number_of_refusal WrongLength = WRONG_LENGTH
number_of_refusal NoRoom = NO_ROOM
number_of_refusal NoReplyDue = NO_REPLY_DUE
number_of_refusal NoFault = NO_FAULT
number_of_refusal NoImageRoom = NO_IMAGE_ROOM
number_of_refusal NotFull = NOT_FULL
number_of_refusal BadValue = BAD_VALUE
number_of_refusal NotDisabled = NOT_DISABLED
number_of_refusal ShortPdo = SHORT_PDO
number_of_refusal (Other number) = number
