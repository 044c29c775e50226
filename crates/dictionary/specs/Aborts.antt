-- Document 01, "SDO": the codes of the aborts, in order; the fifth as wish 1 of document 02 has it, and those after the eighth as wish 2.
use Rattle.std.specs.Prelude.{ℕ}
use Rattle.mapping.specs.declared.Misfit.{Misfit}
use Rattle.mapping.specs.declared.Misfit.TheVariants.{WhileCounted, AboveFour, NotMappable as MisfitNotMappable}
use Rattle.dictionary.specs.declared.Abort.{Abort}
use Rattle.dictionary.specs.declared.Abort.TheVariants.{UnknownCommand, NoObject, NoSubIndex, ReadOnlyEntry, TooManyBytes, TooFewBytes}
use Rattle.dictionary.specs.declared.Abort.TheVariants.{TooHigh, TooLow, NoSuchChoice, LimitsCrossed, LockedNow, MapTooLong, NotMappable, Other}

-- 1: another command byte
abbrev pub UNKNOWN_COMMAND : ℕ
UNKNOWN_COMMAND = 0x05040001

-- 2: no such object
abbrev pub NO_OBJECT : ℕ
NO_OBJECT = 0x06020000

-- 3: no such sub-index
abbrev pub NO_SUB_INDEX : ℕ
NO_SUB_INDEX = 0x06090011

-- 4: write to a read-only entry
abbrev pub READ_ONLY_ENTRY : ℕ
READ_ONLY_ENTRY = 0x06010002

-- 5: size differs from the type: too many bytes, too few
abbrev pub TOO_MANY_BYTES : ℕ
TOO_MANY_BYTES = 0x06070012

abbrev pub TOO_FEW_BYTES : ℕ
TOO_FEW_BYTES = 0x06070013

-- 6: too high, too low; of a choice both ways
abbrev pub TOO_HIGH : ℕ
TOO_HIGH = 0x06090031

abbrev pub TOO_LOW : ℕ
TOO_LOW = 0x06090032

abbrev pub NO_SUCH_CHOICE : ℕ
NO_SUCH_CHOICE = 0x06090030

-- 7: upper limit below lower after this write
abbrev pub LIMITS_CROSSED : ℕ
LIMITS_CROSSED = 0x06090036

-- 8: locked in this state; 9: an entry of a map while its sub 0 isn't 0
abbrev pub LOCKED_NOW : ℕ
LOCKED_NOW = 0x08000022

-- 10: more entries than a map has
abbrev pub MAP_TOO_LONG : ℕ
MAP_TOO_LONG = 0x06040042

-- 11: an entry that may not be mapped
abbrev pub NOT_MAPPABLE : ℕ
NOT_MAPPABLE = 0x06040041

-- the code of each; `Other` has a code of the caller's own, which no decision of the library has
abbrev pub code_of_abort : Abort → ℕ
code_of_abort UnknownCommand = UNKNOWN_COMMAND
code_of_abort NoObject = NO_OBJECT
code_of_abort NoSubIndex = NO_SUB_INDEX
code_of_abort ReadOnlyEntry = READ_ONLY_ENTRY
code_of_abort TooManyBytes = TOO_MANY_BYTES
code_of_abort TooFewBytes = TOO_FEW_BYTES
code_of_abort TooHigh = TOO_HIGH
code_of_abort TooLow = TOO_LOW
code_of_abort NoSuchChoice = NO_SUCH_CHOICE
code_of_abort LimitsCrossed = LIMITS_CROSSED
code_of_abort LockedNow = LOCKED_NOW
code_of_abort MapTooLong = MAP_TOO_LONG
code_of_abort NotMappable = NOT_MAPPABLE
code_of_abort (Other code) = code

-- the abort of each write that a map does not take
abbrev pub abort_of : Misfit → Abort
abort_of WhileCounted = LockedNow
abort_of AboveFour = MapTooLong
abort_of MisfitNotMappable = NotMappable
