-- Document 01, "SDO", with wishes 1, 2 and 6 of document 02: what becomes of a read or a write, with the aborts from the second on in their order,
-- and the device after it.
use Rattle.std.specs.Prelude.{Bool, false, not, ℕ, ◌-◌, ℤ, nat_abs, Result, Ok, Err, if◌then◌else◌}
use Rattle.integers.specs.Words.{◌is◌, ◌below◌, ◌<?◌}
use Rattle.objects.specs.Places.{UPPER_LIMIT, LOWER_LIMIT, RECEIVE_MAP, TRANSMIT_MAP, SET_POINT}
use Rattle.objects.specs.Table.{row_at}
use Rattle.objects.specs.declared.Row.{Row}
use Rattle.objects.specs.declared.Lock.{Lock}
use Rattle.objects.specs.declared.Lock.TheVariants.{Free, WhileActive, OutsideDisabled}
use Rattle.coding.specs.Coding.{value_of, number_of}
use Rattle.block.specs.Block.{setting}
use Rattle.block.specs.declared.Block.{Block}
use Rattle.mapping.specs.Maps.{RECEIVABLE, SENDABLE}
use Rattle.mapping.specs.Rules.{ruling_on}
use Rattle.mapping.specs.declared.Maps.{Maps}
use Rattle.mapping.specs.declared.Misfit.{Misfit}
use Rattle.device.specs.States.{DISABLED, ACTIVE}
use Rattle.device.specs.Device.{block_of}
use Rattle.device.specs.declared.Device.{Device}
use Rattle.dictionary.specs.Aborts.{abort_of}
use Rattle.dictionary.specs.Named.{Named, value, byte, nothing, named}
use Rattle.dictionary.specs.Values.{value_at, written_to}
use Rattle.dictionary.specs.declared.Decision.{Decision}
use Rattle.dictionary.specs.declared.Decision.TheVariants.{Read, Write}
use Rattle.dictionary.specs.declared.Abort.{Abort}
use Rattle.dictionary.specs.declared.Abort.TheVariants.{ReadOnlyEntry, TooManyBytes, TooFewBytes, TooHigh, TooLow, NoSuchChoice}
use Rattle.dictionary.specs.declared.Abort.TheVariants.{LimitsCrossed, LockedNow}

-- ---- a read

-- what becomes of a read: the bytes of the object's value
unfoldable pub read_of : Device → Named → Result Decision Abort
read_of d (value which place) = Ok (Read (row_at place).size (number_of (row_at place).size (value_at d which place)))
read_of d (byte number) = Ok (Read 1 number)
read_of d (nothing abort) = Err abort

unfoldable pub read_decision : Device → ℕ → ℕ → Result Decision Abort
read_decision d index sub = read_of d (named index sub)

-- ---- a write

-- place 5, where the sizes differ: more bytes were sent than the type has, or fewer
abbrev pub size_abort : ℕ → ℕ → Abort
size_abort has sent = if has below sent then TooManyBytes else TooFewBytes

-- place 6: a choice has one abort for both ways
abbrev pub range_abort : Bool → Abort → Abort
range_abort choice abort = if choice then NoSuchChoice else abort

-- what becomes of a value out of its row's range
abbrev pub range_rule : Row → ℤ → Result (Unit {0}) Abort
range_rule row x =
    if row.high <? x then Err (range_abort row.choice TooHigh)
    else if x <? row.low then Err (range_abort row.choice TooLow)
    else Ok tt

-- place 7: the upper limit of a block would be below its lower after this write
unfoldable pub crosses : Block → ℕ → ℤ → Bool
crosses b place x =
    if place is UPPER_LIMIT then x <? setting b LOWER_LIMIT
    else if place is LOWER_LIMIT then setting b UPPER_LIMIT <? x
    else false

-- place 8: an object with this lock may not be written in this state
unfoldable pub is_locked : Lock → ℕ → Bool
is_locked Free state = false
is_locked WhileActive state = state is ACTIVE
is_locked OutsideDisabled state = not (state is DISABLED)

-- places 9 to 11: what the rules of a map say; elsewhere they allow all
unfoldable pub map_ruling : Maps → ℕ → ℤ → Result (Unit {0}) Misfit
map_ruling maps place x =
    if place below RECEIVE_MAP then Ok tt
    else if place below TRANSMIT_MAP then ruling_on RECEIVABLE maps.receive (place - RECEIVE_MAP) (nat_abs x)
    else if place below SET_POINT then ruling_on SENDABLE maps.transmit (place - TRANSMIT_MAP) (nat_abs x)
    else Ok tt

-- a write that a map takes is decided, and else its abort
abbrev pub ruled : Result (Unit {0}) Misfit → ℕ → ℕ → ℤ → Result Decision Abort
ruled (Ok taken) which place x = Ok (Write which place x)
ruled (Err misfit) which place x = Err (abort_of misfit)

-- places 4 to 11: a write of so many bytes that stand for a value, to a place of a block
unfoldable pub verdict_on : Device → ℕ → ℕ → ℕ → ℤ → Result Decision Abort
verdict_on d which place size x =
    let row = row_at place in
    if not row.writable then Err ReadOnlyEntry
    else if not (row.size is size) then Err (size_abort row.size size)
    else if row.high <? x then Err (range_abort row.choice TooHigh)
    else if x <? row.low then Err (range_abort row.choice TooLow)
    else if crosses (block_of which d) place x then Err LimitsCrossed
    else if is_locked row.lock d.state then Err LockedNow
    else ruled (map_ruling d.maps place x) which place x

-- what becomes of a write of so many bytes of a number; the object's type says what they stand for
unfoldable pub write_of : Device → ℕ → ℕ → Named → Result Decision Abort
write_of d size number (value which place) = verdict_on d which place size (value_of (row_at place).size (row_at place).signed number)
write_of d size number (byte fixed) = Err ReadOnlyEntry
write_of d size number (nothing abort) = Err abort

unfoldable pub write_decision : Device → ℕ → ℕ → ℕ → ℕ → Result Decision Abort
write_decision d index sub size number = write_of d size number (named index sub)

-- ---- carrying it out

-- the device after a decision: an abort changes no state, and reading never does
abbrev pub carried_out : Result Decision Abort → Device → Device
carried_out (Ok (Read size number)) d = d
carried_out (Ok (Write which place x)) d = written_to which place x d
carried_out (Err abort) d = d
