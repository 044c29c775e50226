-- What the functions that store into words leave there: the laws show each to be the words of the changed device.
use Rattle.std.specs.Prelude.{List, ℕ, ◌+◌, ◌-◌, ℤ, pos, nat_abs, set, Result, Ok, Err, if◌then◌else◌}
use Rattle.std.proofs.lemmas.List.Edits.{sets}
use Rattle.integers.specs.Words.{◌is◌, ◌below◌, ◌=?◌}
use Rattle.objects.specs.Places.{SETTINGS, HOLD_SET_POINT, DITHER_TYPE, SET_POINT, SELECTION, POSITION}
use Rattle.objects.specs.Places as Places
use Rattle.block.specs.Block.{setting, with_setting, with_setpoint}
use Rattle.block.specs.declared.Block.{Block}
use Rattle.device.specs.Device.{block_of, with_block_of}
use Rattle.device.specs.Events.{controlled}
use Rattle.device.specs.declared.Device.{Device}
use Rattle.dictionary.specs.declared.Decision.{Decision}
use Rattle.dictionary.specs.declared.Decision.TheVariants.{Read, Write}
use Rattle.dictionary.specs.declared.Abort.{Abort}
use Rattle.words.specs.Words.{SELECTED_BLOCK, OTHER_BLOCK, SELECTED, STATE, CONTROL_WORD, ERROR_CODE, PHASE, DITHER, word, block_in, device_in}

-- position, state, control word, error code and phase of a device
unfoldable pub moved_in : Device → List ℤ → List ℤ
moved_in d words =
    let position = set words (SELECTED_BLOCK + 1) d.block.position in
    let state = set position STATE (pos d.state) in
    let control = set state CONTROL_WORD (pos d.control) in
    let error = set control ERROR_CODE (pos d.error) in
    set error PHASE (pos d.dither.phase)

-- where the block of a number begins
unfoldable pub start_of : ℕ → List ℤ → ℕ
start_of which words = if word words SELECTED =? pos which then SELECTED_BLOCK else OTHER_BLOCK

-- a block from a place on
unfoldable pub block_put : ℕ → Block → List ℤ → List ℤ
block_put from b words = sets (set (set words from b.setpoint) (from + 1) b.position) (from + 2) b.settings

-- the set points of a device's position block
unfoldable pub set_points_in : Device → List ℤ → List ℤ
set_points_in d words =
    let b = block_of POSITION d in
    let start = start_of POSITION words in
    set (set words start b.setpoint) (start + 2) (setting b HOLD_SET_POINT)

-- the position block of a device
unfoldable pub position_block_in : Device → List ℤ → List ℤ
position_block_in d words = block_put (start_of POSITION words) (block_of POSITION d) words

-- the block of a number selected: where it is the other one, the two change places
unfoldable pub selected_in : ℕ → List ℤ → List ℤ
selected_in which words =
    if word words SELECTED =? pos which then words
    else set (block_put OTHER_BLOCK (block_in words SELECTED_BLOCK) (block_put SELECTED_BLOCK (block_in words OTHER_BLOCK) words)) SELECTED (pos which)

-- the word of a value that has one of its own: a setting or the set point in the block that begins there; the dither and the maps stand
-- in the order of the object table
unfoldable pub word_of : ℕ → ℕ → ℕ
word_of start place =
    if place below SETTINGS then start + 2 + place
    else if place below SET_POINT then DITHER + (place - DITHER_TYPE)
    else start

-- a control word
unfoldable pub controlled_in : ℕ → List ℤ → List ℤ
controlled_in w words = moved_in (controlled w (device_in words)) words

-- an accepted write of a value to a place of a block
unfoldable pub written_in : ℕ → ℕ → ℤ → List ℤ → List ℤ
written_in which place value words =
    if place is SELECTION then selected_in (nat_abs value) words
    else if place is Places.CONTROL_WORD then controlled_in (nat_abs value) words
    else set words (word_of (start_of which words) place) value

-- what was decided: an abort changes nothing, and reading never does
abbrev pub carried_out_in : Result Decision Abort → List ℤ → List ℤ
carried_out_in (Ok (Read size number)) words = words
carried_out_in (Ok (Write which place x)) words = written_in which place x words
carried_out_in (Err abort) words = words

-- the device with the set points of another
unfoldable pub with_set_points : Device → Device → Device
with_set_points e d =
    let b = block_of POSITION e in
    let pointed = with_block_of POSITION (with_setpoint b.setpoint (block_of POSITION d)) d in
    with_block_of POSITION (with_setting HOLD_SET_POINT (setting b HOLD_SET_POINT) (block_of POSITION pointed)) pointed
