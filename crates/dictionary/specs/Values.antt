-- Document 01, "Objects", with wishes 2, 4 and 6 of document 02: what the value of a block at a place is, and what an accepted write of it does.
-- What is of no block has its value for either.
use Rattle.std.specs.Prelude.{ℕ, ◌-◌, ℤ, pos, nat_abs, if◌then◌else◌}
use Rattle.integers.specs.Words.{◌is◌, ◌below◌}
use Rattle.objects.specs.Places.{SETTINGS, DITHER_TYPE, RECEIVE_MAP, TRANSMIT_MAP, SET_POINT, SELECTION}
use Rattle.objects.specs.Places.{CONTROL_WORD, STATUS_WORD, ERROR_CODE, COMMAND}
use Rattle.block.specs.Block.{setting, with_setting, with_setpoint}
use Rattle.mapping.specs.Maps.{stands_at, with_at, with_receive, with_transmit}
use Rattle.dither.specs.Dither as Dithers
use Rattle.device.specs.Device.{with_maps, with_dither, block_of, with_block_of, selecting}
use Rattle.device.specs.Events.{controlled}
use Rattle.device.specs.Queries.{status_of, block_command}
use Rattle.device.specs.declared.Device.{Device}

-- the value at a place of the table; 0 past its end
unfoldable pub value_at : Device → ℕ → ℕ → ℤ
value_at d which place =
    if place below SETTINGS then setting (block_of which d) place
    else if place below RECEIVE_MAP then Dithers.stands_at d.dither (place - DITHER_TYPE)
    else if place below TRANSMIT_MAP then pos (stands_at d.maps.receive (place - RECEIVE_MAP))
    else if place below SET_POINT then pos (stands_at d.maps.transmit (place - TRANSMIT_MAP))
    else if place is SET_POINT then (block_of which d).setpoint
    else if place is SELECTION then pos d.selected
    else if place is CONTROL_WORD then pos d.control
    else if place is STATUS_WORD then pos (status_of d)
    else if place is ERROR_CODE then pos d.error
    else if place is COMMAND then block_command which d
    else pos 0

-- the device with another number at a sub-index of a map
abbrev pub receive_written : ℕ → ℕ → Device → Device
receive_written sub number d = with_maps (with_receive (with_at sub number d.maps.receive) d.maps) d

abbrev pub transmit_written : ℕ → ℕ → Device → Device
transmit_written sub number d = with_maps (with_transmit (with_at sub number d.maps.transmit) d.maps) d

-- the device after an accepted write of a value: a control word may move the state; what cannot be written stays
unfoldable pub written_to : ℕ → ℕ → ℤ → Device → Device
written_to which place value d =
    if place below SETTINGS then with_block_of which (with_setting place value (block_of which d)) d
    else if place below RECEIVE_MAP then with_dither (Dithers.with_at (place - DITHER_TYPE) value d.dither) d
    else if place below TRANSMIT_MAP then receive_written (place - RECEIVE_MAP) (nat_abs value) d
    else if place below SET_POINT then transmit_written (place - TRANSMIT_MAP) (nat_abs value) d
    else if place is SET_POINT then with_block_of which (with_setpoint value (block_of which d)) d
    else if place is SELECTION then selecting (nat_abs value) d
    else if place is CONTROL_WORD then controlled (nat_abs value) d
    else d
