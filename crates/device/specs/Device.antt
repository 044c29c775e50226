-- A device's parts: the selected block and the other one, which of the two is selected, its state, the control word stored last, the error code,
-- the maps and the dither; the device with one of them changed; the fresh device.
use Rattle.std.specs.Prelude.{Bool, ℕ, ◌-◌, if◌then◌else◌}
use Rattle.integers.specs.Words.{◌is◌}
use Rattle.objects.specs.Places.{POSITION, PRESSURE}
use Rattle.block.specs.Block.{fresh_block}
use Rattle.block.specs.declared.Block.{Block}
use Rattle.mapping.specs.Maps.{fresh_maps}
use Rattle.mapping.specs.declared.Maps.{Maps}
use Rattle.dither.specs.Dither.{fresh_dither}
use Rattle.dither.specs.declared.Dither.{Dither}
use Rattle.device.specs.States.{DISABLED, ACTIVE}
use Rattle.device.specs.declared.Device.{Device}

-- the device with another selected block
abbrev pub with_block : Block → Device → Device
with_block b d =
    record { block = b; other = d.other; selected = d.selected; state = d.state; control = d.control; error = d.error; maps = d.maps; dither = d.dither }

-- the device with another one in place of the block that is not selected
abbrev pub with_other : Block → Device → Device
with_other b d =
    record { block = d.block; other = b; selected = d.selected; state = d.state; control = d.control; error = d.error; maps = d.maps; dither = d.dither }

-- the device with another number for the selected block
abbrev pub with_selected : ℕ → Device → Device
with_selected which d =
    record {
      block = d.block;
      other = d.other;
      selected = which;
      state = d.state;
      control = d.control;
      error = d.error;
      maps = d.maps;
      dither = d.dither;
    }

-- the device in another state
abbrev pub with_state : ℕ → Device → Device
with_state state d =
    record {
      block = d.block;
      other = d.other;
      selected = d.selected;
      state = state;
      control = d.control;
      error = d.error;
      maps = d.maps;
      dither = d.dither;
    }

-- the device with another control word stored
abbrev pub with_control : ℕ → Device → Device
with_control word d =
    record {
      block = d.block;
      other = d.other;
      selected = d.selected;
      state = d.state;
      control = word;
      error = d.error;
      maps = d.maps;
      dither = d.dither;
    }

-- the device with another error code
abbrev pub with_error : ℕ → Device → Device
with_error code d =
    record {
      block = d.block;
      other = d.other;
      selected = d.selected;
      state = d.state;
      control = d.control;
      error = code;
      maps = d.maps;
      dither = d.dither;
    }

-- the device with other maps
abbrev pub with_maps : Maps → Device → Device
with_maps maps d =
    record {
      block = d.block;
      other = d.other;
      selected = d.selected;
      state = d.state;
      control = d.control;
      error = d.error;
      maps = maps;
      dither = d.dither;
    }

-- the device with another dither
abbrev pub with_dither : Dither → Device → Device
with_dither dither d =
    record {
      block = d.block;
      other = d.other;
      selected = d.selected;
      state = d.state;
      control = d.control;
      error = d.error;
      maps = d.maps;
      dither = dither;
    }

-- ---- the two blocks

-- the block of a number, POSITION or PRESSURE
unfoldable pub block_of : ℕ → Device → Block
block_of which d = if d.selected is which then d.block else d.other

-- the device with another block of a number
unfoldable pub with_block_of : ℕ → Block → Device → Device
with_block_of which b d = if d.selected is which then with_block b d else with_other b d

-- the device with the block of a number selected: where it is the other one, the two change places
unfoldable pub selecting : ℕ → Device → Device
selecting which d = if d.selected is which then d else with_selected which (with_block d.other (with_other d.block d))

-- the number of the other block
abbrev pub other_of : ℕ → ℕ
other_of which = PRESSURE - which

-- the device with its blocks the other way round: the one that drives the command is the position block where it was the pressure block
abbrev pub mirrored : Device → Device
mirrored d = with_selected (other_of d.selected) d

-- in ACTIVE the input is the set point
abbrev pub is_active : Device → Bool
is_active d = d.state is ACTIVE

-- fresh is DISABLED, with every object as the table has it, the position block selected, fresh maps and a fresh dither
unfoldable pub fresh_device : Device
fresh_device =
    record { block = fresh_block; other = fresh_block; selected = POSITION; state = DISABLED; control = 0; error = 0; maps = fresh_maps; dither = fresh_dither }
