-- Document 01, "Device states", "From set point to target", "Ramp" and "Command", with wishes 4 and 6 of document 02: what can be asked of a device,
-- which is of the selected block.
use Rattle.std.specs.Prelude.{ℕ, ◌+◌, ℤ, pos, if◌then◌else◌}
use Rattle.integers.specs.Words.{◌is◌, ◌=?◌}
use Rattle.block.specs.Target.{target_of, target_position}
use Rattle.block.specs.Command.{command_of}
use Rattle.block.specs.Travel.{ticks_to_go_of}
use Rattle.dither.specs.Wave.{dither_of}
use Rattle.device.specs.States.{DISABLED, HOLD, ACTIVE, driven}
use Rattle.device.specs.Device.{is_active}
use Rattle.device.specs.declared.Device.{Device}

-- the status word of each state
abbrev pub STATUS_DISABLED : ℕ
STATUS_DISABLED = 8

abbrev pub STATUS_HOLD : ℕ
STATUS_HOLD = 9

abbrev pub STATUS_ACTIVE : ℕ
STATUS_ACTIVE = 15

abbrev pub STATUS_FAULT : ℕ
STATUS_FAULT = 0

-- what is added in HOLD and ACTIVE while position equals target
abbrev pub TARGET_MET : ℕ
TARGET_MET = 256

unfoldable pub target_met : Device → ℕ
target_met d = if d.block.position =? target_position (is_active d) d.block then TARGET_MET else 0

-- the status word
unfoldable pub status_of : Device → ℕ
status_of d =
    if d.state is DISABLED then STATUS_DISABLED
    else if d.state is HOLD then STATUS_HOLD + target_met d
    else if d.state is ACTIVE then STATUS_ACTIVE + target_met d
    else STATUS_FAULT

-- the target in ir; the input is 6300h in ACTIVE and 6314h in the other states
unfoldable pub device_target : Device → ℤ
device_target d = target_of (is_active d) d.block

-- the command in ir: 0 in DISABLED and FAULT; else with the dither at the phase as it stands
unfoldable pub device_command : Device → ℤ
device_command d = if driven d.state then command_of (dither_of d.dither) d.block else pos 0

-- the command of a block: that of the block not selected is 0
unfoldable pub block_command : ℕ → Device → ℤ
block_command which d = if d.selected is which then device_command d else pos 0

-- the ticks to go: 0 in DISABLED and FAULT
unfoldable pub device_ticks_to_go : Device → ℕ
device_ticks_to_go d = if driven d.state then ticks_to_go_of (is_active d) d.block else 0
