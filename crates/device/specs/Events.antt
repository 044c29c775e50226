-- Document 01, "Device states" and "Ramp", with wishes 4 and 6 of document 02: what an accepted control word, a fault, a tick and a jump do.
-- Of the two blocks they know the selected one alone.
use Rattle.std.specs.Prelude.{ℕ, zero, suc, pos, if◌then◌else◌}
use Rattle.integers.specs.Words.{◌is◌}
use Rattle.block.specs.Block.{at_position}
use Rattle.block.specs.Travel.{tick_block, jump_block}
use Rattle.block.specs.declared.Block.{Block}
use Rattle.dither.specs.Dither.{at_phase}
use Rattle.dither.specs.Phase.{tick_dither, jump_dither}
use Rattle.dither.specs.declared.Dither.{Dither}
use Rattle.device.specs.States.{FAULT, next_state, driven}
use Rattle.device.specs.Device.{with_block, with_state, with_control, with_error, with_dither, is_active}
use Rattle.device.specs.declared.Device.{Device}

-- a block in a state: entering DISABLED or FAULT sets the position to 0
unfoldable pub block_in : ℕ → Block → Block
block_in state b = if driven state then b else at_position (pos 0) b

-- a dither in a state: entering DISABLED or FAULT sets the phase to 0
unfoldable pub dither_in : ℕ → Dither → Dither
dither_in state h = if driven state then h else at_phase 0 h

-- an error code in a state: leaving FAULT clears it
unfoldable pub error_in : ℕ → ℕ → ℕ
error_in state error = if state is FAULT then error else 0

-- the device as it enters a state, which may be the one that it is in
unfoldable pub entering : ℕ → Device → Device
entering state d =
    with_state state (with_block (block_in state d.block) (with_dither (dither_in state d.dither) (with_error (error_in state d.error) d)))

-- an accepted control word makes at most one move, and is stored
unfoldable pub controlled : ℕ → Device → Device
controlled word d = with_control word (entering (next_state d.state d.control word) d)

-- the device with the code of a fault report: in FAULT the first code stays
unfoldable pub reported : ℕ → Device → Device
reported code d = if d.state is FAULT then d else with_error code d

-- a fault report with a code other than 0 leads from every state to FAULT
unfoldable pub faulted : ℕ → Device → Device
faulted code d = entering FAULT (reported code d)

-- one tick: in DISABLED and FAULT it changes nothing
unfoldable pub tick_device : Device → Device
tick_device d =
    if driven d.state then with_dither (tick_dither d.dither) (with_block (tick_block (is_active d) d.block) d)
    else d

-- n single ticks
unfoldable pub tick_device_times : ℕ → Device → Device
tick_device_times zero d = d
tick_device_times (suc n) d = tick_device (tick_device_times n d)

-- a jump of n ticks
unfoldable pub jump_device : ℕ → Device → Device
jump_device n d =
    if driven d.state then with_dither (jump_dither n d.dither) (with_block (jump_block (is_active d) n d.block) d)
    else d
