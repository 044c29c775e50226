-- Document 01, "Ramp", of a block in HOLD or ACTIVE: its ramp, its ticks and its jumps.
use Rattle.std.specs.Prelude.{Bool, ℕ, zero, suc}
use Rattle.objects.specs.Places.{RAMP_TYPE, ACCELERATION, ACCELERATION_POSITIVE, ACCELERATION_NEGATIVE}
use Rattle.objects.specs.Places.{DECELERATION, DECELERATION_POSITIVE, DECELERATION_NEGATIVE}
use Rattle.ramp.specs.Ramp.{tick_of, position_after, ticks_to_go}
use Rattle.ramp.specs.declared.Ramp.{Ramp}
use Rattle.block.specs.Block.{setting, at_position}
use Rattle.block.specs.Target.{target_position}
use Rattle.block.specs.declared.Block.{Block}

-- the ramp type and the six times
abbrev pub ramp_of : Block → Ramp
ramp_of b =
    record {
      kind = setting b RAMP_TYPE;
      acceleration = record { one = setting b ACCELERATION; positive = setting b ACCELERATION_POSITIVE; negative = setting b ACCELERATION_NEGATIVE };
      deceleration = record { one = setting b DECELERATION; positive = setting b DECELERATION_POSITIVE; negative = setting b DECELERATION_NEGATIVE };
    }

-- a block after one tick
unfoldable pub tick_block : Bool → Block → Block
tick_block active b = at_position (tick_of (ramp_of b) (target_position active b) b.position) b

-- a block after n single ticks
unfoldable pub tick_block_times : Bool → ℕ → Block → Block
tick_block_times active zero b = b
tick_block_times active (suc n) b = tick_block active (tick_block_times active n b)

-- a block after a jump of n ticks
unfoldable pub jump_block : Bool → ℕ → Block → Block
jump_block active n b = at_position (position_after (ramp_of b) (target_position active b) b.position n) b

-- the ticks until a block meets its target
unfoldable pub ticks_to_go_of : Bool → Block → ℕ
ticks_to_go_of active b = ticks_to_go (ramp_of b) (target_position active b) b.position
