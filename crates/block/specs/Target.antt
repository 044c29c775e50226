-- Document 01, "From set point to target": the target is worked out from the settings each time.
use Rattle.std.specs.Prelude.{Bool, ℤ, pos, ◌+ℤ◌, ◌*ℤ◌, if◌then◌else◌}
use Rattle.integers.specs.Words.{minus, ◌over◌, ◌<?◌}
use Rattle.objects.specs.Numbers.{FULL_STROKE, PARTS}
use Rattle.objects.specs.Places.{HOLD_SET_POINT, UPPER_LIMIT, LOWER_LIMIT, SCALING_FACTOR, SCALING_OFFSET, ZERO_CORRECTION}
use Rattle.block.specs.declared.Block.{Block}
use Rattle.block.specs.Block.{setting}

-- the input is 6300h in ACTIVE, and 6314h in the other states
unfoldable pub input_of : Bool → Block → ℤ
input_of active b = if active then b.setpoint else setting b HOLD_SET_POINT

-- x, or the limit that it lies beyond
unfoldable pub clamp_to : ℤ → ℤ → ℤ → ℤ
clamp_to lower upper x =
    if x <? lower then lower
    else if upper <? x then upper
    else x

-- x clamped to full stroke either way, in ir
unfoldable pub clamp_to_stroke : ℤ → ℤ
clamp_to_stroke x = clamp_to (minus FULL_STROKE) (pos FULL_STROKE) x

-- x times the factor, of which 65,536 is one, toward zero
unfoldable pub scaled_by : ℤ → ℤ → ℤ
scaled_by factor x = (x *ℤ factor) over PARTS

-- the input clamped to the limits and scaled, with 6323h and 6324h added once each, clamped to full stroke
unfoldable pub target_from : ℤ → ℤ → ℤ → ℤ → ℤ → ℤ → ℤ
target_from lower upper factor offset zero input =
    clamp_to_stroke (scaled_by factor (clamp_to lower upper input) +ℤ offset +ℤ zero)

-- the target in ir
unfoldable pub target_of : Bool → Block → ℤ
target_of active b =
    target_from (setting b LOWER_LIMIT) (setting b UPPER_LIMIT) (setting b SCALING_FACTOR)
    (setting b SCALING_OFFSET) (setting b ZERO_CORRECTION) (input_of active b)

-- the target position, in 1/65,536 ir
unfoldable pub target_position : Bool → Block → ℤ
target_position active b = target_of active b *ℤ pos PARTS
