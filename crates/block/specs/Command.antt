-- Document 01, "Command", in HOLD and ACTIVE, with the dither of wish 4 of document 02.
use Rattle.std.specs.Prelude.{ℤ, pos, neg_ℤ, ◌+ℤ◌, ◌-ℤ◌, if◌then◌else◌}
use Rattle.integers.specs.Words.{◌over◌, ◌<?◌, ◌=?◌}
use Rattle.objects.specs.Numbers.{PARTS}
use Rattle.objects.specs.Places.{DEAD_BAND_TYPE, A_SIDE, B_SIDE, THRESHOLD}
use Rattle.block.specs.Block.{setting}
use Rattle.block.specs.Target.{clamp_to_stroke}
use Rattle.block.specs.declared.Block.{Block}

-- a position in whole ir, toward zero
unfoldable pub whole_of : ℤ → ℤ
whole_of position = position over PARTS

-- the dead band: r + A side above the threshold, r - B side below its negative, 0 between, ends included
unfoldable pub banded : ℤ → ℤ → ℤ → ℤ → ℤ
banded a_side b_side threshold r =
    if threshold <? r then r +ℤ a_side
    else if r <? neg_ℤ threshold then r -ℤ b_side
    else pos 0

-- the dead band of a type: type 0 has none
unfoldable pub banded_by : ℤ → ℤ → ℤ → ℤ → ℤ → ℤ
banded_by kind a_side b_side threshold r =
    if kind =? pos 0 then r
    else banded a_side b_side threshold r

-- the position in whole ir behind the dead band
unfoldable pub banded_of : Block → ℤ
banded_of b = banded_by (setting b DEAD_BAND_TYPE) (setting b A_SIDE) (setting b B_SIDE) (setting b THRESHOLD) (whole_of b.position)

-- the command in ir: the dither is added after the dead band and before the last clamp
unfoldable pub command_of : ℤ → Block → ℤ
command_of dither b = clamp_to_stroke (banded_of b +ℤ dither)
