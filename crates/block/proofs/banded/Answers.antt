-- The difference and the negative of the threshold fit, and the code and the definition make the same two tests.
use Rattle.std.proofs.Common.{◌-ℤ◌, w64}
use lib.IntN.{neg_ℤ, +ℤ_idl}
use mir.Val.{SFits}
use mir.Facts.{to_z-of_z}
use Rattle.integers.proofs.Range.{fits, less, negated}
use Rattle.objects.specs.Table.{objects}
use Rattle.block.specs.Command.{banded}
use Rattle.block.proofs.banded.Goals as goal

pub returns-then-r-threshold : goal.returns-then-r-threshold
unfolding banded objects
returns-then-r-threshold c =
    let r = c.ranges in
    let d : SFits w64 (c.args.r -ℤ c.args.b_side) = fits (less c.requires.whole c.requires.b_side) tt tt in
    let n : SFits w64 (neg_ℤ c.args.threshold) = fits (negated c.requires.threshold) tt tt in
    let above = simp (to_z-of_z r.threshold, to_z-of_z r.r) at c.if-threshold-r.false in
    let below = simp (to_z-of_z r.threshold, +ℤ_idl, to_z-of_z n, to_z-of_z r.r) at c.if-r-threshold.true in
    simp (to_z-of_z r.r, to_z-of_z r.b_side, to_z-of_z d, above, below)
