-- The target lies within full stroke, so that the product fits.
use Rattle.std.proofs.Common.{◌*ℤ◌, pos, w64, Bool}
use mir.Val.{SFits}
use mir.Facts.{to_z-of_z}
use Rattle.integers.proofs.Machine.{result_told}
use Rattle.integers.proofs.Range.{fits, times, exactly}
use Rattle.objects.specs.Numbers.{PARTS}
use Rattle.block.specs.Target.{target_of, target_position}
use Rattle.block.specs.declared.Block.{Block}
use Rattle.block.proofs.Laws.{target_within}
use Rattle.block.proofs.target_position.Goals as goal

product : (active : Bool) (b : Block) → SFits w64 (target_of active b *ℤ pos PARTS)
product active b = fits (times (target_within active b) (exactly (pos PARTS))) tt tt

pub overflow_mul-result : goal.overflow_mul-result
overflow_mul-result c = rw (result_told c.target.type_inv c.target.ensures) (product c.args.active c.args.block)

pub returns : goal.returns
unfolding target_position
returns c = simp (result_told c.target.type_inv c.target.ensures, to_z-of_z (product c.args.active c.args.block))
