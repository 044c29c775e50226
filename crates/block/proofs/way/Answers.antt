-- A sound block's way is one that the ramp can go.
use Rattle.integers.proofs.Machine.{result_told}
use Rattle.block.proofs.Laws.{way_told}
use Rattle.block.proofs.way.Goals as goal

pub invariant_of-result : goal.invariant_of-result
invariant_of-result c =
    record { sound = way_told c.requires c.args.active c.ramp_of.ensures (result_told c.target_position.type_inv c.target_position.ensures) }
