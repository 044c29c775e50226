-- A pressure object's index is from 6380h on, so that nothing is taken from less.
use Rattle.objects.proofs.Rules.{counterpart_fits}
use Rattle.objects.proofs.place_of.Goals as goal

pub overflow_sub-index : goal.overflow_sub-index
overflow_sub-index c = rw c.block_number-which.ensures (counterpart_fits c.args.index)
