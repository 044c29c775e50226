-- The loop is at a place that the walk has reached.
use Rattle.std.proofs.Common.{length, ◌-◌}
use Rattle.image.proofs.Walks.{Reached}
use Rattle.image.proofs.locate.Given as goal

abbrev pub invariant-loop-k : goal.invariant-loop-k
invariant-loop-k l = Reached l.image l.tag l.k

abbrev pub decreases-loop-k : goal.decreases-loop-k
decreases-loop-k l = length l.image - l.k
