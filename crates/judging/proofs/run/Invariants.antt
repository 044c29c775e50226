-- The records that the loop has passed are judged.
use Rattle.std.proofs.Common.{◌≡◌}
use Rattle.judging.specs.Judging.{judged}
use Rattle.judging.proofs.run.Given as goal

abbrev pub invariant-loop-case : goal.invariant-loop-case
invariant-loop-case l = l.after ≡ judged l.case-index l.bytes l.fn.tally
