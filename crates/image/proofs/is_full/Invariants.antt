-- The loop has shown the header of each place that it passed, and stands where the next field starts.
use Rattle.std.proofs.Common.{◌≡◌, true}
use Rattle.integers.specs.Words.{each}
use Rattle.image.specs.Fields.{start}
use Rattle.image.specs.Load.{head_at}
use Rattle.image.proofs.is_full.Given as goal

abbrev pub invariant-loop-place : goal.invariant-loop-place
invariant-loop-place l = record {
  stands : l.from ≡ start l.place;
  shown : each l.place (head_at l.image) ≡ true;
}
