-- The loop has added up the bytes of the entries that it passed.
use Rattle.std.proofs.Common.{◌≡◌, take}
use Rattle.mapping.specs.Maps.{length_of}
use Rattle.mapping.proofs.length.Given as goal

abbrev pub invariant-loop-entry : goal.invariant-loop-entry
invariant-loop-entry l = record {
  added : l.length ≡ length_of (take l.entry-index l.entry-items);
}
