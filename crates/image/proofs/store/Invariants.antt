-- The loop has put the fields of the places that it passed, left the later bytes, and stands where the next field starts.
use Rattle.std.proofs.Common.{◌≡◌, length, drop, ◌++◌}
use Rattle.image.specs.Fields.{start, fields}
use Rattle.image.proofs.store.Given as goal

abbrev pub invariant-loop-place : goal.invariant-loop-place
invariant-loop-place l = record {
  stands : l.from ≡ start l.place;
  long : length l.room ≡ length l.fn.room;
  put : l.room ≡ fields l.place l.fn.settings ++ drop (start l.place) l.fn.room;
}
