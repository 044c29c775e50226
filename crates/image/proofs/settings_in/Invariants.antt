-- The loop has read the value of each place that it passed, and stands where the next field starts.
use Rattle.std.proofs.Common.{◌≡◌}
use Rattle.image.specs.Fields.{start}
use Rattle.image.proofs.Loaded.{Loaded}
use Rattle.image.proofs.settings_in.Given as goal

abbrev pub invariant-loop-place : goal.invariant-loop-place
invariant-loop-place l = record {
  stands : l.from ≡ start l.place;
  loaded : Loaded l.image l.place l.setting-items;
}
