-- The loop has shown both tests of each place that it passed.
use Rattle.std.proofs.Common.{◌≡◌, true}
use mathlib.Core.Bool.{◌&&◌}
use Rattle.integers.specs.Words.{each}
use Rattle.objects.specs.Table.{row_at, in_row}
use Rattle.block.specs.Block.{at}
use Rattle.block.proofs.are_settings_sound.Given as goal

abbrev pub invariant-loop-place : goal.invariant-loop-place
invariant-loop-place l = each l.place (λ place. in_row (row_at place) (at l.settings place) && in_row (row_at place) (at l.others place)) ≡ true
