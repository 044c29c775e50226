-- The fresh settings are those of the table, row by row.
use mathlib.Core.Path.{◌≡◌}
use mathlib.Core.List.{List}
use Prim.Native.Nat.{ℕ, ◌<◌}
use lib.IntN.{ℤ, pos}
use lib.ListN.{length, get_or}
use Rattle.std.proofs.lemmas.List.FromFn.{fill_by_all}
use Rattle.objects.specs.Places.{SETTINGS}
use Rattle.objects.specs.Table.{objects, row_at}
use Rattle.block.specs.Block.{fresh_block}

pub fresh_settings : {settings : List ℤ} → length settings ≡ SETTINGS → ((place : ℕ) → place < SETTINGS → get_or settings place (pos 0) ≡ (row_at place).fresh) → settings ≡ fresh_block.settings
unfolding fresh_block objects
fresh_settings {settings} long each = fill_by_all (λ place. (row_at place).fresh) settings SETTINGS (pos 0) long each
