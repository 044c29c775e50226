-- Each setting is the fresh value of its row.
use Rattle.std.proofs.Common.{◌≡◌, ◌<◌, ℕ, pos, rules, w64}
use mir.Val.{SFits}
use mir.Facts.{to_z-of_z}
use lib.ListN.{get_or}
use Rattle.objects.specs.Places.{SETTINGS}
use Rattle.objects.specs.Table.{row_at}
use Rattle.block.specs.Block.{fresh_block}
use Rattle.block.proofs.Table.{fresh_settings}
use Rattle.block.proofs.fresh.Goals as goal

pub returns : goal.returns
unfolding fresh_block
returns c =
    let f : SFits w64 c.row_at.result.fresh = search rules in
    let made = c.from_fn.ensures.items in
    let each : (k : ℕ) → k < SETTINGS → get_or c.from_fn.result k (pos 0) ≡ (row_at k).fresh = λ k h. search (rules, made.at k (pos 0) h) in
    rw (to_z-of_z f, c.row_at.ensures, fresh_settings made.long each)
