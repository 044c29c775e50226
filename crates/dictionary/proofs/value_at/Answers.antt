-- Each part of the table is read where the definition reads it, and lies in its row's range.
use Rattle.std.proofs.Common.{ap, ◌∙◌}
use borrow.Author.Tests.{lt-ltb}
use Rattle.integers.proofs.Machine.{result_told}
use Rattle.block.specs.Block.{setting}
use Rattle.block.specs.declared.Block.{Block}
use Rattle.dither.proofs.Laws.{stands_within}
use Rattle.device.proofs.Laws.{dither_of_sound}
use Rattle.dictionary.specs.Values.{value_at}
use Rattle.dictionary.proofs.Laws.{setting_within, valued}
use Rattle.dictionary.proofs.Maps.{OfDither, one_of_three, dither_place, value_of_dither}
use Rattle.dictionary.proofs.value_at.Goals as goal

pub returns-then-place-lt-SETTINGS : goal.returns-then-place-lt-SETTINGS
unfolding value_at
returns-then-place-lt-SETTINGS c =
    valued (rw (lt-ltb _ _ c.if-place-lt-SETTINGS.true))
    (result_told c.setting.type_inv c.setting.ensures ∙ ap (λ (b : Block). setting b c.args.place) c.block_of.ensures, setting_within c.requires.sound c.args.which _ c.if-place-lt-SETTINGS.true)

pub returns-then-place-lt-RECEIVE_MAP : goal.returns-then-place-lt-RECEIVE_MAP
returns-then-place-lt-RECEIVE_MAP c =
    let m : OfDither c.args.place = (c.if-place-lt-SETTINGS.false, c.if-place-lt-RECEIVE_MAP.true) in
    valued (value_of_dither c.args.device c.args.which c.args.place m)
    (result_told c.stands_at.type_inv c.stands_at.ensures, rw (dither_place m) at (stands_within (dither_of_sound c.requires.sound) _ (one_of_three m)))
