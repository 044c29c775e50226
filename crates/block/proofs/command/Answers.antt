-- The sum fits, and is what the definition clamps.
use Rattle.std.proofs.Common.{◌∙◌, ◌+ℤ◌, ℤ, w64}
use mir.Val.{SFits}
use mir.Facts.{to_z-of_z}
use Rattle.integers.proofs.Machine.{told, result_told}
use Rattle.integers.proofs.Range.{fits, plus}
use Rattle.block.specs.Asked.{Dithered}
use Rattle.block.specs.Command.{banded_of, command_of}
use Rattle.block.specs.declared.Block.{Block}
use Rattle.block.proofs.Laws.{banded_within}
use Rattle.block.proofs.command.Goals as goal

sum : {b : Block} {dither : ℤ} → Dithered b dither → SFits w64 (banded_of b +ℤ dither)
sum h = fits (plus (banded_within h.sound) h.small) tt tt

pub overflow_add-banded_of : goal.overflow_add-banded_of
overflow_add-banded_of c = simp (result_told c.banded_of.type_inv c.banded_of.ensures, to_z-of_z c.ranges.dither) (sum c.requires)

pub returns : goal.returns
unfolding command_of
returns c =
    told c.clamp_to_stroke
    ∙ simp (result_told c.banded_of.type_inv c.banded_of.ensures, to_z-of_z c.ranges.dither, to_z-of_z (sum c.requires))
