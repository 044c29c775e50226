-- A sound device's block and dither are sound, and the dither is small enough to be added.
use Rattle.integers.proofs.Machine.{result_told}
use Rattle.dither.proofs.Laws.{wave_small}
use Rattle.device.proofs.Laws.{block_of_sound, dither_of_sound}
use Rattle.device.proofs.command.Goals as goal

pub value-requires : goal.value-requires
value-requires c = dither_of_sound c.requires

pub command-requires : goal.command-requires
command-requires c =
    simp (result_told c.value.type_inv c.value.ensures) (record { sound = block_of_sound c.requires; small = wave_small (dither_of_sound c.requires) })
