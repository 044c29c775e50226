-- Those of a sound block are in their ranges.
use mir.Facts.{to_z-of_z}
use Rattle.integers.proofs.Machine.{told, result_told}
use Rattle.block.proofs.Laws.{band, position_fits}
use Rattle.block.proofs.banded_of.Goals as goal

pub banded_by-requires : goal.banded_by-requires
banded_by-requires c =
    simp (
      result_told c.setting-2.type_inv c.setting-2.ensures,
      result_told c.setting-3.type_inv c.setting-3.ensures,
      result_told c.setting-4.type_inv c.setting-4.ensures,
      told c.whole_of,
      to_z-of_z (position_fits c.requires),
    )
    (band c.requires)
