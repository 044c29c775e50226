-- Those of a sound block are in their ranges.
use Rattle.integers.proofs.Machine.{result_told}
use Rattle.block.proofs.Laws.{chain}
use Rattle.block.proofs.target.Goals as goal

pub target_from-requires : goal.target_from-requires
target_from-requires c =
    simp (
      result_told c.setting.type_inv c.setting.ensures,
      result_told c.setting-2.type_inv c.setting-2.ensures,
      result_told c.setting-3.type_inv c.setting-3.ensures,
      result_told c.setting-4.type_inv c.setting-4.ensures,
      result_told c.setting-5.type_inv c.setting-5.ensures,
      result_told c.input.type_inv c.input.ensures,
    )
    (chain c.requires c.args.active)
