-- The value lies in its row's range, so that the bytes of the row's type hold it.
use Rattle.std.proofs.Common.{refl}
use Rattle.integers.proofs.Machine.{result_told}
use Rattle.coding.proofs.Rows.{row_held}
use Rattle.dictionary.proofs.read_value.Goals as goal

pub number_of-number-requires : goal.number_of-number-requires
number_of-number-requires c =
    rw (result_told c.value_at.type_inv refl, c.requires.looked) (row_held _ c.requires.placed.below c.value_at.ensures.range)
