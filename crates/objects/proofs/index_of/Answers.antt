-- Each row of the transmit map has its index.
use Rattle.std.proofs.Common.{refl, sym, arith}
use Rattle.integers.specs.Words.{each}
use Rattle.objects.specs.Places.{TRANSMIT_MAP}
use Rattle.objects.specs.Table.{objects}
use Rattle.objects.proofs.Rules.{map_index}
use Rattle.objects.proofs.index_of.Goals as goal

pub returns-in-25-to-29 : goal.returns-in-25-to-29
unfolding objects
returns-in-25-to-29 c =
    sym (map_index TRANSMIT_MAP 0x1A00 (unfold each in refl) c.args.place (omega arith) (omega arith))
