-- What is left of a division by the span is below it, and the span is more than zero.
use Rattle.std.proofs.Common.{arith}
use Rattle.std.proofs.Math.Nat.{mod-lt}
use Rattle.coding.proofs.Laws.{a_span}
use Rattle.coding.proofs.value_of.Goals as goal

pub nonzero_rem-number : goal.nonzero_rem-number
nonzero_rem-number c = let s = a_span c.args.size in omega arith

pub in_span-requires : goal.in_span-requires
in_span-requires c =
    let s = a_span c.args.size in
    rw c.span-limit.ensures (record { below = mod-lt c.args.number s.some; four = s.most })
