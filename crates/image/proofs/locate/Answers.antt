-- Each way out of a turn is one of the walk's, from the place that it has reached.
use Rattle.std.proofs.Common.{◌≡◌, ◌+◌, sym, subst, arith}
use Rattle.image.specs.Fields.{HEADER}
use Rattle.image.specs.Walk.{end_at}
use Rattle.image.proofs.Walks.{Reached, reached_first, walk_ends, header_cut, value_cut, tag_met, reached_next}
use Rattle.image.proofs.locate.Goals as goal

pub loop-k-init : goal.loop-k-init
loop-k-init c = reached_first _ _

pub returns-then-image-k-lt-HEADER : goal.returns-then-image-k-lt-HEADER
returns-then-image-k-lt-HEADER c = record { found = sym (header_cut c.loop-k.invariant (omega arith) (omega arith)); lies = tt }

pub returns-then-image-from : goal.returns-then-image-from
returns-then-image-from c = record { found = sym (value_cut c.loop-k.invariant (omega arith) (omega arith)); lies = tt }

pub returns-then-image-k : goal.returns-then-image-k
returns-then-image-k c =
    let end : end_at c.args.image.now c.loop-k.k ≡ c.loop-k.k + HEADER + c.two_of-length.result = omega arith in
    record { found = sym (rw end at (tag_met c.loop-k.invariant (omega arith) c.if-image-k.true)); lies = omega arith }

pub loop-k-preserved : goal.loop-k-preserved
loop-k-preserved c =
    let end : end_at c.args.image.now c.loop-k.k ≡ c.loop-k.k + HEADER + c.two_of-length.result = omega arith in
    subst (Reached _ _) end (reached_next c.loop-k.invariant (omega arith) c.if-image-k.false)

pub returns : goal.returns
returns c = record { found = sym (walk_ends c.loop-k.invariant (omega arith)); lies = tt }
