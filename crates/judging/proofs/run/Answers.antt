-- A turn judges the record at its place.
use Rattle.std.proofs.Common.{◌<◌, ◌/◌, [], length, arith, ap, ◌∙◌, get_or}
use Rattle.judging.proofs.Cases.{chunk_at, judged_next}
use Rattle.judging.proofs.run.Goals as goal

pub loop-case-preserved : goal.loop-case-preserved
loop-case-preserved c =
    let bytes = c.args.bytes.now in
    let k = c.loop-case.case-index in
    let within : k < length bytes / 16 = omega arith in
    let found = ap (λ cases. get_or cases k []) c.as_chunks.ensures.front ∙ chunk_at (length bytes / 16) k bytes within in
    judged_next k bytes _ c.args.tally _ _ found c.loop-case.invariant c.judge-after.ensures
