-- One more is read after the others, as it is.
use Rattle.std.proofs.Common.{pos, ◌+◌, length-set, get_or, arith, rules, w64, to_z-of_z}
use mir.Val.{SFits}
use Rattle.words.proofs.Runs.{read_more}
use Rattle.words.proofs.settings_at.Goals as goal

pub loop-k-preserved : goal.loop-k-preserved
loop-k-preserved c =
    let l = c.loop-k in
    let a = c.args in
    let f : SFits w64 (get_or a.words.now (a.from + l.k) (pos 0)) = search rules in
    (simp length-set l.invariant.0, rw (to_z-of_z f) (read_more a.words.now l.settings a.from l.k (omega arith) l.invariant.1))
