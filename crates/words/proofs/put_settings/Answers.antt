-- One more is stored after the others, as it is.
use Rattle.std.proofs.Common.{◌≡◌, pos, length, get_or, arith, rules, w64, to_z-of_z}
use mir.Val.{SFits}
use Rattle.objects.specs.Places.{SETTINGS}
use Rattle.words.proofs.Runs.{stored_more}
use Rattle.words.proofs.put_settings.Goals as goal

pub loop-k-preserved : goal.loop-k-preserved
loop-k-preserved c =
    let l = c.loop-k in
    let a = c.args in
    let f : SFits w64 (get_or a.settings l.k (pos 0)) = search rules in
    let long : length a.settings ≡ SETTINGS = search rules in
    rw (to_z-of_z f, l.invariant) (stored_more a.words.now a.from a.settings l.k (omega arith))
