-- The test, the first stop and the step are the definition's.
use Rattle.std.proofs.Common.{sym, ◌∙◌, rules, w64}
use mir.Val.{SFits}
use mir.Facts.{to_z-of_z}
use Rattle.integers.proofs.Machine.{result_told}
use Rattle.ramp.specs.Ramp.{tick_of}
use Rattle.ramp.proofs.Way.tick.Goals as goal

pub returns : goal.returns
unfolding tick_of
returns c =
    let p : SFits w64 c.args.self.position = search rules in
    result_told c.moved.type_inv c.moved.ensures
    ∙ simp (result_told c.stop.type_inv c.stop.ensures.value, c.stride.ensures, to_z-of_z p, sym c.if-not-ramped.ensures)
