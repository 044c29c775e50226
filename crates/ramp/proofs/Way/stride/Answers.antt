-- Each time that is picked is in its range, and the test and the step are the definition's.
use Rattle.std.proofs.Common.{◌≡◌, sym, ◌∙◌, rules, true, false, w64}
use mir.Val.{SFits}
use mir.Facts.{to_z-of_z}
use Rattle.integers.proofs.Machine.{result_told}
use Rattle.ramp.specs.Ramp.{decelerates, stride}
use Rattle.ramp.proofs.Bounds.{away_timed, back_timed}
use Rattle.ramp.proofs.Way.stride.Goals as goal

pub step_of-requires : goal.step_of-requires
step_of-requires c = rw (result_told c.back_time.type_inv c.back_time.ensures) (back_timed c.args.self.sound.ramp _)

pub returns-then-decelerates : goal.returns-then-decelerates
unfolding stride
returns-then-decelerates c =
    let t : SFits w64 c.args.self.target = search rules in
    let e : decelerates c.args.self.target c.args.p ≡ true = simp (to_z-of_z t, to_z-of_z c.ranges.p) at (sym c.if-decelerates.ensures) in
    c.step_of.ensures ∙ simp (result_told c.back_time.type_inv c.back_time.ensures, to_z-of_z c.ranges.p, e)

pub step_of-requires-2 : goal.step_of-requires-2
step_of-requires-2 c = rw (result_told c.away_time.type_inv c.away_time.ensures) (away_timed c.args.self.sound.ramp _)

pub returns : goal.returns
unfolding stride
returns c =
    let t : SFits w64 c.args.self.target = search rules in
    let e : decelerates c.args.self.target c.args.p ≡ false = simp (to_z-of_z t, to_z-of_z c.ranges.p) at (sym c.if-decelerates.ensures) in
    c.step_of-2.ensures ∙ simp (result_told c.away_time.type_inv c.away_time.ensures, to_z-of_z t, e)
