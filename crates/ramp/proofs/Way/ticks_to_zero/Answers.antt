-- From a position within full stroke, the way to zero can be divided by a step.
use Rattle.std.proofs.Common.{rules, w64}
use mir.Val.{SFits}
use mir.Facts.{to_z-of_z}
use Rattle.ramp.proofs.Bounds.{zero_inside, steppable}
use Rattle.ramp.proofs.Way.ticks_to_zero.Goals as goal

pub rounded_up-requires : goal.rounded_up-requires
rounded_up-requires c =
    let p : SFits w64 c.args.self.position = search rules in
    simp (c.distance.ensures, c.stride.ensures, to_z-of_z p) (steppable c.args.self.sound zero_inside)
