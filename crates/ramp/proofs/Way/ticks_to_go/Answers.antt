-- Each test, distance and step is the definition's, and so are the ticks, by the laws of the two ways. They are few enough for 32 bits.
use Rattle.std.proofs.Common.{sym, arith, rules, w64}
use mir.Val.{SFits}
use mir.Facts.{to_z-of_z}
use Rattle.ramp.proofs.Bounds.{way_on, steppable}
use Rattle.ramp.proofs.Formula.{ticks_straight, ticks_halting, latest}
use Rattle.ramp.proofs.Way.ticks_to_go.Goals as goal

pub rounded_up-requires : goal.rounded_up-requires
rounded_up-requires c =
    let t : SFits w64 c.args.self.target = search rules in
    let way = c.args.self.sound in
    simp (c.distance.ensures, c.stride.ensures, to_z-of_z t) (steppable (way_on way) way.target)

pub returns-then-halts : goal.returns-then-halts
returns-then-halts c =
    let t : SFits w64 c.args.self.target = search rules in
    simp (c.ticks_to_zero-k.ensures, c.rounded_up.ensures, c.distance.ensures, c.stride.ensures, to_z-of_z t)
    (sym (ticks_halting c.args.self.sound (sym c.if-halts.ensures)))

pub overflow_add-result : goal.overflow_add-result
overflow_add-result c = omega (arith, returns-then-halts c, latest c.args.self.sound)

pub overflow_cast-result : goal.overflow_cast-result
overflow_cast-result c = omega (arith, returns-then-halts c, latest c.args.self.sound)

pub rounded_up-requires-2 : goal.rounded_up-requires-2
rounded_up-requires-2 c =
    let t : SFits w64 c.args.self.target = search rules in
    let p : SFits w64 c.args.self.position = search rules in
    let way = c.args.self.sound in
    simp (c.distance-2.ensures, c.stride-2.ensures, to_z-of_z t, to_z-of_z p) (steppable way way.target)

pub returns : goal.returns
returns c =
    let t : SFits w64 c.args.self.target = search rules in
    let p : SFits w64 c.args.self.position = search rules in
    simp (c.rounded_up-2.ensures, c.distance-2.ensures, c.stride-2.ensures, to_z-of_z t, to_z-of_z p)
    (sym (ticks_straight c.args.self.sound (sym c.if-not-ramped.ensures) (sym c.if-halts.ensures)))

pub overflow_cast-result-2 : goal.overflow_cast-result-2
overflow_cast-result-2 c = omega (arith, returns c, latest c.args.self.sound)
