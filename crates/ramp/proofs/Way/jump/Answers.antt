-- Each test, count and step is the definition's, and so is the position, by the laws of the closed formula on each way. A count of 32 bits times a step fits.
use Rattle.std.proofs.Common.{sym, ◌∙◌, arith, rules, w64}
use mir.Val.{SFits}
use mir.Facts.{to_z-of_z}
use Rattle.integers.proofs.Machine.{told}
use Rattle.ramp.proofs.Bounds.{steps_fit}
use Rattle.ramp.proofs.Formula.{at_once, straight, before_zero, after_zero}
use Rattle.ramp.proofs.Travel as Travel
use Rattle.ramp.proofs.Way.jump.Goals as goal

pub returns-then-n-eq0 : goal.returns-then-n-eq0
returns-then-n-eq0 c = search (rules, c.if-n-eq0.true, Travel.start c.args.self.sound)

pub returns-then-not-ramped : goal.returns-then-not-ramped
returns-then-not-ramped c =
    let t : SFits w64 c.args.self.target = search rules in
    to_z-of_z t ∙ sym (at_once _ _ _ (sym c.if-not-ramped.ensures) c.args.n (omega arith))

pub overflow_mul-n : goal.overflow_mul-n
overflow_mul-n c = rw c.stride.ensures (steps_fit c.args.self.sound.ramp _ _ (omega arith))

pub returns-then-not-halts : goal.returns-then-not-halts
returns-then-not-halts c =
    let t : SFits w64 c.args.self.target = search rules in
    let p : SFits w64 c.args.self.position = search rules in
    told c.moved ∙ simp (c.from-n.ensures, c.stride.ensures, to_z-of_z t, to_z-of_z p) (sym (straight c.args.self.sound (sym c.if-not-ramped.ensures) (sym c.if-not-halts.ensures) c.args.n))

pub overflow_mul-n-then-n-k : goal.overflow_mul-n-then-n-k
overflow_mul-n-then-n-k c = rw c.stride-then-n-k.ensures (steps_fit c.args.self.sound.ramp _ _ (omega arith))

pub returns-then-n-k : goal.returns-then-n-k
returns-then-n-k c =
    let p : SFits w64 c.args.self.position = search rules in
    told c.moved-then-n-k
    ∙ simp (c.from-n.ensures, c.stride-then-n-k.ensures, to_z-of_z p) (sym (before_zero c.args.self.sound (sym c.if-not-halts.ensures) c.args.n (omega arith)))

pub overflow_mul-n-2 : goal.overflow_mul-n-2
overflow_mul-n-2 c = rw c.stride-2.ensures (steps_fit c.args.self.sound.ramp _ _ (omega arith))

pub returns : goal.returns
returns c =
    let t : SFits w64 c.args.self.target = search rules in
    told c.moved-2
    ∙ simp (c.from-n.ensures, c.stride-2.ensures, c.ticks_to_zero-k.ensures, to_z-of_z t) (sym (after_zero c.args.self.sound (sym c.if-not-halts.ensures) c.args.n (omega arith)))
