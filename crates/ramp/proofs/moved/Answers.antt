-- Short of the goal, the move is less than the distance from end to end.
use Rattle.std.proofs.Common.{arith}
use mir.Facts.{to_z-of_z}
use Rattle.ramp.proofs.Bounds.{distance_most}
use Rattle.ramp.proofs.moved.Goals as goal

pub toward-requires : goal.toward-requires
toward-requires c =
    let h = c.requires in
    simp (to_z-of_z c.ranges.p)
    (record { most = omega (arith, simp (to_z-of_z c.ranges.p, to_z-of_z c.ranges.g) at c.distance.ensures, distance_most _ _ h.one h.other); from = h.one })
