-- Each call's result is what the definition has there, so that each sum lies between numbers that fit.
use Rattle.std.proofs.Common.{◌∙◌, ◌+ℤ◌, ℤ, w64}
use mir.Val.{SFits}
use mir.Facts.{to_z-of_z}
use Rattle.integers.proofs.Machine.{told}
use Rattle.integers.proofs.Range.{fits, plus}
use Rattle.objects.specs.Places.{SET_POINT}
use Rattle.objects.specs.Table.{objects, InRange}
use Rattle.block.specs.Asked.{Scaling, Chain}
use Rattle.block.specs.Target.{clamp_to, scaled_by, target_from}
use Rattle.block.proofs.Laws.{clamp_one, scaled_within}
use Rattle.block.proofs.target_from.Goals as goal

module _ {l u f o z i : ℤ} (s : Chain l u f o z i) where
  scaling : Scaling f (clamp_to l u i)
  unfolding objects
  scaling = record { factor = s.factor; value = clamp_one (InRange SET_POINT) s.lower s.upper s.input }

  moved : SFits w64 (scaled_by f (clamp_to l u i) +ℤ o)
  unfolding objects
  moved = fits (plus (scaled_within scaling) s.offset) tt tt

  sum : SFits w64 (scaled_by f (clamp_to l u i) +ℤ o +ℤ z)
  unfolding objects
  sum = fits (plus (plus (scaled_within scaling) s.offset) s.zero) tt tt

pub scaled_by-scaled-requires : goal.scaled_by-scaled-requires
scaled_by-scaled-requires c =
    let r = c.ranges in
    simp (told c.clamp_to, to_z-of_z r.factor, to_z-of_z r.lower, to_z-of_z r.upper, to_z-of_z r.input) (scaling c.requires)

pub overflow_add-scaled : goal.overflow_add-scaled
overflow_add-scaled c =
    let r = c.ranges in
    simp (told c.scaled_by-scaled, told c.clamp_to, to_z-of_z r.factor, to_z-of_z r.lower, to_z-of_z r.upper, to_z-of_z r.input, to_z-of_z r.offset) (moved c.requires)

pub overflow_add-scaled-2 : goal.overflow_add-scaled-2
overflow_add-scaled-2 c =
    let r = c.ranges in
    simp (told c.scaled_by-scaled, told c.clamp_to, to_z-of_z r.factor, to_z-of_z r.lower, to_z-of_z r.upper, to_z-of_z r.input, to_z-of_z r.offset, to_z-of_z r.zero, to_z-of_z (moved c.requires)) (sum c.requires)

pub returns : goal.returns
unfolding target_from
returns c =
    let r = c.ranges in
    told c.clamp_to_stroke
    ∙ simp (told c.scaled_by-scaled, told c.clamp_to, to_z-of_z r.factor, to_z-of_z r.lower, to_z-of_z r.upper, to_z-of_z r.input, to_z-of_z r.offset, to_z-of_z r.zero, to_z-of_z (moved c.requires), to_z-of_z (sum c.requires))
