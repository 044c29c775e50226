-- The frequency is not below zero and at most 250, so that product and quotient fit.
use Rattle.std.proofs.Common.{◌≤◌, pos, nat_abs, ◌≤ℤ◌, arith, to_z-of_z, w64, SFits}
use Rattle.integers.proofs.Linear.{ints, abs_nat}
use Rattle.integers.proofs.Machine.{unsigned}
use Rattle.integers.proofs.Range.{fits}
use Rattle.objects.specs.Table.{objects}
use Rattle.dither.specs.Sound.{Sound}
use Rattle.dither.specs.declared.Dither.{Dither}
use Rattle.dither.proofs.Laws.{dither_parts}
use Rattle.dither.proofs.increment.Goals as goal

module _ {h : Dither} (s : Sound h) where
  frequency : SFits w64 h.frequency
  unfolding objects
  frequency = fits (dither_parts s).frequency tt tt

  positive : pos 0 ≤ℤ h.frequency
  unfolding objects
  positive = (dither_parts s).frequency.from

  most : nat_abs h.frequency ≤ 250
  unfolding objects
  most = let f = (dither_parts s).frequency in omega (arith, ints, abs_nat h.frequency)

pub overflow_cast-result : goal.overflow_cast-result
overflow_cast-result c =
    simp (to_z-of_z (frequency c.requires)) (unsigned (frequency c.requires) (positive c.requires))

pub overflow_mul-result : goal.overflow_mul-result
overflow_mul-result c = simp (to_z-of_z (frequency c.requires)) (omega (arith, most c.requires))

pub overflow_cast-result-2 : goal.overflow_cast-result-2
overflow_cast-result-2 c = simp (to_z-of_z (frequency c.requires)) (omega (arith, most c.requires))
