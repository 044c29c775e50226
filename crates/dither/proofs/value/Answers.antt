-- The amplitude of a sound dither is in its range, and fits.
use Rattle.std.proofs.Common.{to_z-of_z, w64, SFits}
use Rattle.integers.proofs.Range.{fits}
use Rattle.objects.specs.Table.{objects}
use Rattle.dither.specs.Asked.{Amplitude}
use Rattle.dither.specs.Sound.{Sound}
use Rattle.dither.specs.declared.Dither.{Dither}
use Rattle.dither.proofs.Laws.{dither_parts}
use Rattle.dither.proofs.value.Goals as goal

module _ {h : Dither} (s : Sound h) where
  amplitude : SFits w64 h.amplitude
  unfolding objects
  amplitude = fits (dither_parts s).amplitude tt tt

  ranged : Amplitude h.amplitude
  ranged = record { range = (dither_parts s).amplitude }

pub square-requires : goal.square-requires
square-requires c = simp (to_z-of_z (amplitude c.requires)) (ranged c.requires)

pub triangle-requires : goal.triangle-requires
triangle-requires c = simp (to_z-of_z (amplitude c.requires)) (ranged c.requires)
