-- Wish 4 of document 02: what makes a dither sound. That its phase is 0 in DISABLED and FAULT is asked of the device.
use Rattle.std.specs.Prelude.{◌≡◌, Bool, true, ◌&&◌}
use Rattle.integers.specs.Words.{◌below◌}
use Rattle.objects.specs.Places.{DITHER_TYPE, DITHER_AMPLITUDE, DITHER_FREQUENCY}
use Rattle.objects.specs.Table.{row_at, in_row}
use Rattle.dither.specs.Phase.{PHASES}
use Rattle.dither.specs.declared.Dither.{Dither}

-- each value in its row's range, and a phase of 32 bits
unfoldable pub sound_dither : Dither → Bool
sound_dither h =
    in_row (row_at DITHER_TYPE) h.kind
    && in_row (row_at DITHER_AMPLITUDE) h.amplitude
    && in_row (row_at DITHER_FREQUENCY) h.frequency
    && h.phase below PHASES

-- what the functions of a dither ask
pub record Sound (h : Dither) : Type 0 where
  pub sound : sound_dither h ≡ true
