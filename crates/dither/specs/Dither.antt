-- Wish 4 of document 02: the dither's parts, which are its type, amplitude and frequency (6360h to 6362h, in this order) and its phase;
-- the dither with one of them changed; the fresh dither.
use Rattle.std.specs.Prelude.{ℕ, ℤ, if◌then◌else◌}
use Rattle.integers.specs.Words.{◌is◌}
use Rattle.objects.specs.Places.{DITHER_TYPE, DITHER_AMPLITUDE, DITHER_FREQUENCY}
use Rattle.objects.specs.Table.{row_at}
use Rattle.dither.specs.declared.Dither.{Dither}

-- the value of the first, the second or the third object
unfoldable pub stands_at : Dither → ℕ → ℤ
stands_at h k =
    if k is 0 then h.kind
    else if k is 1 then h.amplitude
    else h.frequency

-- the dither with another value there
unfoldable pub with_at : ℕ → ℤ → Dither → Dither
with_at k value h =
    if k is 0 then record { kind = value; amplitude = h.amplitude; frequency = h.frequency; phase = h.phase }
    else if k is 1 then record { kind = h.kind; amplitude = value; frequency = h.frequency; phase = h.phase }
    else record { kind = h.kind; amplitude = h.amplitude; frequency = value; phase = h.phase }

-- the dither at another phase
abbrev pub at_phase : ℕ → Dither → Dither
at_phase phase h = record { kind = h.kind; amplitude = h.amplitude; frequency = h.frequency; phase = phase }

-- every value as the table has it, at phase 0
unfoldable pub fresh_dither : Dither
fresh_dither = record { kind = (row_at DITHER_TYPE).fresh; amplitude = (row_at DITHER_AMPLITUDE).fresh; frequency = (row_at DITHER_FREQUENCY).fresh; phase = 0 }
