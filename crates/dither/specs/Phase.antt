-- Wish 4 of document 02: the phase of 32 bits, which advances each tick and runs over its end on purpose.
use Rattle.std.specs.Prelude.{ℕ, zero, suc, ◌+◌, ◌*◌, ◌/◌, ◌%◌, ◌^◌, unsigned_abs}
use Rattle.dither.specs.Dither.{at_phase}
use Rattle.dither.specs.declared.Dither.{Dither}

-- the phases of a period
abbrev pub PHASES : ℕ
PHASES = 2 ^ 32

-- what a tick adds: (frequency times 2^32) / 1000, fraction dropped
unfoldable pub increment : Dither → ℕ
increment h = unsigned_abs h.frequency * PHASES / 1000

-- the phase so much further: it runs over its end
unfoldable pub advanced : ℕ → ℕ → ℕ
advanced phase by = (phase + by) % PHASES

-- one tick
unfoldable pub tick_dither : Dither → Dither
tick_dither h = at_phase (advanced h.phase (increment h)) h

-- n single ticks
unfoldable pub tick_dither_times : ℕ → Dither → Dither
tick_dither_times zero h = h
tick_dither_times (suc n) h = tick_dither (tick_dither_times n h)

-- a jump of n ticks
unfoldable pub jump_dither : ℕ → Dither → Dither
jump_dither n h = at_phase (advanced h.phase (n * increment h)) h
