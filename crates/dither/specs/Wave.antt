-- Wish 4 of document 02: the waves, over amplitude and phase, and the dither in ir.
use Rattle.std.specs.Prelude.{ℕ, ◌/◌, ◌^◌, ℤ, pos, ◌-ℤ◌, ◌*ℤ◌, neg_ℤ, if◌then◌else◌}
use Rattle.integers.specs.Words.{◌over◌, ◌=?◌, ◌below◌}
use Rattle.dither.specs.declared.Dither.{Dither}

-- square: plus the amplitude below half of the phase range, and minus from there
unfoldable pub square : ℤ → ℕ → ℤ
square amplitude phase = if phase below 2 ^ 31 then amplitude else neg_ℤ amplitude

-- by what the triangle multiplies the amplitude, where x is phase / 65,536, fraction dropped
unfoldable pub height : ℕ → ℤ
height x =
    if x below 16384 then pos x
    else if x below 49152 then pos 32768 -ℤ pos x
    else pos x -ℤ pos 65536

-- triangle: each product over 16,384, toward zero
unfoldable pub triangle : ℤ → ℕ → ℤ
triangle amplitude phase = (amplitude *ℤ height (phase / 65536)) over 16384

-- the dither in ir, by the type: 0 off, 1 square, 2 triangle
unfoldable pub dither_of : Dither → ℤ
dither_of h =
    if h.kind =? pos 0 then pos 0
    else if h.kind =? pos 1 then square h.amplitude h.phase
    else triangle h.amplitude h.phase
