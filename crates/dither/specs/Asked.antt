-- What the functions of the waves ask of what they are handed.
use Rattle.std.specs.Prelude.{ℤ}
use Rattle.objects.specs.Places.{DITHER_AMPLITUDE}
use Rattle.objects.specs.Table.{InRange}

-- an amplitude in its range
pub record Amplitude (a : ℤ) : Type 0 where
  pub range : InRange DITHER_AMPLITUDE a
