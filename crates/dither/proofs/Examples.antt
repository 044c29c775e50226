-- The waves at their corners, by computation.
use Rattle.std.proofs.Common.{refl}
use Rattle.dither.specs.Wave.{square, height, triangle}
use Rattle.dither.specs.Examples.{Examples}

pub examples : Examples
unfolding square height triangle
examples =
    record {
      square_of_1024 = refl;
      square_of_1 = refl;
      square_of_0 = refl;
      triangle_of_1024 = refl;
      triangle_of_1 = refl;
      triangle_of_0 = refl;
      first_ir = refl;
      first_ir_below = refl;
    }
