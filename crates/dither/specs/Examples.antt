-- Both waves of amplitude 1024, 1 and 0 at the ends of the phase range and at its quarters, and one phase and one step of x before and after them.
use Rattle.std.specs.Prelude.{◌≡◌, ℕ, List, [], ◌∷◌, ◌++◌, map, pos}
use Rattle.integers.specs.Words.{minus}
use Rattle.dither.specs.Wave.{square, triangle}

-- phase 0, one more, the last before x is 1, and x is 1
abbrev at_zero : List ℕ
at_zero = 0 ∷ 1 ∷ 65535 ∷ 65536 ∷ []

-- one step of x before the first quarter, one phase before, the quarter, one phase after, one step of x after
abbrev at_quarter : List ℕ
at_quarter = 1073676288 ∷ 1073741823 ∷ 1073741824 ∷ 1073741825 ∷ 1073807360 ∷ []

-- likewise of the half, and of three quarters
abbrev at_half : List ℕ
at_half = 2147418112 ∷ 2147483647 ∷ 2147483648 ∷ 2147483649 ∷ 2147549184 ∷ []

abbrev at_three_quarters : List ℕ
at_three_quarters = 3221159936 ∷ 3221225471 ∷ 3221225472 ∷ 3221225473 ∷ 3221291008 ∷ []

-- one step of x before the end, and the last phase
abbrev at_end : List ℕ
at_end = 4294901760 ∷ 4294967295 ∷ []

abbrev corners : List ℕ
corners = at_zero ++ at_quarter ++ at_half ++ at_three_quarters ++ at_end

pub record Examples : Type 0 where
  pub square_of_1024 :
      map (square (pos 1024)) corners
      ≡ (pos 1024 ∷ pos 1024 ∷ pos 1024 ∷ pos 1024 ∷ [])
      ++ (pos 1024 ∷ pos 1024 ∷ pos 1024 ∷ pos 1024 ∷ pos 1024 ∷ [])
      ++ (pos 1024 ∷ pos 1024 ∷ minus 1024 ∷ minus 1024 ∷ minus 1024 ∷ [])
      ++ (minus 1024 ∷ minus 1024 ∷ minus 1024 ∷ minus 1024 ∷ minus 1024 ∷ [])
      ++ (minus 1024 ∷ minus 1024 ∷ [])
  pub square_of_1 :
      map (square (pos 1)) corners
      ≡ (pos 1 ∷ pos 1 ∷ pos 1 ∷ pos 1 ∷ [])
      ++ (pos 1 ∷ pos 1 ∷ pos 1 ∷ pos 1 ∷ pos 1 ∷ [])
      ++ (pos 1 ∷ pos 1 ∷ minus 1 ∷ minus 1 ∷ minus 1 ∷ [])
      ++ (minus 1 ∷ minus 1 ∷ minus 1 ∷ minus 1 ∷ minus 1 ∷ [])
      ++ (minus 1 ∷ minus 1 ∷ [])
  pub square_of_0 : map (square (pos 0)) corners ≡ map (λ phase. pos 0) corners
  pub triangle_of_1024 :
      map (triangle (pos 1024)) corners
      ≡ (pos 0 ∷ pos 0 ∷ pos 0 ∷ pos 0 ∷ [])
      ++ (pos 1023 ∷ pos 1023 ∷ pos 1024 ∷ pos 1024 ∷ pos 1023 ∷ [])
      ++ (pos 0 ∷ pos 0 ∷ pos 0 ∷ pos 0 ∷ pos 0 ∷ [])
      ++ (minus 1023 ∷ minus 1023 ∷ minus 1024 ∷ minus 1024 ∷ minus 1023 ∷ [])
      ++ (pos 0 ∷ pos 0 ∷ [])
  pub triangle_of_1 :
      map (triangle (pos 1)) corners
      ≡ (pos 0 ∷ pos 0 ∷ pos 0 ∷ pos 0 ∷ [])
      ++ (pos 0 ∷ pos 0 ∷ pos 1 ∷ pos 1 ∷ pos 0 ∷ [])
      ++ (pos 0 ∷ pos 0 ∷ pos 0 ∷ pos 0 ∷ pos 0 ∷ [])
      ++ (pos 0 ∷ pos 0 ∷ minus 1 ∷ minus 1 ∷ pos 0 ∷ [])
      ++ (pos 0 ∷ pos 0 ∷ [])
  pub triangle_of_0 : map (triangle (pos 0)) corners ≡ map (λ phase. pos 0) corners
  -- of amplitude 1024, 16 steps of x are the first ir, and one phase less is none; so downward from the half, where 15 steps are none
  pub first_ir : map (triangle (pos 1024)) (1048575 ∷ 1048576 ∷ []) ≡ pos 0 ∷ pos 1 ∷ []
  pub first_ir_below : map (triangle (pos 1024)) (2148466688 ∷ 2148532224 ∷ []) ≡ pos 0 ∷ minus 1 ∷ []
