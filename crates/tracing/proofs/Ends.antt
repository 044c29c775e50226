-- A step beyond either end of a row's range fits an i64, by a test that is computed over the rows.
use mathlib.Core.Path.{refl}
use mathlib.Core.Bool.{Bool}
use Prim.Native.Nat.{ℕ, ◌^◌, ◌<◌}
use borrow.Author.Tests.{ltb-true}
use lib.Dec.{ltb}
use lib.IntN.{ℤ, pos, ◌+ℤ◌, ◌-ℤ◌}
use lib.Signed.{mag}
use mir.Syntax.{w64}
use mir.Val.{SFits}
use Rattle.integers.specs.Words.{each}
use Rattle.integers.proofs.Each.{each_at}
use Rattle.objects.specs.Places.{ROWS}
use Rattle.objects.specs.Table.{objects, row_at}

abbrev above : ℕ → ℤ
above place = (row_at place).high +ℤ pos 1

abbrev below : ℕ → ℤ
below place = (row_at place).low -ℤ pos 1

abbrev fit : (ℕ → ℤ) → ℕ → Bool
fit end place = ltb (mag (end place)) (2 ^ 63)

pub above_fits : (place : ℕ) → place < ROWS → SFits w64 (above place)
unfolding each objects
above_fits place h = record { sfits = ltb-true _ _ (each_at ROWS (fit above) place refl h) }

pub below_fits : (place : ℕ) → place < ROWS → SFits w64 (below place)
unfolding each objects
below_fits place h = record { sfits = ltb-true _ _ (each_at ROWS (fit below) place refl h) }
