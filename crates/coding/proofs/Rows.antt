-- The values of an object are values of its type.
use mathlib.Core.Bool.{Bool, true}
use mathlib.Core.Path.{◌≡◌, refl}
use Prim.Native.Nat.{ℕ, ◌<◌}
use native.Mathlib.Omega.{arith}
use lib.IntN.{ℤ}
use Rattle.integers.specs.Words.{each, ◌≤?◌}
use Rattle.integers.proofs.Linear.{ints}
use Rattle.integers.proofs.Each.{each_at}
use Rattle.objects.specs.Places.{ROWS}
use Rattle.objects.specs.Table.{objects, is_signed, row_at, InRange}
use Rattle.coding.specs.Coding.{span, lowest, highest, Held, Typed}
use Rattle.coding.proofs.Laws.{held}

-- a row's range lies within its type, by a test that is computed over the rows
abbrev low_typed : ℕ → Bool
low_typed place = lowest (row_at place).size (row_at place).signed ≤? (row_at place).low

abbrev high_typed : ℕ → Bool
high_typed place = (row_at place).high ≤? highest (row_at place).size (row_at place).signed

pub row_typed : (place : ℕ) {value : ℤ} → place < ROWS → InRange place value → Typed (row_at place).size (row_at place).signed value
unfolding each objects is_signed span
row_typed place h w =
    let low : low_typed place ≡ true = each_at ROWS low_typed place refl h in
    let high : high_typed place ≡ true = each_at ROWS high_typed place refl h in
    record { range = omega (arith, ints) }

pub row_held : (place : ℕ) {value : ℤ} → place < ROWS → InRange place value → Held (row_at place).size value
row_held place h w = held (row_typed place h w)
