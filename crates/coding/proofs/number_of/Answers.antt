-- A value below zero and the span together are the value's number, and another value is its number itself. A number is below the span, and fits.
use Rattle.std.proofs.Common.{◌≡◌, ℕ, ◌<◌, FitsSigned, true, false, ◌∙◌, ap, rules, arith, w64, ℤ, pos, ◌+ℤ◌, to_z, of_z}
use Rattle.std.specs.Int.Signed.{lt_z}
use Rattle.std.proofs.Math.Facts.{to_z_pos, to_z-of_z}
use Rattle.coding.specs.Coding.{span, number_of, Held}
use Rattle.coding.proofs.Laws.{a_span, below_zero, from_zero, number_below}
use Rattle.coding.proofs.number_of.Goals as goal

module _ {size : ℕ} {value : ℤ} (h : Held size value) (f : FitsSigned w64 value) where
  small : number_of size value < 4294967296
  small = let s = a_span size in omega (arith, number_below h)

  read : to_z w64 (number_of size value) ≡ pos (number_of size value)
  read = to_z_pos w64 (omega (arith, small))

  sum : {limit : ℕ} → limit ≡ span size → lt_z (to_z w64 (of_z w64 value)) (pos 0) ≡ true → to_z w64 limit +ℤ to_z w64 (of_z w64 value) ≡ pos (number_of size value)
  sum e t =
      let s = a_span size in
      rw (ap (to_z w64) e ∙ to_z_pos w64 {n = span size} (omega arith), to_z-of_z f) (below_zero h (simp (to_z-of_z f) at t))

  same : lt_z (to_z w64 (of_z w64 value)) (pos 0) ≡ false → to_z w64 (of_z w64 value) ≡ pos (number_of size value)
  same t = to_z-of_z f ∙ from_zero h (simp (to_z-of_z f) at t)

pub overflow_cast-result : goal.overflow_cast-result
overflow_cast-result c = let s = a_span c.args.size in search rules

pub overflow_add-result : goal.overflow_add-result
overflow_add-result c =
    let n = small c.requires c.ranges.value in
    rw (sum c.requires c.ranges.value c.span.ensures c.if-value-lt0.true) (search rules)

pub overflow_cast-result-then-value-lt0 : goal.overflow_cast-result-then-value-lt0
overflow_cast-result-then-value-lt0 c =
    let n = small c.requires c.ranges.value in
    rw (sum c.requires c.ranges.value c.span.ensures c.if-value-lt0.true, read c.requires c.ranges.value) (tt, omega arith)

pub overflow_cast-result-else-value-lt0 : goal.overflow_cast-result-else-value-lt0
overflow_cast-result-else-value-lt0 c =
    let n = small c.requires c.ranges.value in
    rw (same c.requires c.ranges.value c.if-value-lt0.false) (tt, omega arith)

pub returns-then-value-lt0 : goal.returns-then-value-lt0
returns-then-value-lt0 c =
    rw (sum c.requires c.ranges.value c.span.ensures c.if-value-lt0.true, read c.requires c.ranges.value)

pub returns-else-value-lt0 : goal.returns-else-value-lt0
returns-else-value-lt0 c = rw (same c.requires c.ranges.value c.if-value-lt0.false)
