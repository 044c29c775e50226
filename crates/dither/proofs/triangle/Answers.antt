-- The product fits, and so does its quotient: no step is higher than the crest.
use Rattle.std.proofs.Common.{ℕ, ℤ, ◌≤◌, ◌/◌, ◌*ℤ◌, arith, to_z-of_z, w64, SFits}
use Rattle.integers.proofs.Machine.{told, quot_fits}
use Rattle.integers.proofs.Range.{fits, times, around}
use Rattle.objects.specs.Table.{objects}
use Rattle.dither.specs.Asked.{Amplitude}
use Rattle.dither.specs.Wave.{height, triangle}
use Rattle.dither.proofs.Laws.{height_most}
use Rattle.dither.proofs.triangle.Goals as goal

product : {a : ℤ} → Amplitude a → (x : ℕ) → x ≤ 65536 → SFits w64 (a *ℤ height x)
unfolding objects
product p x l = fits (times p.range (around (height x) 16384 (height_most x l))) tt tt

pub overflow_mul-result : goal.overflow_mul-result
overflow_mul-result c =
    simp (told c.height, to_z-of_z c.ranges.amplitude) (product c.requires (c.args.phase / 65536) (omega arith))

pub returns : goal.returns
unfolding triangle
returns c =
    let f = product c.requires (c.args.phase / 65536) (omega arith) in
    simp (told c.height, to_z-of_z c.ranges.amplitude, to_z-of_z f) (to_z-of_z (quot_fits _ _ f))
