-- What the functions of the value chain ask of what they are handed: places of settings, and numbers in the ranges of the object table.
use Rattle.std.specs.Prelude.{ℕ, ◌<◌, ℤ, pos}
use Rattle.integers.specs.Words.{minus}
use Rattle.integers.specs.Range.{Within}
use Rattle.objects.specs.Numbers.{FULL_STROKE}
use Rattle.objects.specs.Places.{SETTINGS, SET_POINT, UPPER_LIMIT, LOWER_LIMIT, SCALING_FACTOR, SCALING_OFFSET, ZERO_CORRECTION, A_SIDE, B_SIDE, THRESHOLD}
use Rattle.objects.specs.Table.{InRange}
use Rattle.block.specs.Sound.{Sound}
use Rattle.block.specs.declared.Block.{Block}

-- the place of a stored setting
pub record ASetting (place : ℕ) : Type 0 where
  pub below : place < SETTINGS

-- a factor and a value whose product fits 64 bits
pub record Scaling (f x : ℤ) : Type 0 where
  pub factor : InRange SCALING_FACTOR f
  pub value : InRange SET_POINT x

-- the numbers of a target: lower and upper limit, factor, offset, zero correction, input
pub record Chain (l u f o z i : ℤ) : Type 0 where
  pub lower : InRange LOWER_LIMIT l
  pub upper : InRange UPPER_LIMIT u
  pub factor : InRange SCALING_FACTOR f
  pub offset : InRange SCALING_OFFSET o
  pub zero : InRange ZERO_CORRECTION z
  pub input : InRange SET_POINT i

-- the numbers of a dead band: A side, B side, threshold, and the position in ir
pub record Band (a b h r : ℤ) : Type 0 where
  pub a_side : InRange A_SIDE a
  pub b_side : InRange B_SIDE b
  pub threshold : InRange THRESHOLD h
  pub whole : Within (minus FULL_STROKE) (pos FULL_STROKE) r

-- a sound block, and what is added behind its dead band: no more either way than the highest amplitude
pub record Dithered (b : Block) (dither : ℤ) : Type 0 where
  pub sound : Sound b
  pub small : Within (minus 1024) (pos 1024) dither
