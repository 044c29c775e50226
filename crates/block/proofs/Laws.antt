-- Where the numbers of the value chain lie, scaling on both signs, and on what the target depends.
use mathlib.Core.Bool.{Bool, false}
use mathlib.Core.Path.{◌≡◌, refl, sym}
use Prim.Native.Nat.{ℕ, zero, suc, ◌<◌}
use native.Mathlib.Omega.{arith}
use lib.IntN.{ℤ, pos, negsuc, neg_ℤ, ◌+ℤ◌, ◌-ℤ◌, ◌*ℤ◌, zero-*ℤ, neg_ℤ-neg_ℤ}
use lib.Signed.{lt_z, quot_z, ◌≤ℤ◌, le_z_yes}
use mir.Syntax.{w64}
use mir.Val.{SFits, to_z, of_z}
use mir.Facts.{to_z-of_z}
use Rattle.integers.specs.Words.{minus, ◌=?◌}
use Rattle.integers.specs.Range.{Within}
use Rattle.integers.proofs.Linear.{ints}
use Rattle.integers.proofs.Cases.{by_test}
use Rattle.integers.proofs.Range.{wider, fits, over, plus, less, times, size, exactly}
use Rattle.objects.specs.Numbers.{FULL_STROKE, PARTS}
use Rattle.objects.specs.Places.{SETTINGS, SET_POINT, HOLD_SET_POINT, UPPER_LIMIT, LOWER_LIMIT, SCALING_FACTOR, SCALING_OFFSET, ZERO_CORRECTION, RAMP_TYPE, ACCELERATION, ACCELERATION_POSITIVE, ACCELERATION_NEGATIVE, DECELERATION, DECELERATION_POSITIVE, DECELERATION_NEGATIVE, DEAD_BAND_TYPE, A_SIDE, B_SIDE, THRESHOLD}
use Rattle.objects.specs.Table.{objects, InRange}
use Rattle.ramp.specs.declared.Ramp.{Ramp}
use Rattle.ramp.specs.Ramp.{Way}
use Rattle.block.specs.Block.{setting}
use Rattle.block.specs.Target.{input_of, clamp_to, clamp_to_stroke, scaled_by, target_from, target_of, target_position}
use Rattle.block.specs.Command.{whole_of, banded, banded_by, banded_of, command_of}
use Rattle.block.specs.Sound.{Sound}
use Rattle.block.specs.Travel.{ramp_of}
use Rattle.block.specs.Asked.{Scaling, Chain, Band}
use Rattle.block.specs.declared.Block.{Block}
use Rattle.block.proofs.Sound.{block_parts}

-- ---- clamping and scaling

-- what holds of x and of both limits holds of the clamped value, whether or not the limits are in order
pub clamp_one : (P : ℤ → Type 0) {lower upper x : ℤ} → P lower → P upper → P x → P (clamp_to lower upper x)
unfolding clamp_to
clamp_one P {lower} {upper} {x} l u p = by_test P (lt_z x lower) (λ e. l) (λ e. by_test P (lt_z upper x) (λ f. u) (λ f. p))

-- between the limits, where they are in order
pub clamp_within : (x : ℤ) {lower upper : ℤ} → lower ≤ℤ upper → Within lower upper (clamp_to lower upper x)
unfolding clamp_to
clamp_within x {lower} {upper} h =
    by_test (Within lower upper) (lt_z x lower) (λ e. omega (arith, ints))
    (λ e. by_test (Within lower upper) (lt_z upper x) (λ f. omega (arith, ints)) (λ f. omega (arith, ints)))

pub stroke_within : (x : ℤ) → Within (minus FULL_STROKE) (pos FULL_STROKE) (clamp_to_stroke x)
unfolding clamp_to_stroke
stroke_within x = clamp_within x (le_z_yes tt)

pub scaled_within : {factor x : ℤ} → Scaling factor x → Within (minus 2147483648) (pos 2147483648) (scaled_by factor x)
unfolding scaled_by objects
scaled_within s = wider (over PARTS (times s.value s.factor)) tt tt

-- the scaled value of minus x is minus that of x: the product changes its sign, and with it the quotient toward zero
pub scaled_negated : (factor x : ℤ) → scaled_by factor (neg_ℤ x) ≡ neg_ℤ (scaled_by factor x)
unfolding scaled_by
scaled_negated factor x = rw (product x factor) (quotient (x *ℤ factor))
  where
    product : (a b : ℤ) → neg_ℤ a *ℤ b ≡ neg_ℤ (a *ℤ b)
    product (pos zero) b = rw zero-*ℤ
    product (pos (suc a)) (pos b) = refl
    product (pos (suc a)) (negsuc b) = sym (neg_ℤ-neg_ℤ _)
    product (negsuc a) (pos b) = sym (neg_ℤ-neg_ℤ _)
    product (negsuc a) (negsuc b) = refl

    quotient : (z : ℤ) → quot_z (neg_ℤ z) (pos PARTS) ≡ neg_ℤ (quot_z z (pos PARTS))
    quotient (pos zero) = refl
    quotient (pos (suc n)) = refl
    quotient (negsuc n) = sym (neg_ℤ-neg_ℤ _)

-- what holds of r, of r with either side, and of 0 holds of r behind a dead band
banded_one : (P : ℤ → Type 0) (kind a_side b_side threshold r : ℤ) → P r → P (r +ℤ a_side) → P (r -ℤ b_side) → P (pos 0) → P (banded_by kind a_side b_side threshold r)
unfolding banded_by banded
banded_one P kind a_side b_side threshold r p a b z =
    by_test P (kind =? pos 0) (λ e. p)
    (λ e. by_test P (lt_z threshold r) (λ f. a)
    (λ f. by_test P (lt_z r (neg_ℤ threshold)) (λ g. b) (λ g. z)))

-- between the threshold and its negative, ends included, a dead band of type 1 gives 0
pub banded_inside : (a_side b_side threshold r : ℤ) → Within (neg_ℤ threshold) threshold r → banded_by (pos 1) a_side b_side threshold r ≡ pos 0
unfolding banded_by banded
banded_inside a_side b_side threshold r w =
    let above : lt_z threshold r ≡ false = omega (arith, ints) in
    let below : lt_z r (neg_ℤ threshold) ≡ false = omega (arith, ints) in
    rw (above, below)

-- ---- target and command lie within full stroke

pub target_within : (active : Bool) (b : Block) → Within (minus FULL_STROKE) (pos FULL_STROKE) (target_of active b)
unfolding target_of target_from
target_within active b = stroke_within _

pub command_within : (dither : ℤ) (b : Block) → Within (minus FULL_STROKE) (pos FULL_STROKE) (command_of dither b)
unfolding command_of
command_within dither b = stroke_within _

-- ---- the target depends on the settings, the set point and which of the two is the input, and on nothing else

pub target_depends : (active : Bool) (b c : Block) → b.settings ≡ c.settings → b.setpoint ≡ c.setpoint → target_of active b ≡ target_of active c
unfolding target_of input_of
target_depends active b c e f = rw (e, f)

-- in HOLD not on the set point either
pub hold_target_depends : (b c : Block) → b.settings ≡ c.settings → target_of false b ≡ target_of false c
unfolding target_of input_of
hold_target_depends b c e = rw e

-- ---- what a sound block gives to its functions

module _ {b : Block} (s : Sound b) where
  in_range_lem : (place : ℕ) → place < SETTINGS → InRange place (setting b place)
  in_range_lem = (block_parts s).settings.ranged

  pub input_within : (active : Bool) → InRange SET_POINT (input_of active b)
  unfolding input_of objects
  input_within active = by_test (InRange SET_POINT) active (λ e. (block_parts s).setpoint) (λ e. in_range_lem HOLD_SET_POINT (omega arith))

  pub chain : (active : Bool) → Chain (setting b LOWER_LIMIT) (setting b UPPER_LIMIT) (setting b SCALING_FACTOR) (setting b SCALING_OFFSET) (setting b ZERO_CORRECTION) (input_of active b)
  chain active =
      record {
        lower = in_range_lem LOWER_LIMIT (omega arith);
        upper = in_range_lem UPPER_LIMIT (omega arith);
        factor = in_range_lem SCALING_FACTOR (omega arith);
        offset = in_range_lem SCALING_OFFSET (omega arith);
        zero = in_range_lem ZERO_CORRECTION (omega arith);
        input = input_within active;
      }

  pub band : Band (setting b A_SIDE) (setting b B_SIDE) (setting b THRESHOLD) (whole_of b.position)
  unfolding whole_of
  band =
      record {
        a_side = in_range_lem A_SIDE (omega arith);
        b_side = in_range_lem B_SIDE (omega arith);
        threshold = in_range_lem THRESHOLD (omega arith);
        whole = over PARTS (block_parts s).position;
      }

  -- a side is at most a quarter of full stroke
  pub banded_within : Within (minus 20480) (pos 20480) (banded_of b)
  unfolding banded_of objects
  banded_within =
      banded_one (Within (minus 20480) (pos 20480)) (setting b DEAD_BAND_TYPE) (setting b A_SIDE) (setting b B_SIDE) (setting b THRESHOLD) (whole_of b.position) (wider band.whole tt tt)
      (wider (plus band.whole band.a_side) tt tt) (wider (less band.whole band.b_side) tt tt) (wider (exactly (pos 0)) tt tt)

  pub way : (active : Bool) → Way (ramp_of b) (target_position active b) b.position
  unfolding objects target_position
  way active =
      record {
        ramp = record {
          kind = in_range_lem RAMP_TYPE (omega arith);
          acceleration = record {
            one = in_range_lem ACCELERATION (omega arith);
            positive = in_range_lem ACCELERATION_POSITIVE (omega arith);
            negative = in_range_lem ACCELERATION_NEGATIVE (omega arith);
          };
          deceleration = record {
            one = in_range_lem DECELERATION (omega arith);
            positive = in_range_lem DECELERATION_POSITIVE (omega arith);
            negative = in_range_lem DECELERATION_NEGATIVE (omega arith);
          };
        };
        target = record { inside = size (times (target_within active b) (exactly (pos PARTS))) };
        position = record { inside = size (block_parts s).position };
      }

  pub position_fits : SFits w64 b.position
  position_fits = fits (block_parts s).position tt tt

-- what the functions of the ramp are handed
pub way_told : {b : Block} {r : Ramp} {t : ℤ} → Sound b → (active : Bool) → r ≡ ramp_of b → t ≡ target_position active b → Way r t (to_z w64 (of_z w64 b.position))
way_told s active e f = simp (e, f, to_z-of_z (position_fits s)) (way s active)
