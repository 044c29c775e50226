-- A tick and a jump change a block's position alone and keep it sound, and n ticks are a jump of n: demand 3 of the block's ramp.
use mathlib.Core.Bool.{Bool}
use mathlib.Core.Path.{◌≡◌, refl, sym, ap, ◌∙◌}
use Prim.Native.Nat.{ℕ, zero, suc, ◌+◌}
use lib.IntN.{ℤ}
use Rattle.integers.proofs.Range.{around}
use Rattle.objects.specs.Numbers.{FULL_POSITION}
use Rattle.ramp.specs.Ramp.{ticked, Inside}
use Rattle.ramp.specs.Demand.{Demand3}
use Rattle.ramp.proofs.Demand.{demand3}
use Rattle.block.specs.Target.{input_of, target_of, target_position}
use Rattle.block.specs.Sound.{Sound}
use Rattle.block.specs.Travel.{ramp_of, tick_block, tick_block_times, jump_block}
use Rattle.block.specs.Block.{at_position}
use Rattle.block.specs.declared.Block.{Block}
use Rattle.block.proofs.Sound.{at_position_sound}
use Rattle.block.proofs.Laws.{way}

-- demand 3 of a sound block
pub block_demand3 : {b : Block} → Sound b → (active : Bool) → Demand3 (ramp_of b) (target_position active b) b.position
block_demand3 s active = demand3 (way s active)

-- ---- the position alone changes

pub tick_moves_only : (active : Bool) (b : Block) → ((tick_block active b).settings ≡ b.settings) × ((tick_block active b).setpoint ≡ b.setpoint)
unfolding tick_block
tick_moves_only active b = (refl, refl)

pub jump_moves_only : (active : Bool) (n : ℕ) (b : Block) → ((jump_block active n b).settings ≡ b.settings) × ((jump_block active n b).setpoint ≡ b.setpoint)
unfolding jump_block
jump_moves_only active n b = (refl, refl)

-- and with it neither the target of either input
pub target_stays : (active : Bool) (b : Block) (p : ℤ) → target_position active (at_position p b) ≡ target_position active b
unfolding target_position target_of input_of
target_stays active b p = refl

-- ---- a sound block stays sound

pub moved_sound : {b : Block} → Sound b → (p : ℤ) → Inside p → Sound (at_position p b)
moved_sound s p h = at_position_sound s (around p FULL_POSITION h.inside)

pub jump_sound : {b : Block} → Sound b → (active : Bool) (n : ℕ) → Sound (jump_block active n b)
unfolding jump_block
jump_sound s active n = moved_sound s _ ((block_demand3 s active).stays n)

-- ---- n ticks are a jump of n

-- a tick after a jump of n is a jump of n + 1, by the closed formula at both
tick_after : {b : Block} → Sound b → (active : Bool) (n : ℕ) → tick_block active (jump_block active n b) ≡ jump_block active (suc n) b
unfolding tick_block jump_block target_position target_of input_of ticked
tick_after {b} s active n =
    let d = block_demand3 s active in
    ap (λ p. at_position p b) (rw (← d.formula n) (d.formula (suc n)))

pub ticks_are_a_jump : {b : Block} → Sound b → (active : Bool) (n : ℕ) → tick_block_times active n b ≡ jump_block active n b
unfolding tick_block_times
ticks_are_a_jump {b} s active zero = sym (unfold jump_block in ap (λ p. at_position p b) (sym ((block_demand3 s active).formula 0) ∙ (unfold ticked in refl)))
ticks_are_a_jump s active (suc n) = ap (tick_block active) (ticks_are_a_jump s active n) ∙ tick_after s active n

pub tick_sound : {b : Block} → Sound b → (active : Bool) → Sound (tick_block active b)
unfolding tick_block_times
tick_sound s active = rw (ticks_are_a_jump s active 1) (jump_sound s active 1)

pub jumps_add : {b : Block} → Sound b → (active : Bool) (m n : ℕ) → jump_block active n (jump_block active m b) ≡ jump_block active (m + n) b
unfolding jump_block target_position target_of input_of
jumps_add {b} s active m n = ap (λ p. at_position p b) ((block_demand3 s active).jumps m n)
