-- Demand 3 of a sound device, in all four states: not driven it rests at 0, and driven it is demand 3 of its block, beside which the dither goes by the law of its own ticks.
use mathlib.Core.Bool.{true, false}
use mathlib.Core.Path.{◌≡◌, refl, sym, ap, ◌∙◌}
use Prim.Native.Nat.{ℕ, zero, suc, ◌+◌}
use native.Mathlib.Omega.{arith}
use Rattle.integers.proofs.Cases.{by_cases}
use Rattle.block.specs.Travel.{tick_block_times, jump_block, ticks_to_go_of}
use Rattle.block.specs.declared.Block.{Block}
use Rattle.block.proofs.Travel.{block_demand3, ticks_are_a_jump, jumps_add}
use Rattle.dither.specs.Phase.{tick_dither_times, jump_dither}
use Rattle.dither.specs.declared.Dither.{Dither}
use Rattle.dither.proofs.Laws as DitherLaws
use Rattle.device.specs.States.{driven}
use Rattle.device.specs.Device.{with_block, with_dither, is_active}
use Rattle.device.specs.Events.{tick_device, tick_device_times, jump_device}
use Rattle.device.specs.Queries.{device_ticks_to_go}
use Rattle.device.specs.Sound.{Sound}
use Rattle.device.specs.Demand.{device_position_after, Demand3}
use Rattle.device.specs.declared.Device.{Device}
use Rattle.device.proofs.Laws.{block_of_sound, dither_of_sound, rests_at_zero}

-- ---- at rest

module _ (d : Device) (k : driven d.state ≡ false) where
  tick_rests : tick_device d ≡ d
  unfolding tick_device
  tick_rests = rw k

  jump_rests : (n : ℕ) → jump_device n d ≡ d
  unfolding jump_device
  jump_rests n = rw k

  ticks_rest : (n : ℕ) → tick_device_times n d ≡ d
  unfolding tick_device_times
  ticks_rest zero = refl
  ticks_rest (suc n) = ap tick_device (ticks_rest n) ∙ tick_rests

-- ---- driven

-- the device with another block and another dither
abbrev pub moved : Block → Dither → Device → Device
moved b h d = with_dither h (with_block b d)

module _ (d : Device) (k : driven d.state ≡ true) where
  pub jump_driven : (n : ℕ) → jump_device n d ≡ moved (jump_block (is_active d) n d.block) (jump_dither n d.dither) d
  unfolding jump_device
  jump_driven n = rw k

  ticks_driven : (n : ℕ) → tick_device_times n d ≡ moved (tick_block_times (is_active d) n d.block) (tick_dither_times n d.dither) d
  unfolding tick_device_times tick_block_times tick_dither_times tick_device
  ticks_driven zero = refl
  ticks_driven (suc n) = ap tick_device (ticks_driven n) ∙ rw k

-- ---- all states

module _ {d : Device} (s : Sound d) where
  ticks : (n : ℕ) → tick_device_times n d ≡ jump_device n d
  ticks n =
      by_cases (driven d.state)
      (λ k. ticks_driven d k n ∙ rw (ticks_are_a_jump (block_of_sound s) (is_active d) n, DitherLaws.ticks_are_a_jump (dither_of_sound s) n) (sym (jump_driven d k n)))
      (λ k. ticks_rest d k n ∙ sym (jump_rests d k n))

  formula : (n : ℕ) → (tick_device_times n d).block.position ≡ device_position_after n d
  unfolding device_position_after jump_block
  formula n =
      ap (λ e. e.block.position) (ticks n)
      ∙ by_cases (driven d.state)
      (λ k. ap (λ e. e.block.position) (jump_driven d k n) ∙ rw k)
      (λ k. ap (λ e. e.block.position) (jump_rests d k n) ∙ rw k (rests_at_zero s k))

  jumps : (m n : ℕ) → jump_device n (jump_device m d) ≡ jump_device (m + n) d
  jumps m n =
      by_cases (driven d.state)
      (λ k.
      ap (jump_device n) (jump_driven d k m)
      ∙ jump_driven (moved (jump_block (is_active d) m d.block) (jump_dither m d.dither) d) k n
      ∙ rw (jumps_add (block_of_sound s) (is_active d) m n, DitherLaws.jumps_add m n d.dither) (sym (jump_driven d k (m + n))))
      (λ k. ap (jump_device n) (jump_rests d k m) ∙ jump_rests d k n ∙ sym (jump_rests d k (m + n)))

  pub demand3 : Demand3 d
  unfolding device_position_after device_ticks_to_go ticks_to_go_of
  demand3 =
      let of_block = block_demand3 (block_of_sound s) (is_active d) in
      record {
        ticks = ticks;
        formula = formula;
        jumps = jumps;
        kept = λ k n h. rw k (of_block.kept n (rw k at h));
        first = λ k n h. rw k (of_block.first n (rw k at h));
        latest = by_cases (driven d.state) (λ k. rw k of_block.latest) (λ k. rw k (omega arith));
      }
