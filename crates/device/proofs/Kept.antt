-- Control words, faults, ticks and jumps change no setting, no set point, nothing of the block that is not selected, no map and of the dither nothing but the phase. So whenever a device is back in a state, its target is what it was: no change of state can add a correction again.
use mathlib.Core.Path.{◌≡◌, refl, ◌∙◌}
use Prim.Native.Nat.{ℕ}
use lib.Dec.{eqb}
use Rattle.integers.specs.Words.{◌is◌}
use Rattle.integers.proofs.Cases.{by_cases, by_test}
use Rattle.block.specs.declared.Block.{Block}
use Rattle.block.specs.Travel.{tick_block, jump_block}
use Rattle.block.proofs.Laws.{target_depends}
use Rattle.dither.specs.Dither.{at_phase}
use Rattle.dither.specs.Phase.{tick_dither, jump_dither}
use Rattle.dither.specs.declared.Dither.{Dither}
use Rattle.device.specs.States.{FAULT, next_state, driven}
use Rattle.device.specs.Device.{block_of, is_active}
use Rattle.device.specs.Events.{block_in, dither_in, entering, controlled, reported, faulted, tick_device, jump_device}
use Rattle.device.specs.Queries.{device_target}
use Rattle.device.specs.Kept.{SameSettings}
use Rattle.device.specs.declared.Device.{Device}

pub same : {d : Device} → SameSettings d d
same = record { selected = refl; other = refl; settings = refl; setpoint = refl; maps = refl; dither = refl }

pub then_same : {d e f : Device} → SameSettings d e → SameSettings e f → SameSettings d f
then_same p q = record { selected = p.selected ∙ q.selected; other = p.other ∙ q.other; settings = p.settings ∙ q.settings; setpoint = p.setpoint ∙ q.setpoint; maps = p.maps ∙ q.maps; dither = p.dither ∙ q.dither }

-- each of the two blocks has the same settings and the same set point then
pub same_block : {d e : Device} → SameSettings d e → (which : ℕ) → ((block_of which d).settings ≡ (block_of which e).settings) × ((block_of which d).setpoint ≡ (block_of which e).setpoint)
unfolding block_of
same_block {d} {e} s which =
    by_cases (e.selected is which)
    (λ t. (rw (s.selected, t) s.settings, rw (s.selected, t) s.setpoint))
    (λ t. (rw (s.selected, t, s.other), rw (s.selected, t, s.other)))

-- ---- each event

pub entering_keeps : (state : ℕ) (d : Device) → SameSettings (entering state d) d
unfolding entering block_in dither_in
entering_keeps state d =
    record {
      selected = refl;
      other = refl;
      settings = by_test (λ (b : Block). b.settings ≡ d.block.settings) (driven state) (λ e. refl) (λ e. refl);
      setpoint = by_test (λ (b : Block). b.setpoint ≡ d.block.setpoint) (driven state) (λ e. refl) (λ e. refl);
      maps = refl;
      dither = by_test (λ (h : Dither). at_phase 0 h ≡ at_phase 0 d.dither) (driven state) (λ e. refl) (λ e. refl);
    }

pub controlled_keeps : (word : ℕ) (d : Device) → SameSettings (controlled word d) d
unfolding controlled
controlled_keeps word d = let k = entering_keeps (next_state d.state d.control word) d in record { selected = k.selected; other = k.other; settings = k.settings; setpoint = k.setpoint; maps = k.maps; dither = k.dither }

pub faulted_keeps : (code : ℕ) (d : Device) → SameSettings (faulted code d) d
unfolding faulted reported
faulted_keeps code d = then_same (entering_keeps FAULT (reported code d)) (by_test (λ e. SameSettings e d) (eqb d.state FAULT) (λ e. same) (λ e. record { selected = refl; other = refl; settings = refl; setpoint = refl; maps = refl; dither = refl }))

pub tick_keeps : (d : Device) → SameSettings (tick_device d) d
unfolding tick_device tick_block tick_dither
tick_keeps d = by_test (λ e. SameSettings e d) (driven d.state) (λ e. record { selected = refl; other = refl; settings = refl; setpoint = refl; maps = refl; dither = refl }) (λ e. same)

pub jump_keeps : (n : ℕ) (d : Device) → SameSettings (jump_device n d) d
unfolding jump_device jump_block jump_dither
jump_keeps n d = by_test (λ e. SameSettings e d) (driven d.state) (λ e. record { selected = refl; other = refl; settings = refl; setpoint = refl; maps = refl; dither = refl }) (λ e. same)

-- ---- the target

-- the target depends on the settings, the set point and the state
pub device_target_depends : {d e : Device} → SameSettings d e → d.state ≡ e.state → device_target d ≡ device_target e
unfolding device_target
device_target_depends {d} {e} s h = rw h (target_depends (is_active e) d.block e.block s.settings s.setpoint)
