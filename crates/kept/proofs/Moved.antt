-- What a control word, a fault, a tick and a jump leave a sound device with is what the rules say of what was told: position, state, control
-- word, error code and phase are the rules', and of all else the same is told.
use Rattle.std.specs.Prelude.{if◌then◌else◌}
use mathlib.Core.Logic.{◌≢◌}
use mathlib.Core.Path.{◌≡◌, refl, sym, ap, ◌∙◌, fun_ext}
use Prim.Native.Nat.{ℕ, zero, suc, ◌+◌, ◌*◌, ◌/◌, ◌%◌, ◌≤◌, ◌<◌}
use native.Mathlib.Omega.{arith}
use borrow.Author.Tests.{ltb-true}
use lib.IntN.{ℤ, pos, nat_abs, ◌*ℤ◌}
use Rattle.integers.specs.Words.{◌is◌, ◌below◌}
use Rattle.integers.proofs.Cases.{by_cases}
use Rattle.objects.specs.Places.{SELECTION, PRESSURE}
use Rattle.block.specs.Block.{at_position}
use Rattle.block.specs.Target.{target_position}
use Rattle.block.specs.Travel.{ramp_of, tick_block, ticks_to_go_of}
use Rattle.dither.specs.Dither.{at_phase}
use Rattle.dither.specs.Dither as Dithers
use Rattle.dither.specs.Phase.{increment, advanced, tick_dither}
use Rattle.device.specs.States.{driven, next_state, from_disabled, from_hold, from_active, from_fault}
use Rattle.device.specs.Device.{with_control, block_of, is_active}
use Rattle.device.specs.Events.{block_in, dither_in, error_in, entering, reported, tick_device, tick_device_times, jump_device}
use Rattle.device.specs.Events as Events
use Rattle.device.specs.Queries.{device_target, device_ticks_to_go}
use Rattle.device.specs.Sound.{Sound}
use Rattle.device.specs.declared.Device.{Device}
use Rattle.device.proofs.Laws.{selected_most, controlled_sound, faulted_sound, tick_sound}
use Rattle.device.proofs.Travel.{demand3}
use Rattle.dictionary.specs.Named.{Named, value, byte, nothing, named}
use Rattle.dictionary.specs.Values.{value_at}
use Rattle.dictionary.proofs.Written.{by_target, value_of_setting}
use Rattle.dictionary.proofs.Maps.{value_of_dither, value_of_receive, value_of_transmit}
use Rattle.promises.specs.Library.{moved, holding}
use Rattle.promises.specs.Valve.{moved_to, entered, controlled, faulted}
use Rattle.promises.specs.Valve as Valve
use Rattle.kept.specs.Ours.{held_at, told_of}
use Rattle.kept.proofs.Plain.{held_by, plain_told, sound_told, chain}
use Rattle.kept.proofs.Asked.{dither_frequency, target_plain}
use Rattle.promises.proofs.Ramps.{ramp_told, ticked_is, to_go_is}

-- ---- the device with another position, state, control word, error code and phase

abbrev pub placed : Device → ℤ → ℕ → ℕ → ℕ → ℕ → Device
placed d p state control error phase =
    record {
      block = at_position p d.block;
      other = d.other;
      selected = d.selected;
      state = state;
      control = control;
      error = error;
      maps = d.maps;
      dither = at_phase phase d.dither;
    }

-- its blocks have the same settings and set points
module _ (d : Device) (p : ℤ) (state control error phase which : ℕ) where
  placed_settings : (block_of which (placed d p state control error phase)).settings ≡ (block_of which d).settings
  unfolding block_of
  placed_settings = by_cases (d.selected is which) (λ e. rw e) (λ e. rw e)

  placed_set_point : (block_of which (placed d p state control error phase)).setpoint ≡ (block_of which d).setpoint
  unfolding block_of
  placed_set_point = by_cases (d.selected is which) (λ e. rw e) (λ e. rw e)

-- so it holds the same values
module _ (d : Device) (p : ℤ) (state control error phase : ℕ) where
  placed_value : (which place : ℕ) → place < SELECTION → value_at (placed d p state control error phase) which place ≡ value_at d which place
  placed_value which place h =
      by_target place (omega arith)
      (λ l. rw (value_of_setting (placed d p state control error phase) which place l, value_of_setting d which place l, placed_settings d p state control error phase which))
      (λ m. rw (value_of_dither (placed d p state control error phase) which place m, value_of_dither d which place m) (unfold Dithers.stands_at in refl))
      (λ m. rw (value_of_receive (placed d p state control error phase) which place m, value_of_receive d which place m))
      (λ m. rw (value_of_transmit (placed d p state control error phase) which place m, value_of_transmit d which place m))
      (λ e. unfold value_at in rw (e, placed_set_point d p state control error phase which))
      (λ e. absurd (omega arith))
      (λ e. absurd (omega arith))

  placed_held : (n : Named) → held_at (placed d p state control error phase) n ≡ held_at d n
  placed_held (value which place) =
      by_cases (place below SELECTION) (λ e. rw e (placed_value which place (ltb-true place SELECTION e))) (λ e. rw e)
  placed_held (byte number) = refl
  placed_held (nothing abort) = refl

  pub placed_plain : plain_told (placed d p state control error phase) ≡ moved state control error p phase (plain_told d)
  placed_plain =
      let values : held_by (placed d p state control error phase) ≡ held_by d = fun_ext (λ index. fun_ext (λ sub. placed_held (named index sub))) in
      ap (λ (v : ℕ → ℕ → ℤ). moved state control error p phase (holding d.selected v (plain_told d))) values

-- ---- a control word and a fault

same_move : (state before word : ℕ) → next_state state before word ≡ moved_to state before word
unfolding next_state from_disabled from_hold from_active from_fault moved_to
same_move state before word = refl

-- as it enters a state
enters : (d : Device) (state control : ℕ) → with_control control (entering state d)
    ≡ placed d (if Valve.driven state then d.block.position else pos 0) state control (if state is 3 then d.error else 0)
    (if Valve.driven state then d.dither.phase else 0)
unfolding entering block_in dither_in error_in driven
enters d state control = by_cases (Valve.driven state) (λ e. rw e) (λ e. rw e)

module _ (d : Device) where
  control_plain : (word : ℕ) → plain_told (Events.controlled word d) ≡ controlled word (plain_told d)
  unfolding Events.controlled controlled entered
  control_plain word =
      let to = moved_to d.state d.control word in
      ap plain_told (ap (λ (n : ℕ). with_control word (entering n d)) (same_move d.state d.control word) ∙ enters d to word)
      ∙ placed_plain d _ to word _ _

  fault_plain : (code : ℕ) → plain_told (Events.faulted code d) ≡ faulted code (plain_told d)
  unfolding Events.faulted reported entering block_in dither_in error_in driven faulted entered
  fault_plain code =
      by_cases (d.state is 3)
      (λ e. rw e (placed_plain d (pos 0) 3 d.control d.error 0))
      (λ e. rw e (placed_plain d (pos 0) 3 d.control code 0))

module _ {d : Device} (s : Sound d) where
  pub control_told : (word : ℕ) → told_of (Events.controlled word d) ≡ controlled word (told_of d)
  control_told word = sound_told (controlled_sound s word) ∙ control_plain d word ∙ sym (ap (controlled word) (sound_told s))

  pub fault_told : (code : ℕ) → code ≢ 0 → told_of (Events.faulted code d) ≡ faulted code (told_of d)
  fault_told code n = sound_told (faulted_sound s code n) ∙ fault_plain d code ∙ sym (ap (faulted code) (sound_told s))

-- ---- ticks and jumps

module _ (d : Device) (h : d.selected ≤ PRESSURE) where
  ramp_plain : ramp_told (plain_told d) ≡ ramp_of d.block
  ramp_plain =
      let c = chain d h in
      rw (
        c.ramp_type,
        c.acceleration,
        c.acceleration_positive,
        c.acceleration_negative,
        c.deceleration,
        c.deceleration_positive,
        c.deceleration_negative,
      )

  goal_plain : Valve.target_position (plain_told d) ≡ target_position (is_active d) d.block
  unfolding target_position device_target
  goal_plain = ap (λ (x : ℤ). x *ℤ pos 65536) (target_plain d h)

  ticked_plain : Valve.ticked (plain_told d) ≡ (tick_block (is_active d) d.block).position
  unfolding tick_block
  ticked_plain = ticked_is (plain_told d) ∙ rw (ramp_plain, goal_plain)

  tick_plain : plain_told (tick_device d) ≡ Valve.tick (plain_told d)
  unfolding tick_device Valve.tick driven tick_block tick_dither advanced increment
  tick_plain =
      by_cases (Valve.driven d.state)
      (λ e. rw (e, ticked_plain, dither_frequency d)
      (placed_plain d (tick_block (is_active d) d.block).position d.state d.control d.error
      ((d.dither.phase + nat_abs d.dither.frequency * 4294967296 / 1000) % 4294967296)))
      (λ e. rw e)

  count_plain : Valve.ticks_to_go (plain_told d) ≡ device_ticks_to_go d
  unfolding device_ticks_to_go ticks_to_go_of driven
  count_plain =
      by_cases (Valve.driven d.state)
      (λ e. to_go_is (plain_told d) e ∙ rw (e, ramp_plain, goal_plain))
      (λ e. unfold Valve.ticks_to_go in rw e)

module _ {d : Device} (s : Sound d) where
  pub tick_told : told_of (tick_device d) ≡ Valve.tick (told_of d)
  tick_told = sound_told (tick_sound s) ∙ tick_plain d (selected_most s) ∙ sym (ap Valve.tick (sound_told s))

  pub counts : Valve.ticks_to_go (told_of d) ≡ device_ticks_to_go d
  counts = ap Valve.ticks_to_go (sound_told s) ∙ count_plain d (selected_most s)

times_sound : {d : Device} → Sound d → (n : ℕ) → Sound (tick_device_times n d)
unfolding tick_device_times
times_sound s zero = s
times_sound s (suc n) = tick_sound (times_sound s n)

times_told : {d : Device} → Sound d → (n : ℕ) → told_of (tick_device_times n d) ≡ Valve.ticks n (told_of d)
unfolding tick_device_times Valve.ticks
times_told s zero = refl
times_told s (suc n) = tick_told (times_sound s n) ∙ ap Valve.tick (times_told s n)

pub jump_told : {d : Device} → Sound d → (n : ℕ) → told_of (jump_device n d) ≡ Valve.ticks n (told_of d)
jump_told {d} s n = ap told_of (sym ((demand3 s).ticks n)) ∙ times_told s n
