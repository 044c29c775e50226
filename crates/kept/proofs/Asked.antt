-- What can be asked of a sound device is what the rules say of what is told: target, status word and command are the same words of the
-- chain of the selected block.
use mathlib.Core.Path.{◌≡◌, refl, ap, ◌∙◌}
use Prim.Native.Nat.{ℕ, ◌≤◌}
use native.Mathlib.Omega.{arith}
use Rattle.objects.specs.Places.{DITHER_TYPE, DITHER_AMPLITUDE, DITHER_FREQUENCY, POSITION, PRESSURE}
use Rattle.objects.specs.Table.{objects, row_at}
use Rattle.objects.specs.Lookup.{index_of}
use Rattle.block.specs.Target.{input_of, clamp_to, clamp_to_stroke, scaled_by, target_from, target_of, target_position}
use Rattle.block.specs.Command.{whole_of, banded, banded_by, banded_of, command_of}
use Rattle.dither.specs.Dither.{stands_at}
use Rattle.dither.specs.Wave.{square, height, triangle, dither_of}
use Rattle.device.specs.States.{driven}
use Rattle.device.specs.Queries.{target_met, status_of, device_target, device_command}
use Rattle.device.specs.Sound.{Sound}
use Rattle.device.specs.declared.Device.{Device}
use Rattle.device.proofs.Laws.{selected_most}
use Rattle.dictionary.specs.Values.{value_at}
use Rattle.dictionary.proofs.Laws.{each_object_is_named}
use Rattle.promises.specs.Valve.{clamp, target, status, dither, whole, command}
use Rattle.promises.specs.Valve as Valve
use Rattle.kept.specs.Ours.{told_of}
use Rattle.kept.proofs.Plain.{held_by, plain_told, sound_told, held_told, chain}

-- ---- the dither's values

module _ (d : Device) where
  held_dither : (place : ℕ) → DITHER_TYPE ≤ place → place ≤ DITHER_FREQUENCY → held_by d (index_of POSITION place) (row_at place).sub ≡ value_at d POSITION place
  held_dither place l h =
      held_told d (index_of POSITION place) (row_at place).sub POSITION place
      (each_object_is_named (record { row = omega arith; block = omega arith; own = λ e. absurd (omega (arith, e)) })) (omega arith)

  pub dither_type : held_by d 0x6360 0 ≡ d.dither.kind
  unfolding objects
  dither_type = held_dither DITHER_TYPE (omega arith) (omega arith) ∙ (unfold value_at stands_at in refl)

  pub dither_amplitude : held_by d 0x6361 1 ≡ d.dither.amplitude
  unfolding objects
  dither_amplitude = held_dither DITHER_AMPLITUDE (omega arith) (omega arith) ∙ (unfold value_at stands_at in refl)

  pub dither_frequency : held_by d 0x6362 1 ≡ d.dither.frequency
  unfolding objects
  dither_frequency = held_dither DITHER_FREQUENCY (omega arith) (omega arith) ∙ (unfold value_at stands_at in refl)

-- ---- target, status word and command

module _ (d : Device) (h : d.selected ≤ PRESSURE) where
  pub target_plain : target (plain_told d) ≡ device_target d
  unfolding target clamp device_target target_of target_from clamp_to clamp_to_stroke scaled_by input_of
  target_plain =
      let c = chain d h in
      rw (c.set_point, c.hold_set_point, c.upper_limit, c.lower_limit, c.factor, c.offset, c.correction)

  status_plain : status (plain_told d) ≡ status_of d
  unfolding status status_of target_met target_position device_target
  status_plain = rw target_plain

  dither_plain : dither (plain_told d) ≡ dither_of d.dither
  unfolding dither Valve.height dither_of square height triangle
  dither_plain = rw (dither_type d, dither_amplitude d)

  banded_plain : Valve.banded (plain_told d) ≡ banded_of d.block
  unfolding Valve.banded whole banded_of banded_by banded whole_of
  banded_plain = let c = chain d h in rw (c.band_type, c.threshold, c.a_side, c.b_side)

  command_plain : command (plain_told d) ≡ device_command d
  unfolding command clamp device_command command_of clamp_to_stroke clamp_to driven
  command_plain = rw (dither_plain, banded_plain)

module _ {d : Device} (s : Sound d) where
  pub targets : target (told_of d) ≡ device_target d
  targets = ap target (sound_told s) ∙ target_plain d (selected_most s)

  pub statuses : status (told_of d) ≡ status_of d
  statuses = ap status (sound_told s) ∙ status_plain d (selected_most s)

  pub commands : command (told_of d) ≡ device_command d
  commands = ap command (sound_told s) ∙ command_plain d (selected_most s)
