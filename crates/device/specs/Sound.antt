-- Document 01, "Numbers handed back", with wishes 2, 4 and 6 of document 02: what makes a state sound.
use Rattle.std.specs.Prelude.{Bool, true, not, ◌&&◌, ◌||◌, ◌≡◌, ℕ, pos, if◌then◌else◌}
use Rattle.integers.specs.Words.{◌is◌, ◌=?◌}
use Rattle.objects.specs.Places.{POSITION, PRESSURE}
use Rattle.block.specs.Sound.{sound_block}
use Rattle.mapping.specs.Sound.{sound_maps}
use Rattle.dither.specs.Sound.{sound_dither}
use Rattle.device.specs.States.{DISABLED, HOLD, ACTIVE, FAULT, driven}
use Rattle.device.specs.declared.Device.{Device}

-- one of the four device states
unfoldable pub is_a_state : ℕ → Bool
is_a_state state = state is DISABLED || state is HOLD || state is ACTIVE || state is FAULT

-- an error code other than 0 exactly in FAULT
unfoldable pub error_fits : ℕ → ℕ → Bool
error_fits state error = if state is FAULT then not (error is 0) else error is 0

-- position 0 and phase 0 in DISABLED and FAULT
unfoldable pub rests : Device → Bool
rests d = driven d.state || (d.block.position =? pos 0 && d.dither.phase is 0)

-- one of the two blocks is selected, and the other one is at position 0
unfoldable pub selection_fits : Device → Bool
selection_fits d = (d.selected is POSITION || d.selected is PRESSURE) && d.other.position =? pos 0

-- one of the four states, with a fitting error code, at rest where it must be, one block selected, with two sound blocks, a sound dither
-- and sound maps
unfoldable pub sound_device : Device → Bool
sound_device d =
    (is_a_state d.state && error_fits d.state d.error) && rests d
    && selection_fits d && (sound_block d.block && sound_block d.other) && sound_dither d.dither && sound_maps d.maps

-- what the functions of a device ask
pub record Sound (d : Device) : Type 0 where
  pub sound : sound_device d ≡ true
