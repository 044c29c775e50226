-- Demand 3, of a device d.
use Rattle.std.specs.Prelude.{true, ◌≢◌, ◌≡◌, ℕ, ◌+◌, ◌≤◌, ◌<◌, ℤ, pos, if◌then◌else◌}
use Rattle.ramp.specs.Ramp.{position_after}
use Rattle.block.specs.Target.{target_position}
use Rattle.block.specs.Travel.{ramp_of}
use Rattle.device.specs.States.{driven}
use Rattle.device.specs.Device.{is_active}
use Rattle.device.specs.Events.{tick_device_times, jump_device}
use Rattle.device.specs.Queries.{device_ticks_to_go}
use Rattle.device.specs.declared.Device.{Device}

-- the target position of a device
abbrev pub device_target_position : Device → ℤ
device_target_position d = target_position (is_active d) d.block

-- the closed formula for n ticks: 0 in DISABLED and FAULT
unfoldable pub device_position_after : ℕ → Device → ℤ
device_position_after n d =
    if driven d.state then position_after (ramp_of d.block) (device_target_position d) d.block.position n
    else pos 0

pub record Demand3 (d : Device) : Type 0 where
  -- n single ticks are a jump of n, state for state
  pub ticks : (n : ℕ) → tick_device_times n d ≡ jump_device n d
  -- the position after n ticks is the closed formula's
  pub formula : (n : ℕ) → (tick_device_times n d).block.position ≡ device_position_after n d
  -- a jump of m and then one of n is a jump of m + n
  pub jumps : (m n : ℕ) → jump_device n (jump_device m d) ≡ jump_device (m + n) d
  -- in HOLD and ACTIVE the target is met at the tick that the formula names, and kept
  pub kept : driven d.state ≡ true → (n : ℕ) → device_ticks_to_go d ≤ n → device_position_after n d ≡ device_target_position d
  -- and not met before
  pub first : driven d.state ≡ true → (n : ℕ) → n < device_ticks_to_go d → device_position_after n d ≢ device_target_position d
  -- it is met at tick 7,206,322 at the latest
  pub latest : device_ticks_to_go d ≤ 7206322
