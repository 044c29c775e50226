-- What control words, faults, ticks and jumps leave as it is.
use Rattle.std.specs.Prelude.{◌≡◌}
use Rattle.dither.specs.Dither.{at_phase}
use Rattle.device.specs.declared.Device.{Device}

-- two devices with the same block selected, the same settings and set point of it, the same other block, maps and, but for its phase, dither
pub record SameSettings (d e : Device) : Type 0 where
  pub selected : d.selected ≡ e.selected
  pub other : d.other ≡ e.other
  pub settings : d.block.settings ≡ e.block.settings
  pub setpoint : d.block.setpoint ≡ e.block.setpoint
  pub maps : d.maps ≡ e.maps
  pub dither : at_phase 0 d.dither ≡ at_phase 0 e.dither
