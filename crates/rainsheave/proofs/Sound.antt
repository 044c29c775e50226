-- A device that passes the test is sound; of its maps no more than four entries are counted, and each takes two bytes of a PDO.
use mathlib.Core.Bool.{Bool, true}
use mathlib.Core.Path.{◌≡◌, sym, ◌∙◌}
use Prim.Native.Nat.{◌*◌, ◌≤◌}
use Rattle.mapping.specs.Maps.{ENTRIES, RECEIVABLE, SENDABLE, map_length}
use Rattle.mapping.proofs.Sound.{received_of_two, sent_of_two, two_each}
use Rattle.device.specs.Sound.{sound_device, Sound}
use Rattle.device.specs.declared.Device.{Device}
use Rattle.device.proofs.Laws.{receive_parts, transmit_parts}

pub sound : {d : Device} {t : Bool} → t ≡ sound_device d → t ≡ true → Sound d
sound e h = record { sound = sym e ∙ h }

module _ {d : Device} (s : Sound d) where
  pub receive_few : d.maps.receive.count ≤ ENTRIES
  receive_few = (receive_parts s).few

  pub transmit_few : d.maps.transmit.count ≤ ENTRIES
  transmit_few = (transmit_parts s).few

  pub receive_length : map_length d.maps.receive ≡ 2 * d.maps.receive.count
  receive_length = two_each RECEIVABLE received_of_two (receive_parts s)

  pub transmit_length : map_length d.maps.transmit ≡ 2 * d.maps.transmit.count
  transmit_length = two_each SENDABLE sent_of_two (transmit_parts s)
