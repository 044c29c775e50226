-- What each call's result is fixed to be, in every case: the refusal or the value, the device, and every byte of each lent buffer.
use Rattle.std.specs.Prelude.{List, ◌≡◌, ℕ, ◌+◌, ℤ, pos, length, Result}
use Rattle.device.specs.Device.{fresh_device}
use Rattle.device.specs.Queries.{status_of, device_target, device_command, device_ticks_to_go}
use Rattle.device.specs.declared.Device.{Device}
use Rattle.device.specs.declared.refusal.Refusal.{Refusal}
use Rattle.sdo.specs.declared.Answer.{Answer}
use Rattle.rainsheave.specs.Calls.{Report, Settled, sdo_answer, sdo_settled, sdo_room, control_answer, fault_answer, tick_answer, jump_answer, query_answer}
use Rattle.rainsheave.specs.Calls.{receive_answer, send_answer, send_room, store_answer, store_room, load_answer}
use Rattle.image.specs.Walk.{walk, part_of, begin_of, code_of}
use Rattle.rainsheave.specs.declared.Change.{Change}

-- `fresh`
pub record FreshIs (r : Device) : Type 0 where
  pub result : r ≡ fresh_device

-- `settle` of a request, with the room for the reply before and after
pub record SettleIs (d : Device) (request before after : List ℕ) (r : Settled) : Type 0 where
  pub result : r ≡ sdo_settled d request (length before)
  pub bytes : after ≡ sdo_room d request before

-- `sdo` of a request, with the room for the reply before and after
pub record SdoIs (d : Device) (request before after : List ℕ) (r : Answer) : Type 0 where
  pub result : r ≡ sdo_answer d request (length before)
  pub bytes : after ≡ sdo_room d request before

-- `control` by a word
pub record ControlIs (d : Device) (word : ℕ) (r : Change) : Type 0 where
  pub result : r ≡ control_answer d word

-- `fault` with a code
pub record FaultIs (d : Device) (code : ℕ) (r : Change) : Type 0 where
  pub result : r ≡ fault_answer d code

-- `tick`
pub record TickIs (d : Device) (r : Change) : Type 0 where
  pub result : r ≡ tick_answer d

-- `jump` of n ticks
pub record JumpIs (d : Device) (n : ℕ) (r : Change) : Type 0 where
  pub result : r ≡ jump_answer d n

-- `state`
pub record StateIs (d : Device) (r : Result ℤ Refusal) : Type 0 where
  pub result : r ≡ query_answer d (pos d.state)

-- `status`: the status word
pub record StatusIs (d : Device) (r : Result ℤ Refusal) : Type 0 where
  pub result : r ≡ query_answer d (pos (status_of d))

-- `error`: the error code
pub record ErrorIs (d : Device) (r : Result ℤ Refusal) : Type 0 where
  pub result : r ≡ query_answer d (pos d.error)

-- `position` of the selected block, in 1/65,536 ir
pub record PositionIs (d : Device) (r : Result ℤ Refusal) : Type 0 where
  pub result : r ≡ query_answer d d.block.position

-- `target`, in ir
pub record TargetIs (d : Device) (r : Result ℤ Refusal) : Type 0 where
  pub result : r ≡ query_answer d (device_target d)

-- `command`, in ir
pub record CommandIs (d : Device) (r : Result ℤ Refusal) : Type 0 where
  pub result : r ≡ query_answer d (device_command d)

-- `ticks_to_go`
pub record TicksToGoIs (d : Device) (r : Result ℤ Refusal) : Type 0 where
  pub result : r ≡ query_answer d (pos (device_ticks_to_go d))

-- `receive` of a PDO
pub record ReceiveIs (d : Device) (pdo : List ℕ) (r : Change) : Type 0 where
  pub result : r ≡ receive_answer d pdo

-- `send`, with the room for the PDO before and after
pub record SendIs (d : Device) (before after : List ℕ) (r : Result ℕ Refusal) : Type 0 where
  pub result : r ≡ send_answer d (length before)
  pub bytes : after ≡ send_room d before

-- `store` of the position block's settings, with the room for the image before and after
pub record StoreIs (d : Device) (before after : List ℕ) (r : Report) : Type 0 where
  pub result : r ≡ store_answer d (length before)
  pub bytes : after ≡ store_room d before

-- `load` of an image
pub record LoadIs (d : Device) (image : List ℕ) (r : Change) : Type 0 where
  pub result : r ≡ load_answer d image

-- `find` of a tag in an image that stands at a place of a block of memory: the part's bytes, and that it is that part of the caller's slice
pub record FindIs {P : Type 0} (image : List ℕ) (tag : ℕ) (memory : P) (place : ℕ) (part : List ℕ) (memory' : P) (place' : ℕ) : Type 0 where
  pub bytes : part ≡ part_of image (walk image tag)
  pub same : memory' ≡ memory
  pub begins : place' ≡ place + begin_of (walk image tag)

-- `find_code`: the number of that search
pub record FindCodeIs (image : List ℕ) (tag r : ℕ) : Type 0 where
  pub result : r ≡ code_of (walk image tag)
