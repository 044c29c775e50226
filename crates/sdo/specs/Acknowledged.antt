-- An acknowledged write: what the request asks, where the decision comes from, and the device then.
use Rattle.std.specs.Prelude.{◌≡◌, ℕ, ℤ, Ok}
use Rattle.device.specs.declared.Device.{Device}
use Rattle.dictionary.specs.Accept.{Origin}
use Rattle.dictionary.specs.Values.{written_to}
use Rattle.sdo.specs.Frames.{asks_of}
use Rattle.sdo.specs.Serve.{served}
use Rattle.sdo.specs.declared.Request.{Request}
use Rattle.sdo.specs.declared.Asks.TheVariants.{Writes}

-- a request that was answered by a write of a value to a place of a block
pub record Acknowledged (d : Device) (q : Request) : Type 0 where
  pub which : ℕ
  pub place : ℕ
  pub size : ℕ
  pub x : ℤ
  pub asks : asks_of q.command ≡ Ok (Writes size)
  pub origin : Origin d q.index q.sub size q.number which place x
  pub device : (served d q).device ≡ written_to which place x d
