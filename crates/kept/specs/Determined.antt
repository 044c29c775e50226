-- Every call's result is determined: two results that meet its contract, on the same arguments, are equal, and so are
-- the bytes that they leave.
use Rattle.std.specs.Prelude.{List, ◌≡◌, ℕ, ℤ, Result}
use Rattle.device.specs.declared.Device.{Device}
use Rattle.device.specs.declared.refusal.Refusal.{Refusal}
use Rattle.sdo.specs.declared.Answer.{Answer}
use Rattle.rainsheave.specs.declared.Change.{Change}
use Rattle.rainsheave.specs.Calls.{Settled, Report}
use Rattle.rainsheave.specs.Fixed.{FreshIs, SdoIs, SettleIs, ControlIs, FaultIs, TickIs, JumpIs, ReceiveIs, SendIs}
use Rattle.rainsheave.specs.Fixed.{StoreIs, LoadIs, FindIs, FindCodeIs}
use Rattle.rainsheave.specs.Fixed.{StateIs, StatusIs, ErrorIs, PositionIs, TargetIs, CommandIs, TicksToGoIs}

pub record Determined : Type 1 where
  pub fresh : {r s : Device} → FreshIs r → FreshIs s → r ≡ s
  pub sdo :
      {d : Device} {request before after after' : List ℕ} {r s : Answer} →
      SdoIs d request before after r → SdoIs d request before after' s → (r ≡ s) × (after ≡ after')
  pub settle :
      {d : Device} {request before after after' : List ℕ} {r s : Settled} →
      SettleIs d request before after r → SettleIs d request before after' s → (r ≡ s) × (after ≡ after')
  pub control : {d : Device} {word : ℕ} {r s : Change} → ControlIs d word r → ControlIs d word s → r ≡ s
  pub fault : {d : Device} {code : ℕ} {r s : Change} → FaultIs d code r → FaultIs d code s → r ≡ s
  pub tick : {d : Device} {r s : Change} → TickIs d r → TickIs d s → r ≡ s
  pub jump : {d : Device} {n : ℕ} {r s : Change} → JumpIs d n r → JumpIs d n s → r ≡ s
  pub state : {d : Device} {r s : Result ℤ Refusal} → StateIs d r → StateIs d s → r ≡ s
  pub status : {d : Device} {r s : Result ℤ Refusal} → StatusIs d r → StatusIs d s → r ≡ s
  pub error : {d : Device} {r s : Result ℤ Refusal} → ErrorIs d r → ErrorIs d s → r ≡ s
  pub position : {d : Device} {r s : Result ℤ Refusal} → PositionIs d r → PositionIs d s → r ≡ s
  pub target : {d : Device} {r s : Result ℤ Refusal} → TargetIs d r → TargetIs d s → r ≡ s
  pub command : {d : Device} {r s : Result ℤ Refusal} → CommandIs d r → CommandIs d s → r ≡ s
  pub ticks_to_go : {d : Device} {r s : Result ℤ Refusal} → TicksToGoIs d r → TicksToGoIs d s → r ≡ s
  pub receive : {d : Device} {pdo : List ℕ} {r s : Change} → ReceiveIs d pdo r → ReceiveIs d pdo s → r ≡ s
  pub send :
      {d : Device} {before after after' : List ℕ} {r s : Result ℕ Refusal} →
      SendIs d before after r → SendIs d before after' s → (r ≡ s) × (after ≡ after')
  pub store :
      {d : Device} {before after after' : List ℕ} {r s : Report} →
      StoreIs d before after r → StoreIs d before after' s → (r ≡ s) × (after ≡ after')
  pub load : {d : Device} {image : List ℕ} {r s : Change} → LoadIs d image r → LoadIs d image s → r ≡ s
  -- the same bytes at the same place of the same block of memory: the same part of the caller's slice
  pub find :
      {P : Type 0} {image : List ℕ} {tag : ℕ} {memory : P} {place : ℕ} {part part' : List ℕ} {m m' : P} {k k' : ℕ} →
      FindIs image tag memory place part m k → FindIs image tag memory place part' m' k' →
      (part ≡ part') × (m ≡ m') × (k ≡ k')
  pub find_code : {image : List ℕ} {tag r s : ℕ} → FindCodeIs image tag r → FindCodeIs image tag s → r ≡ s
  -- and so is each result whose contract is a plain equation, as those of `number_of_report`, `number_of_outcome`,
  -- `read_request` and `write_request`
  pub equation : {A : Type 0} {due r s : A} → r ≡ due → s ≡ due → r ≡ s
