-- What the functions of the service ask of what they are handed.
use Rattle.std.specs.Prelude.{true, List, ◌≡◌, ℕ, ◌≤◌, length}
use Rattle.sdo.specs.Frames.{FRAME, is_due}
use Rattle.sdo.specs.declared.Outcome.{Outcome}

-- the bytes of a request
pub record EightBytes (bytes : List ℕ) : Type 0 where
  pub long : length bytes ≡ FRAME

-- room for a reply
pub record ReplyRoom (room : List ℕ) : Type 0 where
  pub long : FRAME ≤ length room

-- an outcome to which a reply is due
pub record Due (outcome : Outcome) : Type 0 where
  pub due : is_due outcome ≡ true
