-- What a read that failed leaves in a room.
use Rattle.std.specs.Prelude.{Option, List, ℕ, ◌≤◌, length, take}
use Rattle.std.specs.Io.KnownBytes.{Consumes}

-- so many bytes at the start of a room are what the input lost
abbrev pub SomeRead : Option (List ℕ) → Option (List ℕ) → List ℕ → Type 0
SomeRead before after room = (n : ℕ) × (n ≤ length room) × Consumes before after (take n room)
