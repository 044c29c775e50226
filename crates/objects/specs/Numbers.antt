-- Document 01, "Numbers that stay fixed".
use Rattle.std.specs.Prelude.{ℕ, ◌*◌}

-- full stroke, in ir
abbrev pub FULL_STROKE : ℕ
FULL_STROKE = 16384

-- a position counts so many parts of an ir; the scaling factor that is one has so many too
abbrev pub PARTS : ℕ
PARTS = 65536

-- full stroke as a position
abbrev pub FULL_POSITION : ℕ
FULL_POSITION = FULL_STROKE * PARTS
