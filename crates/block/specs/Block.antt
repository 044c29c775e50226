-- A block's parts: its settings by their places in the object table, its set point and its position; the block with one of them changed; the fresh block.
use Rattle.std.specs.Prelude.{List, map, ℕ, ℤ, pos, get_or, set, take}
use Rattle.objects.specs.Places.{SETTINGS, SET_POINT}
use Rattle.objects.specs.Table.{objects, row_at}
use Rattle.block.specs.declared.Block.{Block}

-- the number at a place of a list of settings
abbrev pub at : List ℤ → ℕ → ℤ
at settings place = get_or settings place (pos 0)

-- the setting at a place of the table
abbrev pub setting : Block → ℕ → ℤ
setting b place = at b.settings place

-- the block at another position
abbrev pub at_position : ℤ → Block → Block
at_position position b = record { setpoint = b.setpoint; position = position; settings = b.settings }

-- the block with another set point
abbrev pub with_setpoint : ℤ → Block → Block
with_setpoint value b = record { setpoint = value; position = b.position; settings = b.settings }

-- the block with other settings
abbrev pub with_settings : List ℤ → Block → Block
with_settings settings b = record { setpoint = b.setpoint; position = b.position; settings = settings }

-- the block with another setting at a place
abbrev pub with_setting : ℕ → ℤ → Block → Block
with_setting place value b = with_settings (set b.settings place value) b

-- every setting and the set point as the table has it, at position 0
unfoldable pub fresh_block : Block
fresh_block =
    record {
      setpoint = (row_at SET_POINT).fresh;
      position = pos 0;
      settings = map (λ columns. columns.8) (take SETTINGS objects);
    }
