-- Document 01, "Numbers handed back": what makes a state sound, as far as it speaks of a block.
use Rattle.std.specs.Prelude.{Bool, true, ◌&&◌, List, ◌≡◌, ℤ, pos, length}
use Rattle.integers.specs.Words.{minus, each, ◌≤?◌, ◌is◌}
use Rattle.objects.specs.Numbers.{FULL_POSITION}
use Rattle.objects.specs.Places.{SETTINGS, SET_POINT, UPPER_LIMIT, LOWER_LIMIT}
use Rattle.objects.specs.Table.{row_at, lies_in, in_row}
use Rattle.block.specs.Block.{at}
use Rattle.block.specs.declared.Block.{Block}

-- so many settings, each in its row's range, the lower limit not above the upper
unfoldable pub sound_settings : List ℤ → Bool
sound_settings settings =
    length settings is SETTINGS
    && each SETTINGS (λ place. in_row (row_at place) (at settings place))
    && at settings LOWER_LIMIT ≤? at settings UPPER_LIMIT

-- a position within full stroke, and a set point in its row's range
abbrev pub placed : Block → Bool
placed b = lies_in (minus FULL_POSITION) (pos FULL_POSITION) b.position && in_row (row_at SET_POINT) b.setpoint

-- and sound settings
unfoldable pub sound_block : Block → Bool
sound_block b = placed b && sound_settings b.settings

-- what the functions of a block ask
pub record Sound (b : Block) : Type 0 where
  pub sound : sound_block b ≡ true
