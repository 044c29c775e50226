-- A sound block by its parts, both ways: each setting in its row's range, the limits uncrossed, set point and position in range.
use mathlib.Core.Bool.{Bool, true, ◌&&◌}
use mathlib.Core.Path.{◌≡◌, refl}
use mathlib.Core.List.{List}
use Prim.Native.Nat.{ℕ, ◌<◌}
use native.Mathlib.Omega.{arith}
use borrow.Author.Tests.{eqb-true, eq-eqb}
use lib.Dec.{eqb}
use lib.IntN.{ℤ, pos}
use lib.ListN.{length}
use lib.Signed.{le_z, ◌≤ℤ◌}
use Rattle.integers.specs.Words.{minus, each}
use Rattle.integers.specs.Range.{Within}
use Rattle.integers.proofs.Linear.{ints}
use Rattle.integers.proofs.Each.{and_split, and_both, each_at, each_all}
use Rattle.objects.specs.Numbers.{FULL_POSITION}
use Rattle.objects.specs.Places.{SETTINGS, SET_POINT, UPPER_LIMIT, LOWER_LIMIT}
use Rattle.objects.specs.Table.{objects, row_at, lies_in, in_row, InRange}
use Rattle.objects.proofs.Rules.{lies_within, within_lies}
use Rattle.block.specs.Block.{at, with_setpoint, with_settings, at_position, fresh_block}
use Rattle.block.specs.Sound.{sound_settings, sound_block, Sound}
use Rattle.block.specs.declared.Block.{Block}

-- ---- the settings

pub record SettingsParts (s : List ℤ) : Type 0 where
  pub long : length s ≡ SETTINGS
  pub ranged : (place : ℕ) → place < SETTINGS → InRange place (at s place)
  pub uncrossed : at s LOWER_LIMIT ≤ℤ at s UPPER_LIMIT

abbrev ranged_at : List ℤ → ℕ → Bool
ranged_at s place = in_row (row_at place) (at s place)

pub settings_parts : (s : List ℤ) → sound_settings s ≡ true → SettingsParts s
unfolding sound_settings
settings_parts s e =
    let outer = and_split (eqb (length s) SETTINGS && each SETTINGS (ranged_at s)) (le_z (at s LOWER_LIMIT) (at s UPPER_LIMIT)) e in
    let inner = and_split (eqb (length s) SETTINGS) (each SETTINGS (ranged_at s)) outer.0 in
    record {
      long = eqb-true (length s) SETTINGS inner.0;
      ranged = λ place h. lies_within _ _ _ (each_at SETTINGS (ranged_at s) place inner.1 h);
      uncrossed = omega (arith, ints);
    }

pub settings_from_parts : (s : List ℤ) → SettingsParts s → sound_settings s ≡ true
unfolding sound_settings
settings_from_parts s h =
    let uncrossed : le_z (at s LOWER_LIMIT) (at s UPPER_LIMIT) ≡ true = omega (arith, ints, h.uncrossed) in
    and_both (and_both (eq-eqb (length s) SETTINGS h.long) (each_all SETTINGS (ranged_at s) (λ place k. within_lies (h.ranged place k)))) uncrossed

-- ---- the block

pub record BlockParts (b : Block) : Type 0 where
  pub position : Within (minus FULL_POSITION) (pos FULL_POSITION) b.position
  pub setpoint : InRange SET_POINT b.setpoint
  pub settings : SettingsParts b.settings

pub block_parts : {b : Block} → Sound b → BlockParts b
unfolding sound_block
block_parts {b} e =
    let outer = and_split (lies_in (minus FULL_POSITION) (pos FULL_POSITION) b.position && in_row (row_at SET_POINT) b.setpoint) (sound_settings b.settings) e.sound in
    let inner = and_split (lies_in (minus FULL_POSITION) (pos FULL_POSITION) b.position) (in_row (row_at SET_POINT) b.setpoint) outer.0 in
    record { position = lies_within _ _ _ inner.0; setpoint = lies_within _ _ _ inner.1; settings = settings_parts b.settings outer.1 }

pub block_from_parts : {b : Block} → BlockParts b → Sound b
unfolding sound_block
block_from_parts {b} h =
    record { sound = and_both (and_both (within_lies h.position) (within_lies h.setpoint)) (settings_from_parts b.settings h.settings) }

-- ---- a block with a part that is sound is sound

module _ {b : Block} (s : Sound b) where
  pub at_position_sound : {p : ℤ} → Within (minus FULL_POSITION) (pos FULL_POSITION) p → Sound (at_position p b)
  at_position_sound h = let parts = block_parts s in block_from_parts (record { position = h; setpoint = parts.setpoint; settings = parts.settings })

  pub with_setpoint_sound : {x : ℤ} → InRange SET_POINT x → Sound (with_setpoint x b)
  with_setpoint_sound h = let parts = block_parts s in block_from_parts (record { position = parts.position; setpoint = h; settings = parts.settings })

  pub with_settings_sound : {l : List ℤ} → SettingsParts l → Sound (with_settings l b)
  with_settings_sound h = let parts = block_parts s in block_from_parts (record { position = parts.position; setpoint = parts.setpoint; settings = h })

-- the fresh block is sound, by computation
pub fresh_sound : Sound fresh_block
unfolding each objects lies_in sound_settings sound_block fresh_block
fresh_sound = record { sound = refl }
