-- What is told of a device whose arrays have their lengths, and the values of its selected block by their indexes in the position block:
-- each is the value that the index and the sub-index name.
use mathlib.Core.Bool.{true}
use mathlib.Core.Path.{◌≡◌, refl, ◌∙◌}
use Prim.Native.Nat.{ℕ, ◌≤◌, ◌<◌}
use native.Mathlib.Omega.{arith}
use borrow.Author.Tests.{lt-ltb}
use lib.IntN.{ℤ}
use Rattle.objects.specs.Places.{SETTINGS, SET_POINT, SELECTION, PRESSURE}
use Rattle.objects.specs.Table.{objects, row_at}
use Rattle.objects.specs.Lookup.{is_of_block, Object, index_of}
use Rattle.block.specs.Block.{setting}
use Rattle.block.specs.declared.Block.{Block}
use Rattle.block.proofs.Sound.{block_parts}
use Rattle.device.specs.Device.{block_of}
use Rattle.device.specs.Sound.{Sound}
use Rattle.device.specs.declared.Device.{Device}
use Rattle.device.proofs.Laws.{block_of_sound, other_of_sound, receive_parts, transmit_parts, selected_block}
use Rattle.dictionary.specs.Named.{value, named}
use Rattle.dictionary.specs.Values.{value_at}
use Rattle.dictionary.proofs.Laws.{each_object_is_named}
use Rattle.dictionary.proofs.Written.{value_of_setting}
use Rattle.promises.specs.Library.{Told}
use Rattle.promises.specs.Valve.{selected}
use Rattle.kept.specs.Ours.{held_at, is_whole, told_of}

-- ---- a device whose arrays have their lengths

pub whole_of : {d : Device} → Sound d → is_whole d ≡ true
whole_of {d} s =
    rw (
      (block_parts (block_of_sound s)).settings.long,
      (block_parts (other_of_sound s)).settings.long,
      (receive_parts s).long,
      (transmit_parts s).long,
    )

-- the values that are held by index and sub-index
abbrev pub held_by : Device → ℕ → ℕ → ℤ
held_by d index sub = held_at d (named index sub)

abbrev pub plain_told : Device → Told
plain_told d =
    record {
      state = d.state;
      control = d.control;
      error = d.error;
      selected = d.selected;
      position = d.block.position;
      other = d.other.position;
      phase = d.dither.phase;
      value = held_by d;
    }

pub plain_told_lem : (d : Device) → is_whole d ≡ true → told_of d ≡ plain_told d
unfolding told_of
plain_told_lem d w = rw w

-- a sound one
pub sound_told : {d : Device} → Sound d → told_of d ≡ plain_told d
sound_told {d} s = plain_told_lem d (whole_of s)

-- ---- values by their places

pub held_told : (d : Device) (index sub which place : ℕ) → named index sub ≡ value which place → place < SELECTION → held_by d index sub ≡ value_at d which place
held_told d index sub which place e h = rw (e, lt-ltb place SELECTION h)

-- a setting is an object of each block
pub setting_object : {which place : ℕ} → which ≤ PRESSURE → place < SETTINGS → Object which place
setting_object {which} {place} w h = record { row = omega arith; block = w; own = λ _. unfold is_of_block in rw (lt-ltb place SETTINGS h) }

pub set_point_object : {which : ℕ} → which ≤ PRESSURE → Object which SET_POINT
set_point_object w = record { row = omega arith; block = w; own = λ _. unfold is_of_block in refl }

pub held_setting : (d : Device) (which place : ℕ) → which ≤ PRESSURE → place < SETTINGS → held_by d (index_of which place) (row_at place).sub ≡ setting (block_of which d) place
held_setting d which place w h =
    held_told d (index_of which place) (row_at place).sub which place (each_object_is_named (setting_object w h)) (omega arith) ∙ value_of_setting d which place h

pub held_set_point : (d : Device) (which : ℕ) → which ≤ PRESSURE → held_by d (index_of which SET_POINT) (row_at SET_POINT).sub ≡ (block_of which d).setpoint
held_set_point d which w =
    held_told d (index_of which SET_POINT) (row_at SET_POINT).sub which SET_POINT (each_object_is_named (set_point_object w)) (omega arith) ∙ (unfold value_at in refl)

-- ---- the chain of the selected block

-- what is told of a block by its indexes
pub record Chain (t : Told) (b : Block) : Type 0 where
  pub set_point : selected t 0x6300 1 ≡ b.setpoint
  pub hold_set_point : selected t 0x6314 1 ≡ setting b 0
  pub upper_limit : selected t 0x6320 1 ≡ setting b 1
  pub lower_limit : selected t 0x6321 1 ≡ setting b 2
  pub factor : selected t 0x6322 0 ≡ setting b 3
  pub offset : selected t 0x6323 1 ≡ setting b 4
  pub correction : selected t 0x6324 1 ≡ setting b 5
  pub ramp_type : selected t 0x6330 0 ≡ setting b 6
  pub acceleration : selected t 0x6331 1 ≡ setting b 7
  pub acceleration_positive : selected t 0x6332 1 ≡ setting b 8
  pub acceleration_negative : selected t 0x6333 1 ≡ setting b 9
  pub deceleration : selected t 0x6334 1 ≡ setting b 10
  pub deceleration_positive : selected t 0x6335 1 ≡ setting b 11
  pub deceleration_negative : selected t 0x6336 1 ≡ setting b 12
  pub band_type : selected t 0x6342 0 ≡ setting b 13
  pub a_side : selected t 0x6343 1 ≡ setting b 14
  pub b_side : selected t 0x6344 1 ≡ setting b 15
  pub threshold : selected t 0x6345 1 ≡ setting b 16

pub chain : (d : Device) → d.selected ≤ PRESSURE → Chain (plain_told d) d.block
unfolding objects
chain d h =
    let at : (place : ℕ) → place < SETTINGS → held_by d (index_of d.selected place) (row_at place).sub ≡ setting d.block place =
    λ place k. held_setting d d.selected place h k ∙ rw (selected_block d) in
    record {
      set_point = held_set_point d d.selected h ∙ rw (selected_block d);
      hold_set_point = at 0 (omega arith);
      upper_limit = at 1 (omega arith);
      lower_limit = at 2 (omega arith);
      factor = at 3 (omega arith);
      offset = at 4 (omega arith);
      correction = at 5 (omega arith);
      ramp_type = at 6 (omega arith);
      acceleration = at 7 (omega arith);
      acceleration_positive = at 8 (omega arith);
      acceleration_negative = at 9 (omega arith);
      deceleration = at 10 (omega arith);
      deceleration_positive = at 11 (omega arith);
      deceleration_negative = at 12 (omega arith);
      band_type = at 13 (omega arith);
      a_side = at 14 (omega arith);
      b_side = at 15 (omega arith);
      threshold = at 16 (omega arith);
    }
