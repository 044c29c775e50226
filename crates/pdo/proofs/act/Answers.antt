-- The two bytes from the place on are those of the write, and each arm does what the write to its object does. What no arm takes is the last of the table.
use Rattle.std.proofs.Common.{◌≡◌, ap, ◌∙◌, ℕ, ◌+◌, ◌%◌, ◌<◌, arith, List, drop, true}
use Rattle.std.proofs.Math.Seq.{get_or-drop}
use Rattle.integers.proofs.Machine.{result_told}
use Rattle.coding.specs.Bytes.{byte_at, two_of, four_of}
use Rattle.coding.specs.Coding.{value_of}
use Rattle.mapping.proofs.Sound.{one_of_three}
use Rattle.pdo.specs.Receive.{data_in}
use Rattle.pdo.proofs.Objects.{low_two, word_acted, set_point_acted, hold_set_point_acted}
use Rattle.pdo.proofs.act.Goals as goal

module _ (bytes : List ℕ) (at : ℕ) where
  from_place : data_in (drop at bytes) ≡ four_of (byte_at bytes at) (byte_at bytes (at + 1)) (byte_at bytes (at + 2)) (byte_at bytes (at + 3))
  from_place = let none : at + 0 ≡ at = omega arith in rw (get_or-drop at bytes 0 0, get_or-drop at bytes 1 0, get_or-drop at bytes 2 0, get_or-drop at bytes 3 0, none)

  word_there : byte_at bytes at < 256 → byte_at bytes (at + 1) < 256 → data_in (drop at bytes) % 65536 ≡ two_of (byte_at bytes at) (byte_at bytes (at + 1))
  word_there h k = ap (λ (n : ℕ). n % 65536) from_place ∙ omega arith

  value_there : value_of 2 true (data_in (drop at bytes)) ≡ value_of 2 true (two_of (byte_at bytes at) (byte_at bytes (at + 1)))
  value_there =
      let two : four_of (byte_at bytes at) (byte_at bytes (at + 1)) 0 0 ≡ two_of (byte_at bytes at) (byte_at bytes (at + 1)) = omega arith in
      ap (value_of 2 true) from_place ∙ low_two true (byte_at bytes at) (byte_at bytes (at + 1)) _ _ ∙ ap (value_of 2 true) two

pub returns-in-1614807056 : goal.returns-in-1614807056
returns-in-1614807056 c =
    let bytes = c.args.pdo.now in
    let one : byte_at bytes c.args.at < 256 = rw (← c.byte_at.ensures) c.byte_at.type_inv in
    let two : byte_at bytes (c.args.at + 1) < 256 = rw (← c.byte_at-2.ensures) c.byte_at-2.type_inv in
    c.control.ensures ∙ rw (c.in-1614807056.is, word_acted, word_there bytes c.args.at one two, c.two_of-number.ensures, c.byte_at-2.ensures, c.byte_at.ensures)

pub returns-in-1660944656 : goal.returns-in-1660944656
returns-in-1660944656 c =
    let value = result_told c.value_of-value.type_inv c.value_of-value.ensures in
    c.with_block_of.ensures
    ∙ simp (c.with_setpoint.ensures, c.block_of-block.ensures, value, c.two_of-number.ensures, c.byte_at.ensures, c.byte_at-2.ensures, c.in-1660944656.is, set_point_acted, value_there c.args.pdo.now c.args.at)

pub returns-in_default : goal.returns-in_default
returns-in_default c =
    let value = result_told c.value_of-value.type_inv c.value_of-value.ensures in
    let last : c.args.entry ≡ 0x63140110 = one_of_three 0x60400010 0x63000110 0x63140110 c.args.entry c.requires.mapped (λ e. absurd (omega arith)) (λ e. absurd (omega arith)) (λ e. e) in
    c.with_block_of-in_default.ensures
    ∙ simp (c.with_setting-block.ensures, c.block_of-block-in_default.ensures, value, c.two_of-number.ensures, c.byte_at.ensures, c.byte_at-2.ensures, last, hold_set_point_acted, value_there c.args.pdo.now c.args.at)
