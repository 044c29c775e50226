-- In an arm the place is known, and its branch of the definition computes; what is written as a control word is a word, and as a selection a byte.
use Rattle.std.proofs.Common.{◌∙◌, to_z-of_z}
use borrow.Author.Tests.{lt-ltb}
use Rattle.dictionary.specs.Values.{written_to}
use Rattle.dictionary.proofs.Laws.{control_word, selection_byte}
use Rattle.dictionary.proofs.written_to.Goals as goal

pub overflow_cast-value : goal.overflow_cast-value
overflow_cast-value c = simp (to_z-of_z c.ranges.value) (selection_byte c.in-31.is c.requires.range)

pub overflow_cast-value-in-32 : goal.overflow_cast-value-in-32
overflow_cast-value-in-32 c = simp (to_z-of_z c.ranges.value) (control_word c.in-32.is c.requires.range)

pub returns-then-place-lt-SETTINGS : goal.returns-then-place-lt-SETTINGS
unfolding written_to
returns-then-place-lt-SETTINGS c =
    c.with_block_of.ensures ∙ simp (c.with_setting.ensures, c.block_of-block.ensures, to_z-of_z c.ranges.value, lt-ltb _ _ c.if-place-lt-SETTINGS.true)

pub returns-in-30 : goal.returns-in-30
unfolding written_to
returns-in-30 c =
    c.with_block_of-in-30.ensures ∙ simp (c.with_setpoint.ensures, c.block_of-block-in-30.ensures, to_z-of_z c.ranges.value, c.in-30.is)

pub returns-in-31 : goal.returns-in-31
unfolding written_to
returns-in-31 c = c.select.ensures ∙ simp (to_z-of_z c.ranges.value, c.in-31.is)

pub returns-in-32 : goal.returns-in-32
unfolding written_to
returns-in-32 c = c.control.ensures ∙ simp (to_z-of_z c.ranges.value, c.in-32.is)
