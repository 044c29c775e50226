-- What is written as a selection is a byte, and as a control word a word.
use Rattle.std.proofs.Common.{to_z-of_z}
use Rattle.dictionary.proofs.Laws.{control_word, selection_byte}
use Rattle.words.proofs.put_written.Goals as goal

pub overflow_cast-value : goal.overflow_cast-value
overflow_cast-value c = simp (to_z-of_z c.ranges.value) (selection_byte c.in-31.is c.requires.writing.range)

pub overflow_cast-value-in-32 : goal.overflow_cast-value-in-32
overflow_cast-value-in-32 c = simp (to_z-of_z c.ranges.value) (control_word c.in-32.is c.requires.writing.range)
