-- The phase of words that hold a device is a number of four bytes.
use Rattle.std.proofs.Common.{arith, rules}
use Rattle.words.proofs.Numbers.{number_fits, device_numbers}
use Rattle.words.proofs.dither_at.Goals as goal

pub overflow_cast-result : goal.overflow_cast-result
overflow_cast-result c = number_fits (device_numbers c.requires).phase (search rules) (omega arith)
