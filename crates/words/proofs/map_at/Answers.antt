-- Each word of a held map is a number that fits its type.
use Rattle.std.proofs.Common.{arith, rules}
use Rattle.words.proofs.Numbers.{number_fits, map_numbers}
use Rattle.words.proofs.map_at.Goals as goal

pub overflow_cast-result : goal.overflow_cast-result
overflow_cast-result c = number_fits (map_numbers c.requires).count (search rules) (omega arith)

pub overflow_cast-result-2 : goal.overflow_cast-result-2
overflow_cast-result-2 c = number_fits (map_numbers c.requires).first (search rules) (omega arith)

pub overflow_cast-result-3 : goal.overflow_cast-result-3
overflow_cast-result-3 c = number_fits (map_numbers c.requires).second (search rules) (omega arith)

pub overflow_cast-result-4 : goal.overflow_cast-result-4
overflow_cast-result-4 c = number_fits (map_numbers c.requires).third (search rules) (omega arith)

pub overflow_cast-result-5 : goal.overflow_cast-result-5
overflow_cast-result-5 c = number_fits (map_numbers c.requires).fourth (search rules) (omega arith)
