-- Each number of a held device fits its type, and both its maps are held.
use Rattle.std.proofs.Common.{arith, rules}
use Rattle.words.proofs.Numbers.{number_fits, device_numbers}
use Rattle.words.proofs.device_in.Goals as goal

pub overflow_cast-result : goal.overflow_cast-result
overflow_cast-result c = number_fits (device_numbers c.requires).selected (search rules) (omega arith)

pub overflow_cast-result-2 : goal.overflow_cast-result-2
overflow_cast-result-2 c = number_fits (device_numbers c.requires).state (search rules) (omega arith)

pub overflow_cast-result-3 : goal.overflow_cast-result-3
overflow_cast-result-3 c = number_fits (device_numbers c.requires).control (search rules) (omega arith)

pub overflow_cast-result-4 : goal.overflow_cast-result-4
overflow_cast-result-4 c = number_fits (device_numbers c.requires).error (search rules) (omega arith)

pub map_at-requires : goal.map_at-requires
map_at-requires c = (device_numbers c.requires).receive

pub map_at-requires-2 : goal.map_at-requires-2
map_at-requires-2 c = (device_numbers c.requires).transmit
