-- What is written to a map is a number of four bytes at most.
use Rattle.std.proofs.Common.{to_z-of_z, arith}
use Rattle.dictionary.proofs.Maps.{map_number}
use Rattle.dictionary.proofs.map_ruling.Goals as goal

pub overflow_cast-value : goal.overflow_cast-value
overflow_cast-value c =
    simp (to_z-of_z c.ranges.value) (map_number (record { from = c.if-place-lt-RECEIVE_MAP.false; below = omega (arith, c.if-place-lt-TRANSMIT_MAP.true) }) _ c.requires.range)

pub overflow_cast-value-then-place-lt-SET_POINT : goal.overflow_cast-value-then-place-lt-SET_POINT
overflow_cast-value-then-place-lt-SET_POINT c =
    simp (to_z-of_z c.ranges.value) (map_number (record { from = c.if-place-lt-RECEIVE_MAP.false; below = c.if-place-lt-SET_POINT.true }) _ c.requires.range)
