-- What is written to a map is a number of as many bytes as its sub-index has.
use Rattle.std.proofs.Common.{to_z-of_z}
use Rattle.objects.proofs.Rules.{receive_map, transmit_map}
use Rattle.dictionary.proofs.Maps.{OfReceive, OfTransmit, sub_most, sub_number, one_byte, map_number}
use Rattle.dictionary.proofs.map_written.Goals as goal

pub overflow_cast-number : goal.overflow_cast-number
overflow_cast-number c = simp (to_z-of_z c.ranges.value) (map_number c.requires.of_map _ c.requires.range)

pub with_at-map-requires : goal.with_at-map-requires
with_at-map-requires c =
    let m : OfReceive c.args.place = (c.requires.of_map.from, c.if-place-lt-TRANSMIT_MAP.true) in
    rw (to_z-of_z c.ranges.value) (record { most = sub_most m; byte = one_byte _ (sub_number receive_map m _ c.requires.range).1 })

pub with_at-map-requires-else-place-lt-TRANSMIT_MAP :
    goal.with_at-map-requires-else-place-lt-TRANSMIT_MAP
with_at-map-requires-else-place-lt-TRANSMIT_MAP c =
    let m : OfTransmit c.args.place = (c.if-place-lt-TRANSMIT_MAP.false, c.requires.of_map.below) in
    rw (to_z-of_z c.ranges.value) (record { most = sub_most m; byte = one_byte _ (sub_number transmit_map m _ c.requires.range).1 })
