-- A place before the transmit map's is the receive map's, and each number of a sound map lies in its row's range.
use Rattle.std.proofs.Common.{ap, ◌∙◌, arith, pos, w64}
use Rattle.std.proofs.Math.Facts.{to_z_pos}
use Rattle.mapping.proofs.Sound.{receive_small, transmit_small}
use Rattle.device.proofs.Laws.{maps_of_sound}
use Rattle.objects.proofs.Rules.{receive_map, transmit_map}
use Rattle.dictionary.proofs.Laws.{valued}
use Rattle.dictionary.proofs.Maps.{OfReceive, OfTransmit, sub_most, map_within, value_of_receive, value_of_transmit}
use Rattle.dictionary.proofs.map_value.Goals as goal

pub returns-then-place-lt-TRANSMIT_MAP : goal.returns-then-place-lt-TRANSMIT_MAP
returns-then-place-lt-TRANSMIT_MAP c =
    let m : OfReceive c.args.place = (c.requires.of_map.from, c.if-place-lt-TRANSMIT_MAP.true) in
    valued (value_of_receive c.args.device c.args.which c.args.place m)
    (to_z_pos w64 (omega arith) ∙ ap pos c.stands_at.ensures, map_within receive_map m (receive_small c.args.device.maps (maps_of_sound c.requires.sound) _ (sub_most m)))

pub returns-else-place-lt-TRANSMIT_MAP : goal.returns-else-place-lt-TRANSMIT_MAP
returns-else-place-lt-TRANSMIT_MAP c =
    let m : OfTransmit c.args.place = (c.if-place-lt-TRANSMIT_MAP.false, c.requires.of_map.below) in
    valued (value_of_transmit c.args.device c.args.which c.args.place m)
    (to_z_pos w64 (omega arith) ∙ ap pos c.stands_at-else-place-lt-TRANSMIT_MAP.ensures, map_within transmit_map m (transmit_small c.args.device.maps (maps_of_sound c.requires.sound) _ (sub_most m)))
