-- Each counted entry may be received, and it acts after those before it.
use Rattle.std.proofs.Common.{sym, ◌∙◌, ◌<◌, arith, length, length-take, get_or-take}
use Rattle.mapping.specs.Maps.{RECEIVABLE}
use Rattle.mapping.proofs.Laws.{length_more}
use Rattle.mapping.proofs.Sound.{counted_mapped}
use Rattle.device.proofs.Laws.{receive_parts}
use Rattle.pdo.proofs.Laws.{received_more, acted_sound}
use Rattle.pdo.proofs.receive.Goals as goal

pub slice_bounds-entries-end : goal.slice_bounds-entries-end
slice_bounds-entries-end c = let p = receive_parts c.requires in omega arith

pub slice_bounds-entry-items-end : goal.slice_bounds-entry-items-end
slice_bounds-entry-items-end c = let p = receive_parts c.requires in omega (arith, length-take c.args.device.maps.receive.count c.args.device.maps.receive.entries)

pub act-after-requires : goal.act-after-requires
act-after-requires c =
    let p = receive_parts c.requires in
    let m = c.args.device.maps.receive in
    let k = c.loop-entry.entry-index in
    let few = p.few in
    let counts : k < m.count = omega (arith, length-take m.count m.entries) in
    record { sound = c.loop-entry.invariant.sound; mapped = rw get_or-take (counted_mapped RECEIVABLE p k counts); near = omega arith }

pub loop-entry-preserved : goal.loop-entry-preserved
loop-entry-preserved c =
    let m = c.args.device.maps.receive in
    let k = c.loop-entry.entry-index in
    let i = c.loop-entry.invariant in
    let counts : k < m.count = omega (arith, length-take m.count m.entries) in
    let in_map : k < length m.entries = omega (arith, length-take m.count m.entries) in
    record {
      there = rw (c.bytes_of.ensures, get_or-take, i.there) (sym (length_more m.entries k in_map));
      near = omega arith;
      sound = rw c.act-after.ensures (acted_sound _ _ i.sound);
      acted = c.act-after.ensures ∙ rw (get_or-take, i.acted, i.there) (sym (received_more m.entries k _ c.args.device in_map));
    }
