-- Each counted entry may be sent and has two bytes, which are put after those before it.
use Rattle.std.proofs.Common.{◌≡◌, sym, ◌∙◌, ◌<◌, ℕ, arith, length, take, length-append, length-take, get_or-take}
use Rattle.mapping.specs.Maps.{SENDABLE, bytes_of, entry_of}
use Rattle.mapping.specs.declared.Map.{Map}
use Rattle.mapping.proofs.Laws.{length_more}
use Rattle.mapping.proofs.Sound.{Parts, sent_of_two, counted_mapped, two_each}
use Rattle.device.proofs.Laws.{transmit_parts}
use Rattle.pdo.specs.Send.{sent_by, sent}
use Rattle.pdo.proofs.Laws.{sent_more, put_more, length_sent_by}
use Rattle.pdo.proofs.send.Goals as goal

two : {m : Map} → Parts SENDABLE m → (k : ℕ) → k < m.count → bytes_of (entry_of m k) ≡ 2
two p k h = sent_of_two _ (counted_mapped SENDABLE p k h)

pub slice_bounds-entries-end : goal.slice_bounds-entries-end
slice_bounds-entries-end c = let p = transmit_parts c.requires.sound in omega arith

pub slice_bounds-entry-items-end : goal.slice_bounds-entry-items-end
slice_bounds-entry-items-end c = let p = transmit_parts c.requires.sound in omega (arith, length-take c.args.device.maps.transmit.count c.args.device.maps.transmit.entries)

pub put_value-requires : goal.put_value-requires
put_value-requires c =
    let p = transmit_parts c.requires.sound in
    let m = c.args.device.maps.transmit in
    let k = c.loop-entry.entry-index in
    let counts : k < m.count = omega (arith, length-take m.count m.entries) in
    let size = two p k counts in
    rw get_or-take
    (record {
      telling = record { sound = c.requires.sound; mapped = counted_mapped SENDABLE p k counts };
      four = omega (arith, size);
      fits = omega (arith, size, two_each SENDABLE sent_of_two p);
    })

pub loop-entry-preserved : goal.loop-entry-preserved
loop-entry-preserved c =
    let p = transmit_parts c.requires.sound in
    let d = c.args.device in
    let m = d.maps.transmit in
    let k = c.loop-entry.entry-index in
    let i = c.loop-entry.invariant in
    let counts : k < m.count = omega (arith, length-take m.count m.entries) in
    let in_map : k < length m.entries = omega (arith, length-take m.count m.entries) in
    let entry = entry_of m k in
    let size = two p k counts in
    let long = length_sent_by d entry (omega (arith, size)) in
    let next = put_more (sent d (take k m.entries)) (sent_by d entry) c.args.room.now c.loop-entry.at (bytes_of entry) i.long long in
    let bytes : c.bytes_of.result ≡ bytes_of entry = rw get_or-take at c.bytes_of.ensures in
    record {
      two_each = omega (arith, bytes, size);
      there = rw (bytes, i.there) (sym (length_more m.entries k in_map));
      long = rw (sent_more d m.entries k in_map, length-append, i.long, long, bytes);
      put = c.put_value.ensures ∙ rw (get_or-take, i.put, sent_more d m.entries k in_map, bytes) next;
    }
