-- A setting is of its type, and its field lies within the image. `stored_next` is one turn of the loop.
use Rattle.std.proofs.Common.{◌≡◌, ◌∙◌, arith, rules, w64, FitsSigned}
use Rattle.std.proofs.Math.Facts.{to_z-of_z}
use Rattle.coding.proofs.Rows.{row_held}
use Rattle.block.specs.Block.{at}
use Rattle.block.proofs.Sound.{settings_parts}
use Rattle.objects.specs.Places.{SETTINGS}
use Rattle.image.specs.Asked.{Starts}
use Rattle.image.specs.Fields.{image_of, stored_in}
use Rattle.image.proofs.Lengths.{image_length_from_table, next_starts}
use Rattle.image.proofs.Stored.{stored_next}
use Rattle.image.proofs.store.Goals as goal

pub put_field-requires : goal.put_field-requires
put_field-requires c =
    let l = c.loop-place in
    let f : FitsSigned w64 (at c.args.settings l.place) = search rules in
    let s : Starts l.from l.place = record { below = omega arith; starts = l.invariant.stands } in
    record {
      below = omega arith;
      held = rw (to_z-of_z f) (row_held _ (omega arith) ((settings_parts _ c.requires.sound).ranged _ (omega arith)));
      fits = omega (arith, next_starts s);
    }

pub loop-place-preserved : goal.loop-place-preserved
loop-place-preserved c =
    let l = c.loop-place in
    let f : FitsSigned w64 (at c.args.settings l.place) = search rules in
    let s : Starts l.from l.place = record { below = omega arith; starts = l.invariant.stands } in
    record {
      stands = omega (arith, next_starts s);
      long = search rules;
      put = rw (c.put_field.ensures, to_z-of_z f, l.invariant.stands, l.invariant.put) (stored_next l.place c.args.settings c.args.room.now);
    }

pub returns : goal.returns
unfolding image_of stored_in
returns c =
    let end : c.loop-place.place ≡ SETTINGS = omega arith in
    c.loop-place.invariant.put ∙ rw (end, image_length_from_table)
