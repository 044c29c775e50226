-- The header of each place has been shown, one more in each turn. Where the loop stops early, the header of that place fails.
use Rattle.std.proofs.Common.{◌≡◌, sym, ◌∙◌, arith, refl}
use Rattle.integers.proofs.Each.{each_none, each_more}
use Rattle.objects.specs.Places.{SETTINGS}
use Rattle.image.specs.Asked.{Starts}
use Rattle.image.specs.Fields.{start}
use Rattle.image.proofs.Lengths.{next_starts}
use Rattle.image.proofs.Full.{full_from_headers, not_full_by_length, not_full_by_header}
use Rattle.image.proofs.is_full.Goals as goal

pub returns-then-image-ne-IMAGE_LENGTH : goal.returns-then-image-ne-IMAGE_LENGTH
returns-then-image-ne-IMAGE_LENGTH c = sym (not_full_by_length _ c.if-image-ne-IMAGE_LENGTH.true)

pub loop-place-init : goal.loop-place-init
unfolding start
loop-place-init c = record { stands = refl; shown = each_none _ }

pub returns-then-not-head_at : goal.returns-then-not-head_at
returns-then-not-head_at c = sym (not_full_by_header _ c.loop-place.place (omega arith) (sym c.head_at.ensures ∙ c.if-not-head_at.true))

pub loop-place-preserved : goal.loop-place-preserved
loop-place-preserved c =
    let l = c.loop-place in
    let s : Starts l.from l.place = record { below = omega arith; starts = l.invariant.stands } in
    record {
      stands = omega (arith, next_starts s);
      shown = each_more _ _ l.invariant.shown (sym c.head_at.ensures ∙ c.if-not-head_at.false);
    }

pub returns : goal.returns
returns c =
    let end : c.loop-place.place ≡ SETTINGS = omega arith in
    sym (full_from_headers _ c.if-image-ne-IMAGE_LENGTH.false (rw end at c.loop-place.invariant.shown))
