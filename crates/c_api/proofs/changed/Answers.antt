-- Words that hold a device: done, what it changed is stored; refused, nothing is.
use Rattle.std.proofs.Common.{sym, ap, ◌∙◌, ◌≡◌}
use Rattle.integers.proofs.Cases.{apart}
use Rattle.words.specs.Words.{words_of}
use Rattle.words.proofs.Laws.{held_words}
use Rattle.c_api.proofs.Calls.{holds, held, left_same}
use Rattle.c_api.proofs.changed.Goals.{then-is_ok, else-is_ok}
use Rattle.c_api.proofs.changed.Goals as goal

pub returns : goal.returns
returns g c =
    let tested = c.hold_device.ensures in
    let e = c.if-not-hold_device.false in
    let h = held tested e in
    let change = c.call-change.result in
    let may = rw c.device_in.ensures at c.call-change.ensures in
    let words : c.if-is_ok.device ≡ words_of change.device =
    elim c.if-is_ok.branch [
      | then-is_ok w ↦
          let done = sym c.is_ok.ensures.value ∙ w.if-is_ok.true in
          w.device-is ∙ c.requires.stored _ _ change (record { held = h; long = tested.long }) may done w.store.ensures
      | else-is_ok w ↦
          let same = left_same change.report (sym c.is_ok.ensures.value ∙ w.if-is_ok.false) (c.requires.left _ _ may) in
          w.device-is ∙ sym (held_words h tested.long) ∙ ap words_of (sym same)
    ] in
    record {
      held = λ h. (change, may, record { number = c.number_of_report.ensures; words = words });
      none = λ h. apart (cc (holds tested e, h));
    }
