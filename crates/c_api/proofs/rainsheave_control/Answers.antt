-- What the library's answer changed of the device, and no more, is stored.
use Rattle.std.proofs.Common.{◌≡◌, rules}
use Rattle.rainsheave.specs.Calls.{control_answer}
use Rattle.words.specs.Words.{device_in}
use Rattle.c_api.proofs.Answers.{control_moves}
use Rattle.c_api.proofs.Calls.{stored_moved}
use Rattle.c_api.proofs.rainsheave_control.Goals as goal

pub changed-requires-clause-left : goal.changed-requires-clause-left
changed-requires-clause-left c before change may =
    let answered : change ≡ control_answer before c.args.word = search rules in
    rw answered (control_moves before c.args.word).left

pub changed-requires-clause-stored : goal.changed-requires-clause-stored
changed-requires-clause-stored c words after change h may done left =
    let d = device_in words.now in
    let answered : change ≡ control_answer d c.args.word = search rules in
    stored_moved h answered (control_moves d c.args.word) left.1
