-- What the library's answer changed of the device, and no more, is stored.
use Rattle.std.proofs.Common.{◌≡◌, rules}
use Rattle.rainsheave.specs.Calls.{jump_answer}
use Rattle.words.specs.Words.{device_in}
use Rattle.c_api.proofs.Answers.{jump_moves}
use Rattle.c_api.proofs.Calls.{stored_moved}
use Rattle.c_api.proofs.rainsheave_jump.Goals as goal

pub changed-requires-clause-left : goal.changed-requires-clause-left
changed-requires-clause-left c before change may =
    let answered : change ≡ jump_answer before c.args.ticks = search rules in
    rw answered (jump_moves before c.args.ticks).left

pub changed-requires-clause-stored : goal.changed-requires-clause-stored
changed-requires-clause-stored c words after change h may done left =
    let d = device_in words.now in
    let answered : change ≡ jump_answer d c.args.ticks = search rules in
    stored_moved h answered (jump_moves d c.args.ticks) left.1
