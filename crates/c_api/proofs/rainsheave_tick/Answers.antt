-- What the library's answer changed of the device, and no more, is stored.
use Rattle.std.proofs.Common.{◌≡◌, rules}
use Rattle.rainsheave.specs.Calls.{tick_answer}
use Rattle.words.specs.Words.{device_in}
use Rattle.c_api.proofs.Answers.{tick_moves}
use Rattle.c_api.proofs.Calls.{stored_moved}
use Rattle.c_api.proofs.rainsheave_tick.Goals as goal

pub changed-requires-clause-left : goal.changed-requires-clause-left
changed-requires-clause-left c before change may =
    let answered : change ≡ tick_answer before = search rules in
    rw answered (tick_moves before).left

pub changed-requires-clause-stored : goal.changed-requires-clause-stored
changed-requires-clause-stored c words after change h may done left =
    let d = device_in words.now in
    let answered : change ≡ tick_answer d = search rules in
    stored_moved h answered (tick_moves d) left.1
