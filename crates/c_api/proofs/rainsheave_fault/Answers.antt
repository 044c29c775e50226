-- What the library's answer changed of the device, and no more, is stored.
use Rattle.std.proofs.Common.{◌≡◌, rules}
use Rattle.rainsheave.specs.Calls.{fault_answer}
use Rattle.words.specs.Words.{device_in}
use Rattle.c_api.proofs.Answers.{fault_moves}
use Rattle.c_api.proofs.Calls.{stored_moved}
use Rattle.c_api.proofs.rainsheave_fault.Goals as goal

pub changed-requires-clause-left : goal.changed-requires-clause-left
changed-requires-clause-left c before change may =
    let answered : change ≡ fault_answer before c.args.code = search rules in
    rw answered (fault_moves before c.args.code).left

pub changed-requires-clause-stored : goal.changed-requires-clause-stored
changed-requires-clause-stored c words after change h may done left =
    let d = device_in words.now in
    let answered : change ≡ fault_answer d c.args.code = search rules in
    stored_moved h answered (fault_moves d c.args.code) left.1
