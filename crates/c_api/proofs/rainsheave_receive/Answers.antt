-- What the library's answer changed of the device, and no more, is stored.
use Rattle.std.proofs.Common.{◌≡◌, rules}
use Rattle.rainsheave.specs.Calls.{receive_answer}
use Rattle.words.specs.Words.{device_in}
use Rattle.c_api.proofs.Answers.{receive_receives}
use Rattle.c_api.proofs.Calls.{stored_received}
use Rattle.c_api.proofs.rainsheave_receive.Goals as goal

pub changed-requires-clause-left : goal.changed-requires-clause-left
changed-requires-clause-left c before change may =
    let answered : change ≡ receive_answer before c.args.pdo.now = search rules in
    rw answered (receive_receives before c.args.pdo.now).left

pub changed-requires-clause-stored : goal.changed-requires-clause-stored
changed-requires-clause-stored c words after change h may done left =
    let d = device_in words.now in
    let answered : change ≡ receive_answer d c.args.pdo.now = search rules in
    stored_received h answered (receive_receives d c.args.pdo.now) (search rules)
