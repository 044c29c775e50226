-- What the library's answer changed of the device, and no more, is stored.
use Rattle.std.proofs.Common.{◌≡◌, rules}
use Rattle.rainsheave.specs.Calls.{load_answer}
use Rattle.words.specs.Words.{device_in}
use Rattle.c_api.proofs.Answers.{load_loads, load_long}
use Rattle.c_api.proofs.Calls.{stored_loaded}
use Rattle.c_api.proofs.rainsheave_load.Goals as goal

pub changed-requires-clause-left : goal.changed-requires-clause-left
changed-requires-clause-left c before change may =
    let answered : change ≡ load_answer before c.args.image.now = search rules in
    rw answered (load_loads before c.args.image.now).left

pub changed-requires-clause-stored : goal.changed-requires-clause-stored
changed-requires-clause-stored c words after change h may done left =
    let d = device_in words.now in
    let answered : change ≡ load_answer d c.args.image.now = search rules in
    stored_loaded h answered (load_loads d c.args.image.now) (load_long d c.args.image.now (rw answered at done)) left.1
