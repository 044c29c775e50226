-- After the last turn all are read.
use Rattle.std.proofs.Common.{◌≡◌, arith}
use Rattle.objects.specs.Places.{SETTINGS}
use Rattle.image.proofs.Loaded.{settings_from_loaded}
use Rattle.image.proofs.settings_in.Goals as goal

pub returns : goal.returns
returns c =
    let end : c.loop-place.place ≡ SETTINGS = omega arith in
    settings_from_loaded (rw end at c.loop-place.invariant.loaded)
