-- The loop has read the first k settings.
use Rattle.std.proofs.Common.{◌≡◌, length, take}
use Rattle.objects.specs.Places.{SETTINGS}
use Rattle.words.specs.Words.{run}
use Rattle.words.proofs.settings_at.Given as goal

abbrev pub invariant-loop-k : goal.invariant-loop-k
invariant-loop-k l = (length l.settings ≡ SETTINGS) × (take l.k l.settings ≡ run l.words l.from l.k)
