-- The loop has let act the entries that it passed, each on the bytes after theirs; a sound device stays sound.
use Rattle.std.proofs.Common.{◌≡◌, ◌*◌, ◌≤◌, take}
use Rattle.mapping.specs.Maps.{length_of}
use Rattle.device.specs.Sound.{Sound}
use Rattle.pdo.specs.Receive.{received}
use Rattle.pdo.proofs.receive.Given as goal

abbrev pub invariant-loop-entry : goal.invariant-loop-entry
invariant-loop-entry l = record {
  there : l.at ≡ length_of (take l.entry-index l.fn.device.maps.receive.entries);
  near : l.at ≤ l.entry-index * 31;
  sound : Sound l.after;
  acted : l.after ≡ received (take l.entry-index l.fn.device.maps.receive.entries) l.pdo l.fn.device;
}
