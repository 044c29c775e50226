-- The loop has put the values of the entries that it passed, and left the later bytes.
use Rattle.std.proofs.Common.{◌≡◌, ◌*◌, ◌++◌, length, take, drop}
use Rattle.mapping.specs.Maps.{length_of}
use Rattle.pdo.specs.Send.{sent}
use Rattle.pdo.proofs.send.Given as goal

abbrev pub invariant-loop-entry : goal.invariant-loop-entry
invariant-loop-entry l = record {
  two_each : l.at ≡ 2 * l.entry-index;
  there : l.at ≡ length_of (take l.entry-index l.device.maps.transmit.entries);
  long : length (sent l.device (take l.entry-index l.device.maps.transmit.entries)) ≡ l.at;
  put : l.room ≡ sent l.device (take l.entry-index l.device.maps.transmit.entries) ++ drop l.at l.fn.room;
}
