-- Demand 2, put together from writes and stored images.
use mathlib.Core.Bool.{true}
use mathlib.Core.Path.{◌≡◌}
use Rattle.promises.specs.Library.{Library}
use Rattle.promises.specs.Promises.{sound, Promises}
use Rattle.promises.specs.Demands.{Demand2}
use Rattle.promises.proofs.Writes.{acknowledged, read_back, others, unwritten, fresh_read, control_word, low_bits}
use Rattle.promises.proofs.Stored.{stored, tag_found}

pub demand2 : (L : Library) → Promises L → (s : L.State) → sound (L.told s) ≡ true → Demand2 L s
demand2 L p s o =
    record {
      acknowledged = acknowledged L p s o;
      read_back = read_back L p s o;
      others = others L p s o;
      unwritten = unwritten L p s o;
      fresh_read = fresh_read L p;
      control_word = control_word L p s o;
      low_bits = low_bits;
      stored = stored L p s o;
      tag_found = tag_found L p s o;
    }
