-- The promises are complete: any two libraries that keep them answer every history of calls alike, to the byte.
use Rattle.std.specs.Prelude.{List, ◌≡◌}
use Rattle.promises.specs.Library.{Call, Library, replies, end}
use Rattle.promises.specs.Promises.{Promises}

-- what the caller sees of a history, and what is told at its end, are the same
pub record Alike (L M : Library) (calls : List Call) (s : L.State) (t : M.State) : Type 0 where
  pub seen : replies L calls s ≡ replies M calls t
  pub told : L.told (end L calls s) ≡ M.told (end M calls t)

pub record Complete : Type 1 where
  -- from fresh
  pub fresh : (L M : Library) → Promises L → Promises M → (calls : List Call) → Alike L M calls L.fresh M.fresh
  -- and from any two states of which the same is told, sound or not
  pub any :
      (L M : Library) → Promises L → Promises M → (s : L.State) (t : M.State) → L.told s ≡ M.told t →
      (calls : List Call) → Alike L M calls s t
