-- Wish 2 of document 02: what makes a map sound.
use Rattle.std.specs.Prelude.{Bool, not, ◌&&◌, List, ℕ, length, if◌then◌else◌}
use Rattle.integers.specs.Words.{each, ◌is◌, ◌below◌, ◌among◌}
use Rattle.mapping.specs.Maps.{ENTRIES, RECEIVABLE, SENDABLE, entry_of}
use Rattle.mapping.specs.declared.Map.{Map}
use Rattle.mapping.specs.declared.Maps.{Maps}

-- the entry at a place, of so many that are counted, is zero and not counted, or may be mapped
unfoldable pub may_stand : List ℕ → ℕ → ℕ → ℕ → Bool
may_stand mappable count k entry = if entry is 0 then not (k below count) else entry among mappable

-- there are four entries, at most four are counted, and each may stand where it does
unfoldable pub sound_map : List ℕ → Map → Bool
sound_map mappable m =
    length m.entries is ENTRIES
    && not (ENTRIES below m.count)
    && each ENTRIES (λ k. may_stand mappable m.count k (entry_of m k))

-- both maps, each with what may be mapped in its direction
unfoldable pub sound_maps : Maps → Bool
sound_maps maps = sound_map RECEIVABLE maps.receive && sound_map SENDABLE maps.transmit
