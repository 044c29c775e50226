-- Wish 2 of document 02, "Refusals, after place 8 and in this order": what becomes of a write to a map.
use Rattle.std.specs.Prelude.{Bool, not, ◌&&◌, ◌||◌, List, ℕ, Result, Ok, Err, if◌then◌else◌}
use Rattle.integers.specs.Words.{each, ◌is◌, ◌below◌, ◌among◌}
use Rattle.mapping.specs.Maps.{ENTRIES, entry_of}
use Rattle.mapping.specs.declared.Map.{Map}
use Rattle.mapping.specs.declared.Misfit.{Misfit}
use Rattle.mapping.specs.declared.Misfit.TheVariants.{WhileCounted, AboveFour, NotMappable}

-- each of the first n entries may be mapped
unfoldable pub each_mapped : List ℕ → Map → ℕ → Bool
each_mapped mappable m n = each n (λ k. entry_of m k among mappable)

-- what the write would leave is right: every entry that sub 0 would count may be mapped; an entry is zero or may be mapped
unfoldable pub is_right : List ℕ → Map → ℕ → ℕ → Bool
is_right mappable m sub number = if sub is 0 then each_mapped mappable m number else number is 0 || number among mappable

-- a write of a number to a sub-index of a map
unfoldable pub ruling_on : List ℕ → Map → ℕ → ℕ → Result (Unit {0}) Misfit
ruling_on mappable m sub number =
    -- an entry written while sub 0 isn't 0
    if not (sub is 0) && not (m.count is 0) then Err WhileCounted
    -- a sub 0 above 4
    else if sub is 0 && ENTRIES below number then Err AboveFour
    -- a nonzero entry, or an entry that sub 0 would count, that isn't such an object with sub-index and length right
    else if not (is_right mappable m sub number) then Err NotMappable
    else Ok tt
