-- Document 01, "Stored image": the fields of any slice are walked from the start, to the first field so tagged.
use Rattle.std.specs.Prelude.{List, [], ℕ, zero, suc, ◌+◌, ◌-◌, length, take, drop, if◌then◌else◌, Result, Ok, Err}
use Rattle.integers.specs.Words.{◌is◌, ◌below◌}
use Rattle.coding.specs.Bytes.{byte_at}
use Rattle.image.specs.Fields.{HEADER}
use Rattle.image.specs.Load.{length_at}
use Rattle.image.specs.declared.Part.{Part}
use Rattle.image.specs.declared.Miss.{Miss}
use Rattle.image.specs.declared.Miss.TheVariants.{Cut, Ended}

-- what a walk meets: where the value of the field so tagged lies, or why there is none
abbrev pub Found : Type 0
Found = Result Part Miss

-- where the field at k ends: after its header and its value
abbrev pub end_at : List ℕ → ℕ → ℕ
end_at image k = k + HEADER + length_at image k

-- the walk from k on, over so many fields: it has ended; a header or a value is cut short; the field so tagged; else on after it
unfoldable pub walk_from : ℕ → List ℕ → ℕ → ℕ → Found
walk_from zero image tag k = Err Ended
walk_from (suc fields) image tag k =
    if length image below (k + 1) then Err Ended
    else if length image below (k + HEADER) then Err Cut
    else if length image below end_at image k then Err Cut
    else if byte_at image k is tag then Ok (record { start = k + HEADER; end = end_at image k })
    else walk_from fields image tag (end_at image k)

-- the walk from the start; there are fewer fields than bytes
unfoldable pub walk : List ℕ → ℕ → Found
walk image tag = walk_from (suc (length image)) image tag 0

-- the part of an image that was found; a refused search has none
abbrev pub part_of : List ℕ → Found → List ℕ
part_of image (Ok part) = take (part.end - part.start) (drop part.start image)
part_of image (Err miss) = []

-- how far into the image that part begins
abbrev pub begin_of : Found → ℕ
begin_of (Ok part) = part.start
begin_of (Err miss) = 0

-- the number of a field cut short
abbrev pub FIELD_CUT : ℕ
FIELD_CUT = 7

-- the number of a walk that ended
abbrev pub NOT_FOUND : ℕ
NOT_FOUND = 10

-- the number of a refused search
abbrev pub number_of_miss : Miss → ℕ
number_of_miss Cut = FIELD_CUT
number_of_miss Ended = NOT_FOUND

-- the number handed back
abbrev pub code_of : Found → ℕ
code_of (Ok part) = 0
code_of (Err miss) = number_of_miss miss
