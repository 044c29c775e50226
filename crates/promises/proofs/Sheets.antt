-- The sheet's lines: what a test that is computed over them says of the line of an entry, and what an entry without a line lacks.
use mathlib.Core.Bool.{Bool, true, false, not, ◌&&◌, ◌||◌}
use mathlib.Core.List.{List, [], ◌∷◌}
use mathlib.Core.Path.{◌≡◌, refl}
use Prim.Native.Nat.{ℕ}
use borrow.Author.Tests.{eqb-true}
use Rattle.integers.specs.Words.{◌is◌}
use Rattle.integers.proofs.Cases.{by_cases, clash}
use Rattle.integers.proofs.Each.{and_split}
use Rattle.promises.specs.Sheet.{Line, sheet, line_in, line_at, has_entry, is_read_only, is_held}

-- ---- tests over lines

abbrev pub of_all : (Line → Bool) → List Line → Bool
of_all test [] = true
of_all test (l ∷ lines) = test l && of_all test lines

-- what holds of all lines holds of the one that is found
pub record Found (test : Line → Bool) (l : Line) (index sub : ℕ) : Type 0 where
  pub passes : test l ≡ true
  pub its_index : l.index ≡ index
  pub its_sub : l.sub ≡ sub

found_in :
    (test : Line → Bool) (lines : List Line) (index sub : ℕ) → of_all test lines ≡ true → not ((line_in lines index sub).kind.bytes is 0) ≡ true →
    Found test (line_in lines index sub) index sub
found_in test [] index sub a h = let z : false ≡ true = h in clash z refl
found_in test (l ∷ lines) index sub a h =
    let both = and_split (test l) (of_all test lines) a in
    by_cases (l.index is index && l.sub is sub)
    (λ e.
    let here = and_split (l.index is index) (l.sub is sub) e in
    rw e (record { passes = both.0; its_index = eqb-true _ _ here.0; its_sub = eqb-true _ _ here.1 }))
    (λ e. rw e (found_in test lines index sub both.1 (rw e at h)))

pub found : (test : Line → Bool) (index sub : ℕ) → of_all test sheet ≡ true → has_entry index sub ≡ true → Found test (line_at index sub) index sub
found test index sub = found_in test sheet index sub

-- and what holds of the index of each line holds of an entry's
pub of_index : (P : ℕ → Bool) (index sub : ℕ) → of_all (λ l. P l.index) sheet ≡ true → has_entry index sub ≡ true → P index ≡ true
of_index P index sub a h = let f = found (λ l. P l.index) index sub a h in rw f.its_index at f.passes

-- ---- an entry's line has its index and sub-index

any_line : of_all (λ l. true) sheet ≡ true
unfolding sheet
any_line = refl

module _ (index sub : ℕ) (h : has_entry index sub ≡ true) where
  pub its_index : (line_at index sub).index ≡ index
  its_index = (found (λ l. true) index sub any_line h).its_index

  pub its_sub : (line_at index sub).sub ≡ sub
  its_sub = (found (λ l. true) index sub any_line h).its_sub

-- ---- an entry without a line is none that can be written, as no line of the sheet has 0 bytes

lines_have_bytes : of_all (λ l. not (l.kind.bytes is 0)) sheet ≡ true
unfolding sheet
lines_have_bytes = refl

unwritable_in :
    (lines : List Line) (index sub : ℕ) → of_all (λ l. not (l.kind.bytes is 0)) lines ≡ true → not ((line_in lines index sub).kind.bytes is 0) ≡ false →
    is_read_only (line_in lines index sub) ≡ true
unwritable_in [] index sub a h = refl
unwritable_in (l ∷ lines) index sub a h =
    let both = and_split (not (l.kind.bytes is 0)) (of_all (λ l. not (l.kind.bytes is 0)) lines) a in
    by_cases (l.index is index && l.sub is sub) (λ e. clash both.0 (rw e at h)) (λ e. rw e (unwritable_in lines index sub both.1 (rw e at h)))

unwritable : (index sub : ℕ) → has_entry index sub ≡ false → is_read_only (line_at index sub) ≡ true
unwritable index sub h = unwritable_in sheet index sub lines_have_bytes h

pub listed : (index sub : ℕ) → is_read_only (line_at index sub) ≡ false → has_entry index sub ≡ true
listed index sub w = by_cases (has_entry index sub) (λ e. e) (λ e. clash (unwritable index sub e) w)

pub unheld : (index sub : ℕ) → has_entry index sub ≡ false → is_held (line_at index sub) ≡ false
unheld index sub h = rw (unwritable index sub h)

-- an object has sub-index 0 in any case
objects_listed : of_all (λ l. has_entry l.index 0) sheet ≡ true
unfolding sheet
objects_listed = refl

pub its_object : (index sub : ℕ) → has_entry index sub ≡ true → has_entry index 0 ≡ true
its_object index sub h = of_index (λ i. has_entry i 0) index sub objects_listed h

-- ---- a line has 1, 2 or 4 bytes

abbrev pub sized : ℕ → Bool
sized bytes = bytes is 1 || bytes is 2 || bytes is 4

pub by_size {ℓ} : {X : Type ℓ} (bytes : ℕ) → sized bytes ≡ true → (bytes ≡ 1 → X) → (bytes ≡ 2 → X) → (bytes ≡ 4 → X) → X
by_size bytes s f g k =
    by_cases (bytes is 1) (λ e. f (eqb-true bytes 1 e))
    (λ e. by_cases (bytes is 2) (λ q. g (eqb-true bytes 2 q)) (λ q. k (eqb-true bytes 4 (rw (e, q) at s))))

all_sized : of_all (λ l. sized l.kind.bytes) sheet ≡ true
unfolding sheet
all_sized = refl

pub its_size : (index sub : ℕ) → has_entry index sub ≡ true → sized (line_at index sub).kind.bytes ≡ true
its_size index sub h = (found (λ l. sized l.kind.bytes) index sub all_sized h).passes
