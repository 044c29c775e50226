-- The sheet's lines and what an index and a sub-index name: they agree, by tests that are computed over the lines. An index without a line is that of no row.
use Rattle.std.specs.Prelude.{Option, Some, None}
use mathlib.Core.Bool.{Bool, true, false, not, ◌&&◌, ◌||◌}
use mathlib.Core.List.{List, [], ◌∷◌}
use mathlib.Core.Path.{◌≡◌, refl, sym, ◌∙◌}
use Prim.Native.Nat.{ℕ, zero, suc, ◌+◌, ◌-◌, ◌*◌, ◌≤◌, ◌<◌}
use native.Mathlib.Omega.{arith}
use borrow.Author.Tests.{eqb-true, lt-ltb, le-ltb, ltb-true, not-true}
use lib.IntN.{ℤ}
use lib.ListN.{get_or}
use Rattle.integers.specs.Words.{each, ◌is◌, ◌below◌, ◌=?◌, ◌among◌}
use Rattle.integers.proofs.Cases.{by_cases, by_less, clash, apart}
use Rattle.integers.proofs.Each.{and_split, each_at}
use Rattle.integers.proofs.Machine.{=?-yes}
use Rattle.objects.specs.Places.{UPPER_LIMIT, LOWER_LIMIT, RECEIVE_MAP, TRANSMIT_MAP, SET_POINT, SELECTION, CONTROL_WORD, STATUS_WORD, ERROR_CODE, COMMAND}
use Rattle.objects.specs.Table.{objects, row_at, is_signed, is_choice}
use Rattle.objects.specs.Lookup.{ABOVE, block_number, place_from, place_of, record_entry, entry_at, Object}
use Rattle.objects.specs.declared.Columns.{Columns}
use Rattle.objects.specs.declared.Place.{Place}
use Rattle.objects.proofs.Rules.{of_pressure, below_pressure, above_pressure}
use Rattle.coding.specs.Coding.{span, number_of, in_span, value_of}
use Rattle.dictionary.specs.Named.{Named, value, byte, nothing, located, named}
use Rattle.dictionary.specs.Decide.{is_locked}
use Rattle.dictionary.specs.declared.Abort.TheVariants.{NoObject, NoSubIndex}
use Rattle.dictionary.proofs.Laws.{InTable, named_in_table}
use Rattle.promises.specs.Library.{Told}
use Rattle.promises.specs.Sheet.{Line, sheet, line_at, has_entry, is_read_only, is_held}
use Rattle.promises.specs.Sdo.{number_for, stands_for, value_at}
use Rattle.promises.proofs.Sheets.{of_all, Found, found, of_index, its_index, its_sub, sized, by_size}

-- ---- an index without a line is that of no row

abbrev has_row : List Columns → ℕ → Bool
has_row [] index = false
has_row (row ∷ rows) index = row.0 is index || has_row rows index

abbrev of_rows : (ℕ → Bool) → List Columns → Bool
of_rows P [] = true
of_rows P (row ∷ rows) = P row.0 && of_rows P rows

of_row : (P : ℕ → Bool) (rows : List Columns) (index : ℕ) → of_rows P rows ≡ true → has_row rows index ≡ true → P index ≡ true
of_row P [] index a h = let z : false ≡ true = h in clash z refl
of_row P (row ∷ rows) index a h =
    let both = and_split (P row.0) (of_rows P rows) a in
    by_cases (row.0 is index)
    (λ e. let q = eqb-true row.0 index e in rw (← q) both.0)
    (λ e. of_row P rows index both.1 (rw e at h))

nowhere : (place : ℕ) (rows : List Columns) (index : ℕ) → has_row rows index ≡ false → place_from place rows index ≡ None
unfolding place_from
nowhere place [] index h = refl
nowhere place (row ∷ rows) index h =
    by_cases (row.0 is index) (λ e. clash (rw e) h) (λ e. rw e (nowhere (suc place) rows index (rw e at h)))

-- the rows' indexes have lines, and those of the position block 80h above too
abbrev counterpart_listed : ℕ → Bool
counterpart_listed index = index below 0x6300 || not (index below 0x6346) || has_entry (index + ABOVE) 0

rows_listed : of_rows (λ index. has_entry index 0) objects ≡ true
unfolding objects sheet
rows_listed = refl

counterparts_listed : of_rows counterpart_listed objects ≡ true
unfolding objects sheet
counterparts_listed = refl

module _ (index : ℕ) (h : has_entry index 0 ≡ false) where
  no_row : has_row objects index ≡ false
  no_row = by_cases (has_row objects index) (λ e. clash (of_row (λ index. has_entry index 0) objects index rows_listed e) h) (λ e. e)

  no_counterpart : 0x6380 ≤ index → index < 0x63C6 → has_row objects (index - ABOVE) ≡ false
  no_counterpart l m =
      by_cases (has_row objects (index - ABOVE))
      (λ e.
      let back : index - ABOVE + ABOVE ≡ index = omega arith in
      let low : (index - ABOVE below 0x6300) ≡ false = le-ltb (index - ABOVE) 0x6300 (omega arith) in
      let high : (index - ABOVE below 0x6346) ≡ true = lt-ltb (index - ABOVE) 0x6346 (omega arith) in
      clash (rw (low, high, back) at (of_row counterpart_listed objects (index - ABOVE) counterparts_listed e)) h)
      (λ e. e)

  no_place : place_of index ≡ None
  no_place =
      by_less index 0x6380 (λ l. rw (below_pressure index l, nowhere 0 objects index no_row))
      (λ l. by_less index 0x63C6
      (λ m. rw (of_pressure index l (omega arith), nowhere 0 objects (index - ABOVE) (no_counterpart l m)))
      (λ m. rw (above_pressure index m, nowhere 0 objects index no_row)))

pub no_object : (index sub : ℕ) → has_entry index 0 ≡ false → named index sub ≡ nothing NoObject
unfolding named
no_object index sub h = rw (no_place index h)

-- ---- nor has a sub-index without a line an entry

abbrev is_missing : Named → Bool
is_missing (value which place) = false
is_missing (byte number) = false
is_missing (nothing NoSubIndex) = true
is_missing (nothing _) = false

is_missing_lem : (n : Named) → is_missing n ≡ true → n ≡ nothing NoSubIndex
is_missing_lem (value which place) e = clash e refl
is_missing_lem (byte number) e = clash e refl
is_missing_lem (nothing NoSubIndex) e = refl
is_missing_lem (nothing _) e = clash e refl

-- sub-indexes 0 to 4 are computed; beyond them no object has entries
abbrev subs_listed : ℕ → Bool
subs_listed index = each 5 (λ k. has_entry index k || is_missing (named index k))

subs_listed_lem : of_all (λ l. subs_listed l.index) sheet ≡ true
unfolding sheet objects each named place_of place_from block_number entry_at record_entry
subs_listed_lem = refl

abbrev has_few : Option Place → Bool
has_few (Some p) = (row_at p.place).entries below 5
has_few None = false

few_listed : of_all (λ l. has_few (place_of l.index)) sheet ≡ true
unfolding sheet objects place_of place_from block_number
few_listed = refl

beyond : (sub : ℕ) → 5 ≤ sub → (found : Option Place) → has_few found ≡ true → located found sub ≡ nothing NoSubIndex
unfolding entry_at
beyond sub h (Some p) e = let few = ltb-true (row_at p.place).entries 5 e in rw (lt-ltb (row_at p.place).entries sub (omega arith))
beyond sub h None e = clash e refl

pub no_entry : (index sub : ℕ) → has_entry index 0 ≡ true → has_entry index sub ≡ false → named index sub ≡ nothing NoSubIndex
no_entry index sub h n =
    by_less sub 5
    (λ l. is_missing_lem _ (rw n at (each_at 5 (λ k. has_entry index k || is_missing (named index k)) sub (of_index subs_listed index 0 subs_listed_lem h) l)))
    (λ l. unfold named in beyond sub l (place_of index) (of_index (λ i. has_few (place_of i)) index 0 few_listed h))

-- ---- a line is that of a value whose row agrees with it, or of a byte that never changes

abbrev same : Bool → Bool → Bool
same true t = t
same false t = not t

are_same : (a b : Bool) → same a b ≡ true → a ≡ b
are_same true b e = sym e
are_same false true e = e
are_same false false e = refl

-- where one test holds, so does the other
infix 10 ◌needs◌
abbrev ◌needs◌ : Bool → Bool → Bool
a needs b = not a || b

needed : {a b : Bool} → (a needs b) ≡ true → a ≡ true → b ≡ true
needed h e = rw e at h

abbrev all_hold : List Bool → Bool
all_hold [] = true
all_hold (t ∷ tests) = t && all_hold tests

holds_at : (k : ℕ) (tests : List Bool) → all_hold tests ≡ true → get_or tests k true ≡ true
holds_at k [] h = refl
holds_at zero (t ∷ tests) h = (and_split t (all_hold tests) h).0
holds_at (suc k) (t ∷ tests) h = holds_at k tests (and_split t (all_hold tests) h).1

abbrev tests : Line → ℕ → ℕ → List Bool
tests l which place =
    (l.kind.bytes is (row_at place).size)
    ∷ (same l.kind.signed (row_at place).signed)
    ∷ (l.kind.low =? (row_at place).low)
    ∷ (l.kind.high =? (row_at place).high)
    ∷ (same (is_read_only l) (not (row_at place).writable))
    ∷ ((row_at place).writable needs each 4 (λ k. same (is_locked (row_at place).lock k) (not (k among l.writable))))
    ∷ (same (l.index among 0x6330 ∷ 0x6342 ∷ 0x6360 ∷ 0x63B0 ∷ 0x63C2 ∷ []) (row_at place).choice)
    ∷ (same (l.index among 0x6320 ∷ 0x63A0 ∷ []) (place is UPPER_LIMIT))
    ∷ (same (l.index among 0x6321 ∷ 0x63A1 ∷ []) (place is LOWER_LIMIT))
    ∷ (l.index is 0x1600 needs place is RECEIVE_MAP + l.sub)
    ∷ (l.index is 0x1A00 needs place is TRANSMIT_MAP + l.sub)
    ∷ (l.index among 0x1600 ∷ 0x1A00 ∷ [] needs l.sub below 5)
    ∷ (same (l.index among 0x1600 ∷ 0x1A00 ∷ []) (not (place below RECEIVE_MAP || not (place below SET_POINT))))
    ∷ (l.index is (row_at place).index + ABOVE * which)
    ∷ (l.sub is (row_at place).sub)
    ∷ (same (is_held l) (place below SELECTION))
    ∷ (same (l.index is 0x6040) (place is CONTROL_WORD))
    ∷ (same (l.index is 0x6041) (place is STATUS_WORD))
    ∷ (same (l.index is 0x604E) (place is ERROR_CODE))
    ∷ (same (l.index is 0x2000) (place is SELECTION))
    ∷ (same (l.index is 0x6310 && l.sub is 1) (place is COMMAND && which is 0))
    ∷ (same (l.index is 0x6390 && l.sub is 1) (place is COMMAND && which is 1))
    ∷ (is_held l needs l.fresh =? (row_at place).fresh)
    ∷ (sized (row_at place).size)
    ∷ []

abbrev byte_tests : Line → ℕ → List Bool
byte_tests l number =
    (number_for l.kind l.fresh is number)
    ∷ (l.kind.bytes is 1)
    ∷ is_read_only l
    ∷ not (l.index is 0x6040)
    ∷ not (l.index is 0x6041)
    ∷ not (l.index is 0x604E)
    ∷ not (l.index is 0x2000)
    ∷ not (l.index is 0x6310 && l.sub is 1)
    ∷ not (l.index is 0x6390 && l.sub is 1)
    ∷ []

abbrev pub agrees : Line → Named → Bool
agrees l (value which place) = all_hold (tests l which place)
agrees l (byte number) = all_hold (byte_tests l number)
agrees l (nothing abort) = false

pub all_agree : of_all (λ l. agrees l (named l.index l.sub)) sheet ≡ true
unfolding sheet objects is_signed is_choice each named place_of place_from block_number entry_at record_entry is_locked number_for
all_agree = refl

-- what a value's row has, by the columns of its line
pub record Agrees (l : Line) (which place : ℕ) : Type 0 where
  pub bytes : l.kind.bytes ≡ (row_at place).size
  pub signed : l.kind.signed ≡ (row_at place).signed
  pub low : l.kind.low ≡ (row_at place).low
  pub high : l.kind.high ≡ (row_at place).high
  pub read_only : is_read_only l ≡ not (row_at place).writable
  -- in each of the four states
  pub lock : (row_at place).writable ≡ true → (now : ℕ) → now < 4 → is_locked (row_at place).lock now ≡ not (now among l.writable)
  pub choice : (l.index among 0x6330 ∷ 0x6342 ∷ 0x6360 ∷ 0x63B0 ∷ 0x63C2 ∷ []) ≡ (row_at place).choice
  pub upper : (l.index among 0x6320 ∷ 0x63A0 ∷ []) ≡ (place is UPPER_LIMIT)
  pub lower : (l.index among 0x6321 ∷ 0x63A1 ∷ []) ≡ (place is LOWER_LIMIT)
  pub receive : (l.index is 0x1600) ≡ true → place ≡ RECEIVE_MAP + l.sub
  pub transmit : (l.index is 0x1A00) ≡ true → place ≡ TRANSMIT_MAP + l.sub
  pub map_sub : (l.index among 0x1600 ∷ 0x1A00 ∷ []) ≡ true → l.sub < 5
  pub mapped : (l.index among 0x1600 ∷ 0x1A00 ∷ []) ≡ not (place below RECEIVE_MAP || not (place below SET_POINT))
  pub place_index : l.index ≡ (row_at place).index + ABOVE * which
  pub place_sub : l.sub ≡ (row_at place).sub
  -- told by index and sub-index, or one of those told by name
  pub held : is_held l ≡ (place below SELECTION)
  pub control : (l.index is 0x6040) ≡ (place is CONTROL_WORD)
  pub status : (l.index is 0x6041) ≡ (place is STATUS_WORD)
  pub error : (l.index is 0x604E) ≡ (place is ERROR_CODE)
  pub selection : (l.index is 0x2000) ≡ (place is SELECTION)
  pub command : (l.index is 0x6310 && l.sub is 1) ≡ (place is COMMAND && which is 0)
  pub pressure_command : (l.index is 0x6390 && l.sub is 1) ≡ (place is COMMAND && which is 1)
  pub fresh : is_held l ≡ true → l.fresh ≡ (row_at place).fresh
  pub sizes : sized (row_at place).size ≡ true

pub agreed : (l : Line) (which place : ℕ) → agrees l (value which place) ≡ true → Agrees l which place
agreed l which place h =
    let at : (k : ℕ) → get_or (tests l which place) k true ≡ true = λ k. holds_at k (tests l which place) h in
    record {
      bytes = eqb-true _ _ (at 0);
      signed = are_same _ _ (at 1);
      low = =?-yes _ _ (at 2);
      high = =?-yes _ _ (at 3);
      read_only = are_same _ _ (at 4);
      lock = λ w now b. are_same _ _ (each_at 4 (λ k. same (is_locked (row_at place).lock k) (not (k among l.writable))) now (needed (at 5) w) b);
      choice = are_same _ _ (at 6);
      upper = are_same _ _ (at 7);
      lower = are_same _ _ (at 8);
      receive = λ e. eqb-true _ _ (needed (at 9) e);
      transmit = λ e. eqb-true _ _ (needed (at 10) e);
      map_sub = λ e. ltb-true _ _ (needed (at 11) e);
      mapped = are_same _ _ (at 12);
      place_index = eqb-true _ _ (at 13);
      place_sub = eqb-true _ _ (at 14);
      held = are_same _ _ (at 15);
      control = are_same _ _ (at 16);
      status = are_same _ _ (at 17);
      error = are_same _ _ (at 18);
      selection = are_same _ _ (at 19);
      command = are_same _ _ (at 20);
      pressure_command = are_same _ _ (at 21);
      fresh = λ e. =?-yes _ _ (needed (at 22) e);
      sizes = at 23;
    }

-- a byte that never changes: its value is the line's, whatever is told
pub record IsByte (l : Line) (number : ℕ) : Type 0 where
  pub number_is : number_for l.kind l.fresh ≡ number
  pub bytes : l.kind.bytes ≡ 1
  pub read_only : is_read_only l ≡ true
  pub value_is : (t : Told) → value_at t l ≡ l.fresh

pub is_byte : (l : Line) (number : ℕ) → agrees l (byte number) ≡ true → IsByte l number
is_byte l number h =
    let at : (k : ℕ) → get_or (byte_tests l number) k true ≡ true = λ k. holds_at k (byte_tests l number) h in
    record {
      number_is = eqb-true _ _ (at 0);
      bytes = eqb-true _ _ (at 1);
      read_only = at 2;
      value_is = λ t. unnamed t (at 2) (not-true _ (at 3)) (not-true _ (at 4)) (not-true _ (at 5)) (not-true _ (at 6)) (not-true _ (at 7)) (not-true _ (at 8));
    }
  where
    unnamed :
        (t : Told) → is_read_only l ≡ true →
        (l.index is 0x6040) ≡ false → (l.index is 0x6041) ≡ false → (l.index is 0x604E) ≡ false → (l.index is 0x2000) ≡ false →
        (l.index is 0x6310 && l.sub is 1) ≡ false → (l.index is 0x6390 && l.sub is 1) ≡ false → value_at t l ≡ l.fresh
    unnamed t r a b c e f g = unfold value_at in rw (r, a, b, c, e, f, g)

module _ (index sub : ℕ) (h : has_entry index sub ≡ true) where
  entry_found : Found (λ l. agrees l (named l.index l.sub)) (line_at index sub) index sub
  entry_found = found (λ l. agrees l (named l.index l.sub)) index sub all_agree h

  pub by_entry {ℓ} :
      {X : Type ℓ} →
      ((which place : ℕ) → named index sub ≡ value which place → Object which place → Agrees (line_at index sub) which place → X) →
      ((number : ℕ) → named index sub ≡ byte number → IsByte (line_at index sub) number → X) →
      X
  by_entry {X} f g = by (named index sub) refl (let e = entry_found in rw (e.its_index, e.its_sub) at e.passes) (named_in_table index sub)
    where
      by : (n : Named) → named index sub ≡ n → agrees (line_at index sub) n ≡ true → InTable n → X
      by (value which place) e a o = f which place e o (agreed _ which place a)
      by (byte number) e a o = g number e (is_byte _ number a)
      by (nothing abort) e a o = clash a refl

-- ---- what is named has a line, and a value one name

pub listed : (index sub which place : ℕ) → named index sub ≡ value which place → has_entry index sub ≡ true
listed index sub which place e =
    by_cases (has_entry index 0)
    (λ h. by_cases (has_entry index sub) (λ k. k) (λ k. let never : value which place ≡ nothing NoSubIndex = sym e ∙ no_entry index sub h k in apart (cc)))
    (λ h. let never : value which place ≡ nothing NoObject = sym e ∙ no_object index sub h in apart (cc))

-- so a value is that of its line
pub by_value {ℓ} :
    {X : Type ℓ} (index sub which place : ℕ) → named index sub ≡ value which place →
    (has_entry index sub ≡ true → Object which place → Agrees (line_at index sub) which place → X) → X
by_value {X} index sub which place e f =
    let h = listed index sub which place e in
    by_entry index sub h
    (λ v k g o a.
    let one : value v k ≡ value which place = sym g ∙ e in
    let w : v ≡ which = cc in
    let p : k ≡ place = cc in
    f h (rw (w, p) at o) (rw (w, p) at a))
    (λ n g b. let never : byte n ≡ value which place = sym g ∙ e in apart (cc))

pub one_name :
    (index sub i j which place : ℕ) → named index sub ≡ value which place → named i j ≡ value which place → (index ≡ i) × (sub ≡ j)
one_name index sub i j which place e f =
    let p = its_name index sub e in
    let q = its_name i j f in
    (p.0 ∙ sym q.0, p.1 ∙ sym q.1)
  where
    its_name : (index sub : ℕ) → named index sub ≡ value which place → (index ≡ (row_at place).index + ABOVE * which) × (sub ≡ (row_at place).sub)
    its_name index sub e =
        by_value index sub which place e (λ h o a. (sym (its_index index sub h) ∙ a.place_index, sym (its_sub index sub h) ∙ a.place_sub))

-- ---- numbers and values of a line's kind are those of its row

module _ {l : Line} {which place : ℕ} (a : Agrees l which place) where
  pub stands_is : (n : ℕ) → stands_for l.kind n ≡ value_of (row_at place).size (row_at place).signed n
  unfolding stands_for value_of in_span span
  stands_is n = rw (a.bytes, a.signed) (by_size (row_at place).size a.sizes (λ e. rw e) (λ e. rw e) (λ e. rw e))

  pub number_is : (x : ℤ) → number_for l.kind x ≡ number_of (row_at place).size x
  unfolding number_for number_of span
  number_is x = rw a.bytes (by_size (row_at place).size a.sizes (λ e. rw e) (λ e. rw e) (λ e. rw e))
