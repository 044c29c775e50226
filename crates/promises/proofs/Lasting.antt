-- The rules keep a sound state sound, call by call: a value that changes has been tested against its line's range, the limits and the maps' rules, and
-- the other calls change state, error code, position and phase alone.
use Rattle.std.specs.Prelude.{if◌then◌else◌}
use mathlib.Core.Bool.{Bool, true, false, not, cond, ◌&&◌, ◌||◌}
use mathlib.Core.List.{List, [], ◌∷◌}
use mathlib.Core.Path.{◌≡◌, refl, sym, ap, ◌∙◌}
use Prim.Native.Nat.{ℕ, zero, suc, ◌+◌, ◌-◌, ◌%◌, ◌/◌, ◌≤◌, ◌<◌}
use native.Mathlib.Omega.{arith}
use borrow.Author.Tests.{eqb-true, eqb-false, eq-eqb, ne_eqb, ltb-false, le-ltb, not-true, not-false}
use lib.IntN.{ℤ, pos, nat_abs}
use lib.ListN.{drop}
use lib.Signed.{le_z, lt_z}
use Rattle.integers.specs.Words.{each, minus, ◌is◌, ◌below◌, ◌among◌, ◌=?◌, ◌≤?◌}
use Rattle.integers.specs.Range.{Within}
use Rattle.integers.proofs.Cases.{by_cases, by_test, by_less, clash}
use Rattle.integers.proofs.Each.{and_split, and_both, each_at, each_all}
use Rattle.integers.proofs.Linear.{ints, abs_nat}
use Rattle.integers.proofs.Machine.{=?-yes}
use Rattle.promises.specs.Library.{Told, holding, Refusal, ◌when◌, first, Call, fresh, sdo, control, fault, tick, jump, query, receive, send, store, load}
use Rattle.promises.specs.Library.{search}
use Rattle.promises.specs.Sheet.{Line, sheet, line_at, has_entry, is_held, in_range}
use Rattle.promises.specs.Valve.{bit, moved_to, driven, entered, controlled, faulted, ticks}
use Rattle.promises.specs.Sdo.{stands_for, sent_by, crosses, mappable, mapped, map_aborts, write_aborts, aborts, put, written, served, four_from, received}
use Rattle.promises.specs.Sdo.{sound_map}
use Rattle.promises.specs.Image.{tagged, values_in, loaded, fits}
use Rattle.promises.specs.Promises.{sound, refusals, fresh_told, does}
use Rattle.promises.specs.Demands.{is_tagged}
use Rattle.promises.proofs.Sheets.{of_all, its_index, its_sub}
use Rattle.promises.proofs.SoundTold.{SoundParts, sound_parts, sound_from_parts, fits_line}
use Rattle.promises.proofs.Ramps.{ticks_sound}

-- ---- where the first number of a list is 0 none of its conditions holds

-- no number of the list is 0
abbrev pub numbered : List Refusal → Bool
numbered [] = true
numbered (r ∷ rest) = not (r.number is 0) && numbered rest

abbrev pub head_holds : List Refusal → Bool
head_holds [] = false
head_holds (r ∷ rest) = r.holds

pub record Quiet (list : List Refusal) : Type 0 where
  pub head : head_holds list ≡ false
  pub tail : numbered list ≡ true
  pub first_zero : first list ≡ 0

first_fails : (r : Refusal) (rest : List Refusal) → numbered (r ∷ rest) ≡ true → first (r ∷ rest) ≡ 0 → r.holds ≡ false
first_fails r rest n e =
    by_cases r.holds
    (λ h. clash (eq-eqb r.number 0 (rw h at e)) (not-true (r.number is 0) (and_split (not (r.number is 0)) (numbered rest) n).0))
    (λ h. h)

pub quiet_after : (list : List Refusal) (k : ℕ) → numbered list ≡ true → first list ≡ 0 → Quiet (drop k list)
quiet_after [] zero n e = record { head = refl; tail = n; first_zero = e }
quiet_after [] (suc k) n e = record { head = refl; tail = n; first_zero = e }
quiet_after (r ∷ rest) zero n e = record { head = first_fails r rest n e; tail = n; first_zero = e }
quiet_after (r ∷ rest) (suc k) n e =
    quiet_after rest k (and_split (not (r.number is 0)) (numbered rest) n).1 (rw (first_fails r rest n e) at e)

-- ---- values in the ranges of their lines

-- a value lies in the range of an entry's line
abbrev pub fits_at : ℕ → ℕ → ℤ → Bool
fits_at index sub x = let kind = (line_at index sub).kind in kind.low ≤? x && x ≤? kind.high

-- a line has the range of its entry's line; so has each of the sheet, which has an entry once
abbrev is_own : Line → Bool
is_own l = let kind = (line_at l.index l.sub).kind in kind.low =? l.kind.low && kind.high =? l.kind.high

sheet_own : of_all is_own sheet ≡ true
unfolding sheet
sheet_own = refl

own_low : (l : Line) → is_own l ≡ true → (line_at l.index l.sub).kind.low ≡ l.kind.low
own_low l o =
    let kind = (line_at l.index l.sub).kind in
    =?-yes kind.low l.kind.low (and_split (kind.low =? l.kind.low) (kind.high =? l.kind.high) o).0

own_high : (l : Line) → is_own l ≡ true → (line_at l.index l.sub).kind.high ≡ l.kind.high
own_high l o =
    let kind = (line_at l.index l.sub).kind in
    =?-yes kind.high l.kind.high (and_split (kind.low =? l.kind.low) (kind.high =? l.kind.high) o).1

-- values that lie in range where they are others than before
module _ (v w : ℕ → ℕ → ℤ) (changed : ℕ → ℕ → Bool) (new : (i j : ℕ) → changed i j ≡ true → fits_at i j (v i j) ≡ true)
    (old : (i j : ℕ) → changed i j ≡ false → v i j ≡ w i j) where
  line_ranged : (l : Line) → is_own l ≡ true → fits_line w l ≡ true → fits_line v l ≡ true
  line_ranged l o h =
      by_cases (changed l.index l.sub)
      (λ c. by_cases (is_held l) (λ k. rw (k, ← own_low l o, ← own_high l o) (new l.index l.sub c)) (λ k. rw k))
      (λ c. rw (old l.index l.sub c) h)

  ranged_from : (lines : List Line) → of_all is_own lines ≡ true → in_range lines w ≡ true → in_range lines v ≡ true
  unfolding in_range
  ranged_from [] o r = refl
  ranged_from (l ∷ lines) o r =
      let own = and_split (is_own l) (of_all is_own lines) o in
      let both = and_split (fits_line w l) (in_range lines w) r in
      and_both (line_ranged l own.0 both.0) (ranged_from lines own.1 both.1)

put_ranged :
    (value : ℕ → ℕ → ℤ) (index sub : ℕ) (x : ℤ) → fits_at index sub x ≡ true → in_range sheet value ≡ true → in_range sheet (put index sub x value) ≡ true
put_ranged value index sub x f r =
    ranged_from (put index sub x value) value (λ i j. index is i && sub is j)
    (λ i j c. let both = and_split (index is i) (sub is j) c in rw (c, ← eqb-true index i both.0, ← eqb-true sub j both.1) f)
    (λ i j c. rw c) sheet sheet_own r

-- ---- maps

-- an entry may stand at its place
abbrev stands : ℕ → ℕ → ℕ → ℕ → Bool
stands map count k entry = if entry is 0 then not (k below count) else entry among mappable map

pub map_few : (t : Told) (map : ℕ) → sound_map t map ≡ true → mapped t map 0 ≤ 4
unfolding sound_map
map_few t map s =
    ltb-false 4 (mapped t map 0)
    (not-true _ (and_split (not (4 below mapped t map 0)) (each 4 (λ k. stands map (mapped t map 0) k (mapped t map (k + 1)))) s).0)

pub map_stands : (t : Told) (map : ℕ) → sound_map t map ≡ true → (k : ℕ) → k < 4 → stands map (mapped t map 0) k (mapped t map (k + 1)) ≡ true
unfolding sound_map
map_stands t map s k h =
    let test : ℕ → Bool = λ k. stands map (mapped t map 0) k (mapped t map (k + 1)) in
    each_at 4 test k (and_split (not (4 below mapped t map 0)) (each 4 test) s).1 h

map_from :
    (t : Told) (map : ℕ) → mapped t map 0 ≤ 4 → ((k : ℕ) → k < 4 → stands map (mapped t map 0) k (mapped t map (k + 1)) ≡ true) → sound_map t map ≡ true
unfolding sound_map
map_from t map few f = rw (le-ltb 4 (mapped t map 0) few) (each_all 4 (λ k. stands map (mapped t map 0) k (mapped t map (k + 1))) f)

same_map : (t u : Told) (map : ℕ) → ((k : ℕ) → u.value map k ≡ t.value map k) → sound_map t map ≡ true → sound_map u map ≡ true
same_map t u map h s = map_from u map (rw (h 0) (map_few t map s)) (λ k l. rw (h 0, h (k + 1)) (map_stands t map s k l))

no_zero : (map : ℕ) → (0 among mappable map) ≡ false
no_zero map = by_cases (map is 0x1600) (λ e. rw e) (λ e. rw e)

mapped_stands : (map count k entry : ℕ) → (entry among mappable map) ≡ true → stands map count k entry ≡ true
mapped_stands map count k entry h = by_cases (entry is 0) (λ e. clash (rw (eqb-true entry 0 e) at h) (no_zero map)) (λ e. rw e h)

uncounted_stands : (map old count k entry : ℕ) → count ≤ k → stands map old k entry ≡ true → stands map count k entry ≡ true
uncounted_stands map old count k entry l s = by_cases (entry is 0) (λ e. rw (e, le-ltb k count l)) (λ e. rw e (rw e at s))

free_stands : (map k n : ℕ) → (n is 0 || n among mappable map) ≡ true → stands map 0 k n ≡ true
free_stands map k n s = by_cases (n is 0) (λ e. rw (e, le-ltb k 0 (omega arith))) (λ e. rw e (rw e at s))

-- a write that meets no rule of the map
map_put :
    (t : Told) (map sub : ℕ) (x : ℤ) → first (map_aborts t map sub (nat_abs x)) ≡ 0 → sound_map t map ≡ true →
    sound_map (holding t.selected (put map sub x t.value) t) map ≡ true
unfolding map_aborts
map_put t map sub x e s =
    let n = nat_abs x in
    let list = map_aborts t map sub n in
    let free : (not (sub is 0) && not (mapped t map 0 is 0)) ≡ false = (quiet_after list 0 refl e).head in
    let few : (sub is 0 && 4 below n) ≡ false = (quiet_after list 1 refl e).head in
    let counts : (sub is 0 && not (each n (λ k. mapped t map (k + 1) among mappable map))) ≡ false = (quiet_after list 2 refl e).head in
    let right : (not (sub is 0) && not (n is 0 || n among mappable map)) ≡ false = (quiet_after list 3 refl e).head in
    let same : (map is map) ≡ true = eq-eqb map map refl in
    by_cases (sub is 0)
    (λ z.
    let all = not-false (each n (λ k. mapped t map (k + 1) among mappable map)) (rw z at counts) in
    map_from _ map (rw (same, z) (ltb-false 4 n (rw z at few)))
    (λ k l.
    let later : (sub is (k + 1)) ≡ false = ne_eqb sub (k + 1) (λ q. omega (arith, eqb-true sub 0 z)) in
    rw (same, z, later)
    (by_less k n
    (λ b. mapped_stands map n k (mapped t map (k + 1)) (each_at n (λ k. mapped t map (k + 1) among mappable map) k all b))
    (λ b. uncounted_stands map (mapped t map 0) n k (mapped t map (k + 1)) b (map_stands t map s k l)))))
    (λ z.
    let none : mapped t map 0 ≡ 0 = eqb-true (mapped t map 0) 0 (not-false (mapped t map 0 is 0) (rw z at free)) in
    let fit = not-false (n is 0 || n among mappable map) (rw z at right) in
    map_from _ map (rw (same, z) (map_few t map s))
    (λ k l. rw (same, z) (by_cases (sub is (k + 1)) (λ a. rw (a, none) (free_stands map k n fit)) (λ a. rw a (map_stands t map s k l)))))

map_kept :
    (t : Told) (map index sub : ℕ) (x : ℤ) → ((index is map) ≡ true → first (map_aborts t map sub (nat_abs x)) ≡ 0) → sound_map t map ≡ true →
    sound_map (holding t.selected (put index sub x t.value) t) map ≡ true
map_kept t map index sub x f s =
    by_cases (index is map)
    (λ e. rw (eqb-true index map e) (map_put t map sub x (f e) s))
    (λ e. same_map t _ map (λ k. rw e) s)

-- ---- limits: the lower stands after the upper

limits_put :
    (t : Told) (index sub : ℕ) (x : ℤ) (up low : ℕ) → (up among 0x6320 ∷ 0x63A0 ∷ []) ≡ true → (low among 0x6320 ∷ 0x63A0 ∷ []) ≡ false →
    (low among 0x6321 ∷ 0x63A1 ∷ []) ≡ true → low ≡ up + 1 → crosses t index x ≡ false → (t.value low 1 ≤? t.value up 1) ≡ true →
    (put index sub x t.value low 1 ≤? put index sub x t.value up 1) ≡ true
unfolding crosses
limits_put t index sub x up low a b c next k e =
    by_cases (index is up)
    (λ f.
    let i = eqb-true index up f in
    let over : lt_z x (t.value low 1) ≡ false = rw (i, a, ← next) at k in
    let new : le_z (t.value low 1) x ≡ true = omega (arith, ints) in
    rw (i, ne_eqb up low (λ q. omega arith), eq-eqb up up refl) (by_cases (sub is 1) (λ s. rw s new) (λ s. rw s e)))
    (λ f. by_cases (index is low)
    (λ g.
    let i = eqb-true index low g in
    let back : low - 1 ≡ up = omega arith in
    let under : lt_z (t.value up 1) x ≡ false = rw (i, b, c, back) at k in
    let new : le_z x (t.value up 1) ≡ true = omega (arith, ints) in
    rw (i, ne_eqb low up (λ q. omega arith), eq-eqb low low refl) (by_cases (sub is 1) (λ s. rw s new) (λ s. rw s e)))
    (λ g. rw (f, g) e))

-- ---- states

one_of : (t : Bool) {m n : ℕ} → m < 4 → n < 4 → cond t m n < 4
one_of true p q = p
one_of false p q = q

moved_below : (s before word : ℕ) → moved_to s before word < 4
unfolding moved_to
moved_below s before word =
    one_of (s is 0) (one_of (bit 0 word) (omega arith) (omega arith))
    (one_of (s is 1) (one_of (not (bit 0 word)) (omega arith) (one_of (bit 0 word && bit 1 word && bit 2 word) (omega arith) (omega arith)))
    (one_of (s is 2) (one_of (not (bit 0 word)) (omega arith) (one_of (not (bit 1 word) || not (bit 2 word)) (omega arith) (omega arith)))
    (one_of (bit 3 word && not (bit 3 before)) (omega arith) (omega arith))))

not_three : (t : Bool) (m n : ℕ) → (m is 3) ≡ false → (n is 3) ≡ false → (cond t m n is 3) ≡ false
not_three true m n p q = p
not_three false m n p q = q

-- a control word leads to FAULT from nowhere else
moved_fault : (s before word : ℕ) → s < 4 → (s is 3) ≡ false → (moved_to s before word is 3) ≡ false
unfolding moved_to
moved_fault s before word b h =
    by_cases (s is 0) (λ e. rw e (not_three (bit 0 word) 1 0 refl refl))
    (λ e. by_cases (s is 1)
    (λ f. rw (e, f) (not_three (not (bit 0 word)) 0 _ refl (not_three (bit 0 word && bit 1 word && bit 2 word) 2 1 refl refl)))
    (λ f. by_cases (s is 2)
    (λ g. rw (e, f, g) (not_three (not (bit 0 word)) 0 _ refl (not_three (not (bit 1 word) || not (bit 2 word)) 1 2 refl refl)))
    (λ g. absurd (omega (arith, eqb-false s 0 e, eqb-false s 1 f, eqb-false s 2 g, eqb-false s 3 h)))))

entered_lasts :
    (state word error : ℕ) (t : Told) → SoundParts t → state < 4 → (if state is 3 then not (error is 0) else error is 0) ≡ true →
    sound (entered state word error t) ≡ true
unfolding entered
entered_lasts state word error t p b e =
    sound_from_parts _
    (record {
      state = b;
      ranged = p.ranged;
      limits = p.limits;
      pressure_limits = p.pressure_limits;
      position = by_test (Within (minus 1073741824) (pos 1073741824)) (driven state) (λ d. p.position) (λ d. omega (arith, ints));
      phase = by_test (λ n. n < 4294967296) (driven state) (λ d. p.phase) (λ d. omega arith);
      rest = by_cases (driven state) (λ d. rw d) (λ d. rw d);
      error = e;
      receive = same_map t _ 0x1600 (λ k. refl) p.receive;
      transmit = same_map t _ 0x1A00 (λ k. refl) p.transmit;
      selected = p.selected;
      other = p.other;
    })

controlled_lasts : (word : ℕ) (t : Told) → sound t ≡ true → sound (controlled word t) ≡ true
unfolding controlled
controlled_lasts word t s =
    let p = sound_parts t s in
    let to = moved_to t.state t.control word in
    entered_lasts to word _ t p (moved_below t.state t.control word)
    (by_cases (to is 3)
    (λ e. by_cases (t.state is 3) (λ f. rw e (rw f at p.error)) (λ f. clash e (moved_fault t.state t.control word p.state f)))
    (λ e. rw e))

faulted_lasts : (code : ℕ) (t : Told) → (code is 0) ≡ false → sound t ≡ true → sound (faulted code t) ≡ true
unfolding faulted
faulted_lasts code t z s =
    let p = sound_parts t s in
    entered_lasts 3 t.control _ t p (omega arith) (by_cases (t.state is 3) (λ f. rw f (rw f at p.error)) (λ f. rw (f, z)))

-- ---- a write

record Passed (t : Told) (index sub : ℕ) (x : ℤ) : Type 0 where
  range : fits_at index sub x ≡ true
  uncrossed : crosses t index x ≡ false
  unruled : (index among 0x1600 ∷ 0x1A00 ∷ []) ≡ true → first (map_aborts t index sub (nat_abs x)) ≡ 0

-- the aborts of a write, in their order
abbrev of_write : Told → ℕ → ℕ → ℕ → ℕ → List Refusal
of_write t command index sub n =
    0x05040001 when not (command among 0x40 ∷ 0x2F ∷ 0x2B ∷ 0x27 ∷ 0x23 ∷ [])
    ∷ 0x06020000 when not (has_entry index 0)
    ∷ 0x06090011 when not (has_entry index sub)
    ∷ write_aborts t (line_at index sub) (sent_by command) (stands_for (line_at index sub).kind n)

aborts_are : (t : Told) (command index sub n : ℕ) → (command is 0x40) ≡ false → aborts t command index sub n ≡ of_write t command index sub n
unfolding aborts
aborts_are t command index sub n r = rw r

write_numbered : (t : Told) (command index sub n : ℕ) → numbered (of_write t command index sub n) ≡ true
unfolding write_aborts map_aborts
write_numbered t command index sub n = by_cases ((line_at index sub).index among 0x1600 ∷ 0x1A00 ∷ []) (λ m. rw m) (λ m. rw m)

passed :
    (t : Told) (command index sub n : ℕ) → (command is 0x40) ≡ false → first (aborts t command index sub n) ≡ 0 →
    Passed t index sub (stands_for (line_at index sub).kind n)
unfolding write_aborts
passed t command index sub n r e =
    let l = line_at index sub in
    let x = stands_for l.kind n in
    let list = of_write t command index sub n in
    let none : first list ≡ 0 = sym (ap first (aborts_are t command index sub n r)) ∙ e in
    let after : (k : ℕ) → Quiet (drop k list) = λ k. quiet_after list k (write_numbered t command index sub n) none in
    let has = not-false (has_entry index sub) (after 2).head in
    let i : l.index ≡ index = its_index index sub has in
    let j : l.sub ≡ sub = its_sub index sub has in
    let high : lt_z l.kind.high x ≡ false = (after 7).head in
    let low : lt_z x l.kind.low ≡ false = (after 8).head in
    let from : le_z l.kind.low x ≡ true = omega (arith, ints) in
    let to : le_z x l.kind.high ≡ true = omega (arith, ints) in
    let ruled = (after 11).first_zero in
    record {
      range = and_both from to;
      uncrossed = rw i at (after 9).head;
      unruled = λ m. rw (i, j, m) at ruled;
    }

holding_lasts :
    (t : Told) (selected : ℕ) (value : ℕ → ℕ → ℤ) → SoundParts t → selected < 2 → in_range sheet value ≡ true → (value 0x6321 1 ≤? value 0x6320 1) ≡ true →
    (value 0x63A1 1 ≤? value 0x63A0 1) ≡ true → sound_map (holding t.selected value t) 0x1600 ≡ true → sound_map (holding t.selected value t) 0x1A00 ≡ true →
    sound (holding selected value t) ≡ true
holding_lasts t selected value p one ranged limits pressure_limits receives transmits =
    sound_from_parts _
    (record {
      state = p.state;
      ranged = ranged;
      limits = limits;
      pressure_limits = pressure_limits;
      position = p.position;
      phase = p.phase;
      rest = p.rest;
      error = p.error;
      receive = same_map (holding t.selected value t) _ 0x1600 (λ k. refl) receives;
      transmit = same_map (holding t.selected value t) _ 0x1A00 (λ k. refl) transmits;
      selected = one;
      other = p.other;
    })

-- a selection is 0 or 1
selection_below : (sub : ℕ) (x : ℤ) → fits_at 0x2000 sub x ≡ true → nat_abs x < 2
unfolding sheet
selection_below sub x f =
    by_cases (0 is sub)
    (λ e. let s = and_split (le_z (pos 0) x) (le_z x (pos 1)) (rw e at f) in omega (arith, ints, abs_nat x))
    (λ e. let s = and_split (le_z (pos 0) x) (le_z x (pos 0)) (rw e at f) in omega (arith, ints, abs_nat x))

written_lasts : (index sub : ℕ) (x : ℤ) (t : Told) → sound t ≡ true → Passed t index sub x → sound (written index sub x t) ≡ true
unfolding written
written_lasts index sub x t s a =
    let p = sound_parts t s in
    by_cases (index is 0x6040) (λ e. rw e (controlled_lasts (nat_abs x) t s))
    (λ e. by_cases (index is 0x2000)
    (λ f.
    let i = eqb-true index 0x2000 f in
    rw (e, f)
    (holding_lasts t (nat_abs x) t.value p (selection_below sub x (rw i at a.range)) p.ranged p.limits p.pressure_limits
    (same_map t _ 0x1600 (λ k. refl) p.receive) (same_map t _ 0x1A00 (λ k. refl) p.transmit)))
    (λ f. rw (e, f)
    (holding_lasts t t.selected (put index sub x t.value) p p.selected (put_ranged t.value index sub x a.range p.ranged)
    (limits_put t index sub x 0x6320 0x6321 refl refl refl refl a.uncrossed p.limits)
    (limits_put t index sub x 0x63A0 0x63A1 refl refl refl refl a.uncrossed p.pressure_limits)
    (map_kept t 0x1600 index sub x (λ g. let i = eqb-true index 0x1600 g in rw i at (a.unruled (rw i))) p.receive)
    (map_kept t 0x1A00 index sub x (λ g. let i = eqb-true index 0x1A00 g in rw i at (a.unruled (rw i))) p.transmit))))

pub served_lasts : (command index sub n : ℕ) (t : Told) → sound t ≡ true → sound (served command index sub n t) ≡ true
unfolding served
served_lasts command index sub n t s =
    by_cases (command is 0x40) (λ r. rw r s)
    (λ r. by_cases (first (aborts t command index sub n) is 0)
    (λ e. rw (r, e) (written_lasts index sub _ t s (passed t command index sub n r (eqb-true _ 0 e))))
    (λ e. rw (r, e) s))

pub received_lasts : (entries pdo : List ℕ) (t : Told) → sound t ≡ true → sound (received entries pdo t) ≡ true
unfolding received
received_lasts [] pdo t s = s
received_lasts (e ∷ entries) pdo t s =
    received_lasts entries (drop 2 pdo) _ (served_lasts 0x2B (e / 65536) (e / 256 % 256) (four_from pdo 0) t s)

-- ---- a load

tagged_own : of_all (λ l. is_held l && is_own l) tagged ≡ true
unfolding tagged sheet
tagged_own = refl

tagged_fits :
    (lines : List Line) (v : ℕ → ℕ → ℤ) → of_all (λ l. is_held l && is_own l) lines ≡ true → in_range lines v ≡ true →
    (i j : ℕ) → is_tagged lines i j ≡ true → fits_at i j (v i j) ≡ true
unfolding in_range
tagged_fits [] v o r i j h = clash h refl
tagged_fits (l ∷ lines) v o r i j h =
    let own = and_split (is_held l && is_own l) (of_all (λ l. is_held l && is_own l) lines) o in
    let both = and_split (fits_line v l) (in_range lines v) r in
    let held = and_split (is_held l) (is_own l) own.0 in
    by_cases (l.index is i && l.sub is j)
    (λ e.
    let same = and_split (l.index is i) (l.sub is j) e in
    rw (← eqb-true l.index i same.0, ← eqb-true l.sub j same.1, own_low l held.1, own_high l held.1) (rw held.0 at both.0))
    (λ e. tagged_fits lines v own.1 both.1 i j (rw e at h))

untagged : (lines : List Line) (bytes : List ℕ) (value : ℕ → ℕ → ℤ) (i j : ℕ) → is_tagged lines i j ≡ false → values_in lines bytes value i j ≡ value i j
unfolding values_in
untagged [] bytes value i j h = refl
untagged (l ∷ lines) bytes value i j h =
    by_cases (l.index is i && l.sub is j)
    (λ e. clash refl (rw e at h))
    (λ e. rw e (untagged lines (drop (3 + l.kind.bytes) bytes) value i j (rw e at h)))

loaded_lasts : (bytes : List ℕ) (t : Told) → sound t ≡ true → fits bytes t ≡ true → sound (holding t.selected (loaded bytes t) t) ≡ true
unfolding fits tagged sheet
loaded_lasts bytes t s f =
    let p = sound_parts t s in
    let both = and_split (in_range tagged (loaded bytes t)) (loaded bytes t 0x6321 1 ≤? loaded bytes t 0x6320 1) f in
    let other : (i j : ℕ) → is_tagged tagged i j ≡ false → loaded bytes t i j ≡ t.value i j = λ i j. untagged tagged bytes t.value i j in
    holding_lasts t t.selected (loaded bytes t) p p.selected
    (ranged_from (loaded bytes t) t.value (is_tagged tagged) (tagged_fits tagged (loaded bytes t) tagged_own both.0) other sheet sheet_own p.ranged)
    both.1 (rw (other 0x63A1 1 refl, other 0x63A0 1 refl) p.pressure_limits)
    (same_map t _ 0x1600 (λ k. other 0x1600 k refl) p.receive) (same_map t _ 0x1A00 (λ k. other 0x1A00 k refl) p.transmit)

-- ---- each call

pub fresh_sound : sound fresh_told ≡ true
unfolding sound fresh_told in_range sheet sound_map each
fresh_sound = refl

pub lasts : (c : Call) (t : Told) → sound t ≡ true → first (refusals c t) ≡ 0 → sound (does c t).state ≡ true
lasts fresh t s r = fresh_sound
lasts (sdo request room) t s r = served_lasts _ _ _ _ t s
lasts (control word) t s r = controlled_lasts (word % 65536) t s
lasts (fault code) t s r = faulted_lasts (code % 65536) t (quiet_after (refusals (fault code) t) 1 refl r).head s
lasts tick t s r = unfold ticks in ticks_sound t s 1
lasts (jump n) t s r = ticks_sound t s n
lasts (query q) t s r = s
lasts (receive pdo) t s r = received_lasts _ pdo t s
lasts (send room) t s r = s
lasts (store room) t s r = s
lasts (load bytes) t s r = loaded_lasts bytes t s (not-false (fits bytes t) (quiet_after (refusals (load bytes) t) 3 refl r).head)
lasts (search bytes tag) t s r = s
