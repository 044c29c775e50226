-- A sound map by its parts, both ways. The fresh maps are sound, and every write that is allowed keeps a map sound: what it would count or let stand it has tested.
use Rattle.std.specs.Prelude.{Result, Ok, Err, if◌then◌else◌}
use mathlib.Core.Bool.{Bool, true, false, not, cond, ◌&&◌, ◌||◌}
use mathlib.Core.List.{List, [], ◌∷◌}
use mathlib.Core.Path.{◌≡◌, refl, ◌∙◌}
use Prim.Native.Nat.{ℕ, zero, suc, ◌+◌, ◌*◌, ◌-◌, ◌≤◌, ◌<◌}
use native.Mathlib.Omega.{arith}
use borrow.Author.Tests.{eqb-true, eqb-false, ne_eqb, ltb-false, lt-ltb, le-ltb, not-true, not-false}
use lib.Dec.{eqb}
use lib.ListN.{length, take, length-set}
use lib.Seq.{get_or-set_same, get_or-set_other}
use Rattle.integers.specs.Words.{each, ◌is◌, ◌below◌, ◌among◌}
use Rattle.integers.proofs.Cases.{by_cases, by_less, clash, apart}
use Rattle.integers.proofs.Each.{and_split, and_both, each_at, each_all}
use Rattle.mapping.specs.Maps.{ENTRIES, RECEIVABLE, SENDABLE, bytes_of, entry_of, stands_at, with_at, length_of, map_length, fresh_map, fresh_maps, with_receive, with_transmit}
use Rattle.mapping.specs.Rules.{each_mapped, is_right, ruling_on}
use Rattle.mapping.specs.Sound.{may_stand, sound_map, sound_maps}
use Rattle.mapping.specs.declared.Map.{Map}
use Rattle.mapping.specs.declared.Maps.{Maps}
use Rattle.mapping.specs.declared.Misfit.{Misfit}
use Rattle.mapping.specs.declared.Misfit.TheVariants.{WhileCounted, AboveFour, NotMappable}
use Rattle.mapping.proofs.Laws.{length_more}

-- ---- the parts

pub record Parts (mappable : List ℕ) (m : Map) : Type 0 where
  pub long : length m.entries ≡ ENTRIES
  pub few : m.count ≤ ENTRIES
  pub stands : (k : ℕ) → k < ENTRIES → may_stand mappable m.count k (entry_of m k) ≡ true

pub map_parts : {mappable : List ℕ} {m : Map} → sound_map mappable m ≡ true → Parts mappable m
unfolding sound_map
map_parts {mappable} {m} s =
    let abc = and_split ((length m.entries is ENTRIES) && not (ENTRIES below m.count)) (each ENTRIES (λ k. may_stand mappable m.count k (entry_of m k))) s in
    let ab = and_split (length m.entries is ENTRIES) (not (ENTRIES below m.count)) abc.0 in
    record {
      long = eqb-true _ _ ab.0;
      few = ltb-false _ _ (not-true _ ab.1);
      stands = λ k h. each_at ENTRIES (λ k. may_stand mappable m.count k (entry_of m k)) k abc.1 h;
    }

pub map_from_parts : {mappable : List ℕ} {m : Map} → Parts mappable m → sound_map mappable m ≡ true
unfolding sound_map
map_from_parts {mappable} {m} p = rw (p.long, le-ltb ENTRIES m.count p.few) (each_all ENTRIES (λ k. may_stand mappable m.count k (entry_of m k)) p.stands)

pub fresh_sound : sound_maps fresh_maps ≡ true
unfolding sound_maps fresh_maps fresh_map sound_map may_stand each
fresh_sound = refl

-- ---- a table of what may be mapped

-- zero is none of them
abbrev pub NoZero : List ℕ → Type 0
NoZero mappable = 0 among mappable ≡ false

-- an entry that may be mapped may stand anywhere
mapped_stands : (mappable : List ℕ) → NoZero mappable → (count k entry : ℕ) → entry among mappable ≡ true → may_stand mappable count k entry ≡ true
unfolding may_stand
mapped_stands mappable z count k entry h =
    by_cases (entry is 0) (λ e. let same = eqb-true entry 0 e in clash (rw same at h) z) (λ e. rw e h)

-- and an entry that stands is zero or may be mapped; where it is counted, it may be mapped
module _ (mappable : List ℕ) (count k entry : ℕ) (s : may_stand mappable count k entry ≡ true) where
  pub stands_right : (entry is 0 || entry among mappable) ≡ true
  unfolding may_stand
  stands_right = by_cases (entry is 0) (λ e. rw e) (λ e. let h = rw e at s in rw (e, h))

  stands_mapped : k < count → entry among mappable ≡ true
  unfolding may_stand
  stands_mapped l = by_cases (entry is 0) (λ e. clash (rw e at s) (rw (lt-ltb k count l))) (λ e. rw e at s)

-- ---- a write that is allowed

passed : (t : Bool) (why : Misfit) (rest : Result (Unit {0}) Misfit) → cond t (Err why) rest ≡ Ok tt → (t ≡ false) × (rest ≡ Ok tt)
passed true why rest e = apart (cc)
passed false why rest e = (refl, e)

-- what each test has let through
pub record Passed (mappable : List ℕ) (m : Map) (sub number : ℕ) : Type 0 where
  pub free : (not (sub is 0) && not (m.count is 0)) ≡ false
  pub few : (sub is 0 && ENTRIES below number) ≡ false
  pub right : is_right mappable m sub number ≡ true

pub allowed : (mappable : List ℕ) (m : Map) (sub number : ℕ) → ruling_on mappable m sub number ≡ Ok tt → Passed mappable m sub number
unfolding ruling_on
allowed mappable m sub number e =
    let a = passed (not (sub is 0) && not (m.count is 0)) WhileCounted _ e in
    let b = passed (sub is 0 && ENTRIES below number) AboveFour _ a.1 in
    let c = passed (not (is_right mappable m sub number)) NotMappable _ b.1 in
    record { free = a.0; few = b.0; right = not-false _ c.0 }

-- ---- it keeps a map sound

module _ (mappable : List ℕ) (z : NoZero mappable) {m : Map} (p : Parts mappable m) where
  -- the number of entries: those that it counts may be mapped, and the others stood before
  count_kept : (number : ℕ) → ruling_on mappable m 0 number ≡ Ok tt → Parts mappable (with_at 0 number m)
  unfolding with_at is_right each_mapped may_stand
  count_kept number e =
      let a = allowed mappable m 0 number e in
      record {
        long = p.long;
        few = ltb-false ENTRIES number a.few;
        stands = λ k h. by_less k number
            (λ l. mapped_stands mappable z number k (entry_of m k) (each_at number (λ k. entry_of m k among mappable) k a.right l))
            (λ l. uncounted number k l (stands_right mappable m.count k (entry_of m k) (p.stands k h)));
      }
    where
      uncounted : (number k : ℕ) → number ≤ k → (entry_of m k is 0 || entry_of m k among mappable) ≡ true → may_stand mappable number k (entry_of m k) ≡ true
      uncounted number k l s = by_cases (entry_of m k is 0) (λ e. rw (e, le-ltb k number l)) (λ e. rw e (rw e at s))

  -- an entry: none is counted, and it is zero or may be mapped
  entry_kept : (sub number : ℕ) → 0 < sub → sub ≤ ENTRIES → ruling_on mappable m sub number ≡ Ok tt → Parts mappable (with_at sub number m)
  unfolding with_at is_right may_stand
  entry_kept sub number l h e =
      let a = allowed mappable m sub number e in
      let later : (sub is 0) ≡ false = ne_eqb sub 0 (λ q. omega arith) in
      let none : m.count ≡ 0 = eqb-true m.count 0 (not-false (eqb m.count 0) (rw later at a.free)) in
      let right : (number is 0 || number among mappable) ≡ true = rw later at a.right in
      rw later
      (record {
        long = length-set m.entries (sub - 1) number ∙ p.long;
        few = p.few;
        stands = λ k b. by_cases (eqb k (sub - 1))
            (λ t. let same = eqb-true k (sub - 1) t in rw (same, get_or-set_same m.entries (sub - 1) number 0 (omega (arith, p.long))) (fits (sub - 1) none right))
            (λ t. let other = eqb-false k (sub - 1) t in rw (get_or-set_other m.entries (sub - 1) k number 0 other) (p.stands k b));
      })
    where
      fits : (k : ℕ) → m.count ≡ 0 → (number is 0 || number among mappable) ≡ true → may_stand mappable m.count k number ≡ true
      fits k none s = by_cases (number is 0) (λ e. rw (e, none, le-ltb k 0 (omega arith))) (λ e. rw e (rw e at s))

pub write_kept : (mappable : List ℕ) → NoZero mappable → (m : Map) (sub number : ℕ) → sound_map mappable m ≡ true → sub ≤ ENTRIES → ruling_on mappable m sub number ≡ Ok tt → sound_map mappable (with_at sub number m) ≡ true
write_kept mappable z m zero number s h e = map_from_parts (count_kept mappable z (map_parts s) number e)
write_kept mappable z m (suc j) number s h e = map_from_parts (entry_kept mappable z (map_parts s) (suc j) number (omega arith) h e)

-- ---- what becomes of a write, by its sub-index

pub rule_entry : (mappable : List ℕ) (m : Map) (k n : ℕ) → 1 ≤ k → ruling_on mappable m k n ≡ (if not (m.count is 0) then Err WhileCounted else if n is 0 || n among mappable then Ok tt else Err NotMappable)
unfolding ruling_on is_right
rule_entry mappable m k n h =
    let later : (k is 0) ≡ false = ne_eqb k 0 (λ e. omega arith) in
    by_cases (m.count is 0)
    (λ e. by_cases (n is 0 || n among mappable) (λ f. rw (later, e, f)) (λ f. rw (later, e, f)))
    (λ e. rw (later, e))

-- of a sound map an entry may be mapped exactly where it is not zero
pub mapped_or_zero : (mappable : List ℕ) → NoZero mappable → {m : Map} → Parts mappable m → (k : ℕ) → k < ENTRIES → (entry_of m k among mappable) ≡ not (entry_of m k is 0)
unfolding may_stand
mapped_or_zero mappable z {m} p k h =
    by_cases (entry_of m k is 0)
    (λ e. let same = eqb-true (entry_of m k) 0 e in rw same z)
    (λ e. rw e (rw e at (p.stands k h)))

pub rule_count : (mappable : List ℕ) (m : Map) (n : ℕ) → ruling_on mappable m 0 n ≡ (if 4 below n then Err AboveFour else if each n (λ k. entry_of m k among mappable) then Ok tt else Err NotMappable)
unfolding ruling_on is_right each_mapped
rule_count mappable m n =
    by_cases (each n (λ k. entry_of m k among mappable))
    (λ e. by_less 4 n (λ l. rw (lt-ltb 4 n l)) (λ l. rw (le-ltb 4 n l, e)))
    (λ e. by_less 4 n (λ l. rw (lt-ltb 4 n l)) (λ l. rw (le-ltb 4 n l, e)))

-- ---- of both maps

pub maps_split : (maps : Maps) → sound_maps maps ≡ true → (sound_map RECEIVABLE maps.receive ≡ true) × (sound_map SENDABLE maps.transmit ≡ true)
unfolding sound_maps
maps_split maps s = and_split (sound_map RECEIVABLE maps.receive) (sound_map SENDABLE maps.transmit) s

pub maps_both : (maps : Maps) → sound_map RECEIVABLE maps.receive ≡ true → sound_map SENDABLE maps.transmit ≡ true → sound_maps maps ≡ true
unfolding sound_maps
maps_both maps r t = and_both r t

pub receive_kept : (maps : Maps) (sub number : ℕ) → sound_maps maps ≡ true → sub ≤ ENTRIES → ruling_on RECEIVABLE maps.receive sub number ≡ Ok tt → sound_maps (with_receive (with_at sub number maps.receive) maps) ≡ true
receive_kept maps sub number s h e =
    let both = maps_split maps s in
    maps_both _ (write_kept RECEIVABLE refl maps.receive sub number both.0 h e) both.1

pub transmit_kept : (maps : Maps) (sub number : ℕ) → sound_maps maps ≡ true → sub ≤ ENTRIES → ruling_on SENDABLE maps.transmit sub number ≡ Ok tt → sound_maps (with_transmit (with_at sub number maps.transmit) maps) ≡ true
transmit_kept maps sub number s h e =
    let both = maps_split maps s in
    maps_both _ both.0 (write_kept SENDABLE refl maps.transmit sub number both.1 h e)

-- ---- one of three

pub one_of_three : (a b c entry : ℕ) → entry among (a ∷ b ∷ c ∷ []) ≡ true → {X : Type 0} → (entry ≡ a → X) → (entry ≡ b → X) → (entry ≡ c → X) → X
one_of_three a b c entry h f g k =
    by_cases (entry is a) (λ e. f (eqb-true entry a e))
    (λ e. by_cases (entry is b) (λ d. g (eqb-true entry b d))
    (λ d. by_cases (entry is c) (λ q. k (eqb-true entry c q)) (λ q. clash h (rw (e, d, q)))))

-- ---- how large the numbers of a sound map are

-- a number below the bound of its sub-index: a byte at 0, four bytes elsewhere
abbrev Small : List ℕ → Type 0
Small mappable = (entry : ℕ) → entry among mappable ≡ true → entry < 4294967296

at_small : (mappable : List ℕ) → Small mappable → {m : Map} → Parts mappable m → (sub : ℕ) → sub ≤ ENTRIES → stands_at m sub ≤ cond (sub is 0) 255 4294967295
unfolding stands_at
at_small mappable small {m} p sub h =
    by_cases (sub is 0) (λ e. rw e (omega (arith, p.few)))
    (λ e. let later = eqb-false sub 0 e in rw e (entry (sub - 1) (p.stands (sub - 1) (omega arith))))
  where
    entry : (k : ℕ) → may_stand mappable m.count k (entry_of m k) ≡ true → entry_of m k ≤ 4294967295
    entry k s =
        by_cases (entry_of m k is 0) (λ e. omega (arith, eqb-true (entry_of m k) 0 e))
        (λ e. let one : entry_of m k among mappable ≡ true = rw e at (stands_right mappable m.count k (entry_of m k) s) in omega (arith, small (entry_of m k) one))

pub receive_small : (maps : Maps) → sound_maps maps ≡ true → (sub : ℕ) → sub ≤ ENTRIES → stands_at maps.receive sub ≤ cond (sub is 0) 255 4294967295
receive_small maps s = at_small RECEIVABLE (λ entry h. one_of_three 0x60400010 0x63000110 0x63140110 entry h (λ e. omega (arith, e)) (λ e. omega (arith, e)) (λ e. omega (arith, e))) (map_parts (maps_split maps s).0)

pub transmit_small : (maps : Maps) → sound_maps maps ≡ true → (sub : ℕ) → sub ≤ ENTRIES → stands_at maps.transmit sub ≤ cond (sub is 0) 255 4294967295
transmit_small maps s = at_small SENDABLE (λ entry h. one_of_three 0x60410010 0x604E0010 0x63100110 entry h (λ e. omega (arith, e)) (λ e. omega (arith, e)) (λ e. omega (arith, e))) (map_parts (maps_split maps s).1)

-- ---- the length of a sound map

-- whatever may be mapped has two bytes
abbrev OfTwo : List ℕ → Type 0
OfTwo mappable = (entry : ℕ) → entry among mappable ≡ true → bytes_of entry ≡ 2

pub received_of_two : OfTwo RECEIVABLE
received_of_two entry h = one_of_three 0x60400010 0x63000110 0x63140110 entry h (λ e. rw e) (λ e. rw e) (λ e. rw e)

pub sent_of_two : OfTwo SENDABLE
sent_of_two entry h = one_of_three 0x60410010 0x604E0010 0x63100110 entry h (λ e. rw e) (λ e. rw e) (λ e. rw e)

pub counted_mapped : (mappable : List ℕ) {m : Map} → Parts mappable m → (k : ℕ) → k < m.count → entry_of m k among mappable ≡ true
counted_mapped mappable {m} p k h = stands_mapped mappable m.count k (entry_of m k) (p.stands k (omega (arith, p.few))) h

module _ (mappable : List ℕ) (two : OfTwo mappable) {m : Map} (p : Parts mappable m) where
  first_length : (n : ℕ) → n ≤ m.count → length_of (take n m.entries) ≡ 2 * n
  first_length zero h = refl
  first_length (suc n) h =
      let next : n + 1 ≡ suc n = omega arith in
      let more = rw next at (length_more m.entries n (omega (arith, p.long, p.few))) in
      omega (arith, more, two (entry_of m n) (counted_mapped mappable p n (omega arith)), first_length n (omega arith))

  -- so a PDO has two bytes for each counted entry
  pub two_each : map_length m ≡ 2 * m.count
  unfolding map_length
  two_each = first_length m.count (omega arith)
