-- The codes and the writes of a PDO are read off the rules; the phase after n ticks is one sum over 2^32, as what ran over the end before makes no
-- difference; the height of the triangle is at most 16,384 either way; and the dither's entries are no entry of a block.
use mathlib.Core.Bool.{Bool, true, false, ◌&&◌, ◌||◌}
use mathlib.Core.List.{List, [], ◌∷◌, ◌++◌}
use mathlib.Core.Path.{◌≡◌, refl, sym, ap, ◌∙◌}
use Prim.Native.Nat.{ℕ, zero, suc, ◌+◌, ◌-◌, ◌*◌, ◌%◌, ◌/◌, ◌^◌, ◌≤◌, ◌<◌}
use native.Mathlib.Nat.{mod-add-mod, mod-eq_of_lt, mul-le-mul_left}
use native.Mathlib.Omega.{arith}
use borrow.Author.Tests.{eqb-true, eqb-false, eq-eqb, ne_eqb, ltb-true, ltb-false, lt-ltb, le-ltb}
use lib.Dec.{ltb}
use lib.IntN.{ℤ, pos, negsuc, neg_ℤ, nat_abs, ◌+ℤ◌, ◌-ℤ◌}
use lib.ListN.{length, drop, get_or}
use lib.Signed.{lt_z}
use Rattle.integers.specs.Words.{minus, ◌over◌, ◌is◌, ◌below◌, ◌among◌, ◌=?◌}
use Rattle.integers.specs.Range.{Within}
use Rattle.integers.proofs.Cases.{by_cases, by_test, clash}
use Rattle.integers.proofs.Each.{and_split, each_all}
use Rattle.integers.proofs.Linear.{ints, abs_nat, abs_neg, abs_mul, neg_nat, sub_nat, add_nat}
use Rattle.promises.specs.Library.{Told, holding, Refusal, first, state, command}
use Rattle.promises.specs.Library.{Call, jump, query, receive, Reply, Library, end}
use Rattle.promises.specs.Sheet.{Line, sheet, line_at, has_entry}
use Rattle.promises.specs.Valve as Valve
use Rattle.promises.specs.Valve.{driven, selected, clamp, tick, ticks, height, dither, whole, banded}
use Rattle.promises.specs.Sdo.{stands_for, sent_by, crosses, mappable, map_aborts, write_aborts, aborts, put, written, served, frame, two_from, four_from}
use Rattle.promises.specs.Sdo.{mapped, counted, received, sound_map}
use Rattle.promises.specs.Promises.{sound, fresh_told, Promises}
use Rattle.promises.specs.Histories.{calling, writes_of, making, WriteLength, ProcessData, Dithering}
use Rattle.promises.proofs.SoundTold.{sound_parts, held_in_range}
use Rattle.promises.proofs.Ramps.{ticks_move}
use Rattle.promises.proofs.Lasting.{map_few, map_stands}
use Rattle.promises.proofs.Histories.{counted_at, histories}

-- ---- wish 1: codes

-- each number of a list is one of these
abbrev of_codes : List ℕ → List Refusal → Bool
of_codes codes [] = 0 among codes
of_codes codes (r ∷ rest) = r.number among codes && of_codes codes rest

first_of_codes : (codes : List ℕ) (list : List Refusal) → of_codes codes list ≡ true → (first list among codes) ≡ true
first_of_codes codes [] h = h
first_of_codes codes (r ∷ rest) h =
    let both = and_split (r.number among codes) (of_codes codes rest) h in
    by_cases r.holds (λ e. rw e both.0) (λ e. rw e (first_of_codes codes rest both.1))

abbrev CODES : List ℕ
CODES =
    0 ∷ 0x05040001 ∷ 0x06020000 ∷ 0x06090011 ∷ 0x06010002 ∷ 0x06070012 ∷ 0x06070013 ∷ 0x06090030 ∷ 0x06090031 ∷ 0x06090032 ∷ 0x06090036 ∷ 0x08000022
    ∷ 0x06040042 ∷ 0x06040041 ∷ []

of_codes_lem : (t : Told) (c index sub n : ℕ) → of_codes CODES (aborts t c index sub n) ≡ true
unfolding aborts write_aborts map_aborts
of_codes_lem t c index sub n =
    by_cases (c is 0x40) (λ r. rw r)
    (λ r. by_cases ((line_at index sub).index among 0x1600 ∷ 0x1A00 ∷ []) (λ m. rw (r, m)) (λ m. rw (r, m)))

-- ---- wish 4: the phase

module _ (t : Told) (k : driven t.state ≡ true) (bound : t.phase < 4294967296) where
  ticks_phase : (n : ℕ) → (ticks n t).phase ≡ (t.phase + n * (nat_abs (t.value 0x6362 1) * 4294967296 / 1000)) % 4294967296
  unfolding ticks tick
  ticks_phase zero = sym (ap (λ m. m % 4294967296) (omega arith) ∙ mod-eq_of_lt bound)
  ticks_phase (suc n) =
      let i = nat_abs (t.value 0x6362 1) * 4294967296 / 1000 in
      let before = sym (ap (λ (u : Told). u.phase) (ticks_move t k n)) ∙ ticks_phase n in
      rw (ticks_move t k n, k, before) (mod-add-mod (t.phase + n * i) 4294967296 i ∙ ap (λ m. m % 4294967296) (omega arith))

-- ---- the wave

abs_over : (z : ℤ) (n : ℕ) → nat_abs (z over n) ≡ nat_abs z / n
abs_over (pos k) n = refl
abs_over (negsuc k) n = abs_neg (pos (suc k / n))

height_most : (x : ℕ) → x ≤ 65536 → nat_abs (height x) ≤ 16384
unfolding height
height_most x l =
    by_test (λ (z : ℤ). nat_abs z ≤ 16384) (ltb x 16384) (λ e. omega (arith, ltb-true x 16384 e))
    (λ e. by_test (λ (z : ℤ). nat_abs z ≤ 16384) (ltb x 49152)
    (λ f. omega (arith, ltb-false x 16384 e, ltb-true x 49152 f, sub_nat (pos 32768) (pos x), abs_nat (pos 32768 -ℤ pos x)))
    (λ f. omega (arith, ltb-false x 49152 f, sub_nat (pos x) (pos 65536), abs_nat (pos x -ℤ pos 65536))))

dither_most : (t : Told) → t.phase < 4294967296 → nat_abs (dither t) ≤ nat_abs (t.value 0x6361 1)
unfolding dither
dither_most t l =
    let a = t.value 0x6361 1 in
    let x = t.phase / 65536 in
    let m : nat_abs a * nat_abs (height x) ≤ nat_abs a * 16384 = mul-le-mul_left (nat_abs a) (height_most x (omega arith)) in
    by_test (Most a) (t.value 0x6360 0 =? pos 0) (λ e. omega arith)
    (λ e. by_test (Most a) (t.value 0x6360 0 =? pos 1)
    (λ f. by_test (Most a) (t.phase below 2147483648) (λ g. omega arith) (λ g. omega (arith, abs_neg a)))
    (λ f. rw (abs_over, abs_mul) (omega arith)))
  where
    Most : ℤ → ℤ → Type 0
    Most a z = nat_abs z ≤ nat_abs a

-- the command of a state within its dead band is the clamped dither, and that is the dither
banded_zero : (t : Told) → selected t 0x6342 0 ≡ pos 1 → Within (neg_ℤ (selected t 0x6345 1)) (selected t 0x6345 1) (whole t) → banded t ≡ pos 0
unfolding banded
banded_zero t one w =
    let above : lt_z (selected t 0x6345 1) (whole t) ≡ false = omega (arith, ints) in
    let under : lt_z (whole t) (neg_ℤ (selected t 0x6345 1)) ≡ false = omega (arith, ints) in
    rw (one, above, under)

clamp_inside : (x : ℤ) → nat_abs x ≤ 1024 → clamp (minus 16384) (pos 16384) (pos 0 +ℤ x) ≡ x
unfolding clamp
clamp_inside x l =
    let same : pos 0 +ℤ x ≡ x = omega (arith, ints, add_nat (pos 0) x) in
    let under : lt_z x (minus 16384) ≡ false = omega (arith, ints, abs_nat x) in
    let above : lt_z (pos 16384) x ≡ false = omega (arith, ints, abs_nat x) in
    rw (same, under, above)

-- ---- wish 2: a received PDO

-- an entry that a sound map counts may be mapped
counted_mapped : (t : Told) (index : ℕ) → sound_map t index ≡ true → (k : ℕ) → k < mapped t index 0 → (mapped t index (k + 1) among mappable index) ≡ true
counted_mapped t index s k l =
    let stands = map_stands t index s k (omega (arith, map_few t index s)) in
    by_cases (mapped t index (k + 1) is 0) (λ e. clash (rw e at stands) (rw (lt-ltb k (mapped t index 0) l))) (λ e. rw e at stands)

two_bytes : (e : ℕ) → (e among mappable 0x1600) ≡ true → (line_at (e / 65536) (e / 256 % 256)).kind.bytes ≡ 2
unfolding sheet
two_bytes e h =
    by_cases (e is 0x60400010) (λ f. rw (eqb-true e 0x60400010 f))
    (λ f. by_cases (e is 0x63000110) (λ g. rw (eqb-true e 0x63000110 g))
    (λ g. by_cases (e is 0x63140110) (λ k. rw (eqb-true e 0x63140110 k)) (λ k. clash h (rw (f, g, k)))))

-- of an entry of two bytes the low two count
served_low : (c index sub m n : ℕ) (t : Told) → (line_at index sub).kind.bytes ≡ 2 → m % 65536 ≡ n % 65536 → served c index sub m t ≡ served c index sub n t
unfolding served aborts stands_for
served_low c index sub m n t two e = rw (two, e)

frame_index : (index : ℕ) → index % 256 + index / 256 * 256 ≡ index
frame_index index = omega arith

frame_number : (n : ℕ) → n % 256 + n / 256 % 256 * 256 + n / 65536 % 256 * 65536 + n / 16777216 % 256 * 16777216 ≡ n % 4294967296
frame_number n =
    let m = n / 65536 in
    let third : n / 16777216 ≡ m / 256 = omega arith in
    rw third (sum (n % 256) (n / 256 % 256) (m % 256) (m / 256 % 256) (n % 65536) (m % 65536) (n % 4294967296) (omega arith) (omega arith) (omega arith))
  where
    sum : (a b c d x y z : ℕ) → a + b * 256 ≡ x → c + d * 256 ≡ y → x + y * 65536 ≡ z → a + b * 256 + c * 65536 + d * 16777216 ≡ z
    sum a b c d x y z p q r = omega arith

module _ (L : Library) (p : Promises L) where
  -- a request of a sound state is done by the rules
  asked_told :
      (s : L.State) → sound (L.told s) ≡ true → (c index sub n : ℕ) → (c / 32 is 4) ≡ false →
      L.told (L.answer (calling (frame c index sub n)) s).state ≡ served c index sub (n % 4294967296) (L.told s)
  asked_told s e c index sub n f =
      (p.done (calling (frame c index sub n)) s (p.number (calling (frame c index sub n)) s ∙ rw (e, f))).0
      ∙ rw (frame_index index, frame_number n)

  stays : (s : L.State) → sound (L.told s) ≡ true → (c : Call) → sound (L.told (L.answer c s).state) ≡ true
  stays s e c = (histories L p).stays_sound c s e

  writes_told :
      (entries pdo : List ℕ) (s : L.State) → sound (L.told s) ≡ true →
      ((k : ℕ) → k < length entries → (get_or entries k 0 among mappable 0x1600) ≡ true) →
      L.told (end L (writes_of entries pdo) s) ≡ received entries pdo (L.told s)
  unfolding writes_of received
  writes_told [] pdo s e all = refl
  writes_told (x ∷ entries) pdo s e all =
      let two = two_bytes x (all 0 (omega arith)) in
      let call = calling (frame 0x2B (x / 65536) (x / 256 % 256) (two_from pdo 0)) in
      let next =
      asked_told s e 0x2B (x / 65536) (x / 256 % 256) (two_from pdo 0) refl
      ∙ served_low 0x2B (x / 65536) (x / 256 % 256) (two_from pdo 0 % 4294967296) (four_from pdo 0) (L.told s) two (omega arith) in
      writes_told entries (drop 2 pdo) (L.answer call s).state (stays s e call) (λ k l. all (suc k) (omega arith))
      ∙ ap (received entries (drop 2 pdo)) next

  module _ (s : L.State) (e : sound (L.told s) ≡ true) where
    received_told :
        (pdo : List ℕ) → (L.answer (receive pdo) s).reply.number ≡ 0 →
        L.told (L.answer (receive pdo) s).state ≡ L.told (end L (writes_of (counted (L.told s) 0x1600) pdo) s)
    received_told pdo n =
        let t = L.told s in
        (p.done (receive pdo) s n).0
        ∙ sym (writes_told (counted t 0x1600) pdo s e
        (λ k l. let at = counted_at t 0x1600 k l in rw at.1 (counted_mapped t 0x1600 (sound_parts t e).receive k at.0)))

    amplitude_range : Within (pos 0) (pos 1024) ((L.told s).value 0x6361 1)
    unfolding sheet
    amplitude_range = held_in_range (L.told s).value 0x6361 1 (sound_parts (L.told s) e).ranged refl

    within_amplitude : Within (neg_ℤ ((L.told s).value 0x6361 1)) ((L.told s).value 0x6361 1) (dither (L.told s))
    within_amplitude =
        let t = L.told s in
        let a = t.value 0x6361 1 in
        let r = amplitude_range in
        omega (arith, ints, dither_most t (sound_parts t e).phase, abs_nat (dither t), abs_nat a, neg_nat a)

    inside_band :
        driven (L.told s).state ≡ true → selected (L.told s) 0x6342 0 ≡ pos 1 →
        Within (neg_ℤ (selected (L.told s) 0x6345 1)) (selected (L.told s) 0x6345 1) (whole (L.told s)) →
        (L.answer (query command) s).reply.value ≡ dither (L.told s)
    unfolding Valve.command
    inside_band k one w =
        let t = L.told s in
        let r = amplitude_range in
        let small = dither_most t (sound_parts t e).phase in
        ap (λ (a : Reply). a.value) (p.done (query command) s (p.number (query command) s ∙ rw e)).1
        ∙ rw (k, banded_zero t one w) (clamp_inside (dither t) (omega (arith, ints, small, abs_nat (t.value 0x6361 1))))

-- ---- wish 2: maps made by writes

-- the line of an entry of a map
abbrev map_line : ℕ → ℕ → ℕ → Line
map_line index sub bytes =
    record {
      index = index;
      sub = sub;
      kind = record { bytes = bytes; signed = false; low = pos 0; high = pos (256 ^ bytes - 1) };
      fresh = pos 0;
      writable = 0 ∷ 1 ∷ 2 ∷ 3 ∷ [];
    }

abbrev all_small : List ℕ → Bool
all_small [] = true
all_small (n ∷ list) = n below 4294967296 && all_small list

small_among : (list : List ℕ) (n : ℕ) → all_small list ≡ true → (n among list) ≡ true → n < 4294967296
small_among [] n a h = clash h refl
small_among (m ∷ list) n a h =
    let both = and_split (m below 4294967296) (all_small list) a in
    by_cases (n is m) (λ e. rw (eqb-true n m e) (ltb-true m 4294967296 both.0)) (λ e. small_among list n both.1 (rw e at h))

by_four : (P : ℕ → Type 0) → P 0 → P 1 → P 2 → P 3 → (k : ℕ) → k < 4 → P k
by_four P a b c d zero l = a
by_four P a b c d (suc zero) l = b
by_four P a b c d (suc (suc zero)) l = c
by_four P a b c d (suc (suc (suc zero))) l = d
by_four P a b c d (suc (suc (suc (suc k)))) l = absurd (omega arith)

record IsMap (index : ℕ) : Type 0 where
  listed : has_entry index 0 ≡ true
  ruled : (index among 0x1600 ∷ 0x1A00 ∷ []) ≡ true
  no_choice : (index among 0x6330 ∷ 0x6342 ∷ 0x6360 ∷ 0x63B0 ∷ 0x63C2 ∷ []) ≡ false
  no_limit : (u : Told) (x : ℤ) → crosses u index x ≡ false
  no_control : (index is 0x6040) ≡ false
  no_selection : (index is 0x2000) ≡ false
  small : all_small (mappable index) ≡ true
  count : line_at index 0 ≡ map_line index 0 1
  entry : (k : ℕ) → k < 4 → line_at index (k + 1) ≡ map_line index (k + 1) 4

receive_map : IsMap 0x1600
unfolding sheet crosses
receive_map =
    record {
      listed = refl;
      ruled = refl;
      no_choice = refl;
      no_limit = λ u x. refl;
      no_control = refl;
      no_selection = refl;
      small = refl;
      count = refl;
      entry = by_four (λ k. line_at 0x1600 (k + 1) ≡ map_line 0x1600 (k + 1) 4) refl refl refl refl;
    }

transmit_map : IsMap 0x1A00
unfolding sheet crosses
transmit_map =
    record {
      listed = refl;
      ruled = refl;
      no_choice = refl;
      no_limit = λ u x. refl;
      no_control = refl;
      no_selection = refl;
      small = refl;
      count = refl;
      entry = by_four (λ k. line_at 0x1A00 (k + 1) ≡ map_line 0x1A00 (k + 1) 4) refl refl refl refl;
    }

module _ {index : ℕ} (m : IsMap index) (u : Told) (four : u.state < 4) where
  -- a write of a number that its type has, and to which no rule of the map speaks, is accepted
  write_free :
      (sub bytes n : ℕ) → n < 256 ^ bytes → first (map_aborts u index sub n) ≡ 0 → first (write_aborts u (map_line index sub bytes) bytes (pos n)) ≡ 0
  unfolding write_aborts
  write_free sub bytes n b e =
      let writable = by_four (λ k. (k among 0 ∷ 1 ∷ 2 ∷ 3 ∷ []) ≡ true) refl refl refl refl u.state four in
      rw (le-ltb bytes bytes (omega arith), le-ltb (256 ^ bytes - 1) n (omega arith), le-ltb n 0 (omega arith), m.no_choice, m.no_limit u (pos n), writable, m.ruled) e

  number_is : (sub bytes n : ℕ) → n < 256 ^ bytes → stands_for (map_line index sub bytes).kind n ≡ pos n
  unfolding stands_for
  number_is sub bytes n b = ap pos (mod-eq_of_lt b)

  put_told :
      (c sub bytes n : ℕ) → (c among 0x40 ∷ 0x2F ∷ 0x2B ∷ 0x27 ∷ 0x23 ∷ []) ≡ true → (c is 0x40) ≡ false → sent_by c ≡ bytes → (bytes is 0) ≡ false →
      line_at index sub ≡ map_line index sub bytes → n < 256 ^ bytes → first (map_aborts u index sub n) ≡ 0 →
      served c index sub n u ≡ holding u.selected (put index sub (pos n) u.value) u
  unfolding served written aborts
  put_told c sub bytes n writes r sent some line b e =
      let free = write_free sub bytes n b e in
      rw (writes, r, m.listed, line, some, sent, number_is sub bytes n b, free, m.no_control, m.no_selection)

module _ (L : Library) (p : Promises L) (t : Told) {index : ℕ} (m : IsMap index) (sm : sound_map t index ≡ true) where
  -- the first j entries are written, and no other object
  record After (s u : L.State) (j : ℕ) : Type 0 where
    still : sound (L.told u) ≡ true
    none : mapped (L.told u) index 0 ≡ 0
    entries : (k : ℕ) → k < j → mapped (L.told u) index (k + 1) ≡ mapped t index (k + 1)
    others : (i sub : ℕ) → (index is i) ≡ false → (L.told u).value i sub ≡ (L.told s).value i sub

  right : (k : ℕ) → k < 4 → (mapped t index (k + 1) is 0 || mapped t index (k + 1) among mappable index) ≡ true
  right k l = let stands = map_stands t index sm k l in by_cases (mapped t index (k + 1) is 0) (λ e. rw e) (λ e. rw e (rw e at stands))

  four_bytes : (k : ℕ) → k < 4 → mapped t index (k + 1) < 4294967296
  four_bytes k l =
      by_cases (mapped t index (k + 1) is 0) (λ e. omega (arith, eqb-true (mapped t index (k + 1)) 0 e))
      (λ e. small_among (mappable index) (mapped t index (k + 1)) m.small (rw e at (right k l)))

  same_index : (index is index) ≡ true
  same_index = eq-eqb index index refl

  entry_after :
      (s u : L.State) (j : ℕ) → j < 4 → After s u j → After s (L.answer (calling (frame 0x23 index (j + 1) (mapped t index (j + 1)))) u).state (j + 1)
  unfolding map_aborts sent_by
  entry_after s u j l a =
      let n = mapped t index (j + 1) in
      let later : (j + 1 is 0) ≡ false = ne_eqb (j + 1) 0 (λ q. omega arith) in
      let free : first (map_aborts (L.told u) index (j + 1) n) ≡ 0 = rw (later, a.none, right j l) in
      let told =
      asked_told L p u a.still 0x23 index (j + 1) n refl
      ∙ ap (λ k. served 0x23 index (j + 1) k (L.told u)) (mod-eq_of_lt (four_bytes j l))
      ∙ put_told m (L.told u) (sound_parts (L.told u) a.still).state 0x23 (j + 1) 4 n refl refl refl refl (m.entry j l) (four_bytes j l) free in
      record {
        still = stays L p u a.still _;
        none = rw (told, same_index, later) a.none;
        entries = λ k h. rw (told, same_index) (by_cases (j + 1 is (k + 1))
            (λ e. let i = eqb-true (j + 1) (k + 1) e in rw (e, i))
            (λ e. let i = eqb-false (j + 1) (k + 1) e in rw e (a.entries k (omega arith))));
        others = λ i sub e. rw (told, e) (a.others i sub e);
      }

  record Made (s u : L.State) : Type 0 where
    still : sound (L.told u) ≡ true
    count : mapped (L.told u) index 0 ≡ mapped t index 0
    entries : (k : ℕ) → k < 4 → mapped (L.told u) index (k + 1) ≡ mapped t index (k + 1)
    others : (i sub : ℕ) → (index is i) ≡ false → (L.told u).value i sub ≡ (L.told s).value i sub

  count_after : (s u : L.State) → After s u 4 → Made s (L.answer (calling (frame 0x2F index 0 (mapped t index 0))) u).state
  unfolding map_aborts sent_by
  count_after s u a =
      let n = mapped t index 0 in
      let few = map_few t index sm in
      let all =
      each_all n (λ k. mapped (L.told u) index (k + 1) among mappable index)
      (λ k l. rw (a.entries k (omega arith)) (counted_mapped t index sm k l)) in
      let free : first (map_aborts (L.told u) index 0 n) ≡ 0 = rw (le-ltb 4 n few, all) in
      let big : n < 4294967296 = omega arith in
      let told =
      asked_told L p u a.still 0x2F index 0 n refl
      ∙ ap (λ k. served 0x2F index 0 k (L.told u)) (mod-eq_of_lt big)
      ∙ put_told m (L.told u) (sound_parts (L.told u) a.still).state 0x2F 0 1 n refl refl refl refl m.count (omega arith) free in
      record {
        still = stays L p u a.still _;
        count = rw (told, same_index);
        entries = λ k l. rw (told, same_index, ne_eqb 0 (k + 1) (λ q. omega arith)) (a.entries k l);
        others = λ i sub e. rw (told, e) (a.others i sub e);
      }

  made_map : (s : L.State) → sound (L.told s) ≡ true → mapped (L.told s) index 0 ≡ 0 → Made s (end L (making t index) s)
  made_map s e none =
      let start : After s s 0 = record { still = e; none = none; entries = λ k l. absurd (omega arith); others = λ i sub f. refl } in
      let one = entry_after s _ 0 (omega arith) start in
      let two = entry_after s _ 1 (omega arith) one in
      let three = entry_after s _ 2 (omega arith) two in
      count_after s _ (entry_after s _ 3 (omega arith) three)

  made_at : (s : L.State) → Made s (end L (making t index) s) → (sub : ℕ) → sub ≤ 4 → mapped (L.told (end L (making t index) s)) index sub ≡ mapped t index sub
  made_at s a zero l = a.count
  made_at s a (suc k) l = let next : k + 1 ≡ suc k = omega arith in rw next at (a.entries k (omega arith))

module _ (L : Library) (p : Promises L) where
  made :
      (t : Told) → sound_map t 0x1600 ≡ true → sound_map t 0x1A00 ≡ true → (sub : ℕ) → sub ≤ 4 →
      let now = L.told (end L (making t 0x1600 ++ making t 0x1A00) L.fresh) in
      (mapped now 0x1600 sub ≡ mapped t 0x1600 sub) × (mapped now 0x1A00 sub ≡ mapped t 0x1A00 sub)
  unfolding fresh_told sheet
  made t a b sub l =
      let first_made = made_map L p t receive_map a L.fresh ((histories L p).from_fresh []) (rw p.fresh) in
      let u = end L (making t 0x1600) L.fresh in
      let second_made = made_map L p t transmit_map b u first_made.still (rw (first_made.others 0x1A00 0 refl, p.fresh)) in
      (ap nat_abs (second_made.others 0x1600 sub refl) ∙ made_at L p t receive_map a L.fresh first_made sub l, made_at L p t transmit_map b u second_made sub l)

  pub process_data : (s : L.State) → sound (L.told s) ≡ true → ProcessData L s
  process_data s e = record { received = received_told L p s e; made = made }

  pub dithering : (s : L.State) → sound (L.told s) ≡ true → Dithering L s
  dithering s e =
      let t = L.told s in
      record {
        phase_after = λ k n.
            ap (λ (u : Told). u.phase) (p.done (jump n) s (p.number (jump n) s ∙ rw e)).0 ∙ ticks_phase t k (sound_parts t e).phase n;
        within_amplitude = within_amplitude L p s e;
        inside_band = inside_band L p s e;
      }

pub write_length : WriteLength
write_length = record { codes = λ t c index sub n. first_of_codes CODES (aborts t c index sub n) (of_codes_lem t c index sub n) }
