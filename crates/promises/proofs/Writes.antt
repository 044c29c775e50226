-- A frame's bytes hand its index and number back, so the promises tell its reply and what it leaves by the rules. A write that no rule forbids meets
-- no abort; the value that it leaves at its entry has the number's low bytes, and every other entry that can be written keeps its value.
use Rattle.std.specs.Prelude.{if◌then◌else◌}
use mathlib.Core.Bool.{Bool, true, false, not, ◌&&◌, ◌||◌, and-false}
use mathlib.Core.List.{List, [], ◌∷◌, ◌++◌, append-nil}
use mathlib.Core.Logic.{◌≢◌}
use mathlib.Core.Path.{◌≡◌, refl, sym, ap, ◌∙◌}
use Prim.Native.Nat.{ℕ, ◌+◌, ◌-◌, ◌*◌, ◌/◌, ◌%◌, ◌^◌, ◌<◌}
use native.Mathlib.Omega.{arith}
use borrow.Author.Tests.{eqb-true, eqb-false, eq-eqb, ne_eqb, le-ltb}
use lib.IntN.{ℤ, pos, nat_abs, ◌-ℤ◌}
use lib.ListN.{length, replicate}
use Rattle.integers.specs.Words.{◌is◌, ◌below◌, ◌among◌, ◌=?◌, ◌<?◌}
use Rattle.integers.proofs.Cases.{by_cases, clash}
use Rattle.integers.proofs.Each.{and_split, and_both}
use Rattle.integers.proofs.Linear.{ints, abs_high, abs_nat, sub_nat}
use Rattle.integers.proofs.Machine.{=?-yes}
use Rattle.promises.specs.Library.{Told, sdo, control, Reply, Library, first}
use Rattle.promises.specs.Sheet.{Kind, Line, sheet, line_at, has_entry, is_read_only}
use Rattle.promises.specs.Valve.{moved_to, entered, controlled, status, command}
use Rattle.promises.specs.Sdo.{number_for, stands_for, value_at, number_at, sent_by, crosses, write_aborts, aborts, written, served, frame, reply}
use Rattle.promises.specs.Sdo.{byte}
use Rattle.promises.specs.Promises.{sound, fresh_told, Promises}
use Rattle.promises.specs.Demands.{state_after, reply_to, reading, telling, writing, Allowed}
use Rattle.promises.proofs.SoundTold.{sound_parts}
use Rattle.promises.proofs.Lasting.{fresh_sound, served_lasts}
use Rattle.promises.proofs.Sheets.{of_all, found, its_index, its_sub, its_object, listed, sized, by_size, its_size}

-- ---- numbers and their bytes

-- the command byte that writes so many of them
abbrev writes : ℕ → ℕ
writes bytes = if bytes is 1 then 0x2F else if bytes is 2 then 0x2B else 0x23

record Writes (bytes : ℕ) : Type 0 where
  known : (writes bytes among 0x40 ∷ 0x2F ∷ 0x2B ∷ 0x27 ∷ 0x23 ∷ []) ≡ true
  no_read : (writes bytes is 0x40) ≡ false
  served_here : (writes bytes / 32 is 4) ≡ false
  sends : sent_by (writes bytes) ≡ bytes

writes_them : (bytes : ℕ) → sized bytes ≡ true → Writes bytes
unfolding sent_by
writes_them bytes s =
    by_size bytes s (λ e. rw e (record { known = refl; no_read = refl; served_here = refl; sends = refl }))
    (λ e. rw e (record { known = refl; no_read = refl; served_here = refl; sends = refl }))
    (λ e. rw e (record { known = refl; no_read = refl; served_here = refl; sends = refl }))

-- the number for which a value stands comes back, as many low bytes of it as the type has
module _ (all m : ℕ) (h : m < all) where
  below_zero : ((pos m -ℤ pos all) <? pos 0) ≡ true
  below_zero = omega (arith, ints, sub_nat (pos m) (pos all))

  from_below : all - nat_abs (pos m -ℤ pos all) ≡ m
  from_below = omega (arith, abs_nat (pos m -ℤ pos all), sub_nat (pos m) (pos all))

number_back : (kind : Kind) (n : ℕ) → sized kind.bytes ≡ true → number_for kind (stands_for kind n) ≡ n % 256 ^ kind.bytes
unfolding number_for stands_for
number_back kind n s =
    by_cases (kind.signed && not (n % 256 ^ kind.bytes below 256 ^ kind.bytes / 2))
    (λ e. rw (e, below_zero (256 ^ kind.bytes) (n % 256 ^ kind.bytes) less) (from_below (256 ^ kind.bytes) (n % 256 ^ kind.bytes) less))
    (λ e. let above : (pos (n % 256 ^ kind.bytes) <? pos 0) ≡ false = le-ltb (n % 256 ^ kind.bytes) 0 (omega arith) in rw (e, above))
  where
    less : n % 256 ^ kind.bytes < 256 ^ kind.bytes
    less = by_size kind.bytes s (λ e. rw e (omega arith)) (λ e. rw e (omega arith)) (λ e. rw e (omega arith))

-- and bytes beyond them are ignored
stands_low : (kind : Kind) (n : ℕ) → sized kind.bytes ≡ true → stands_for kind (n % 4294967296) ≡ stands_for kind n
unfolding stands_for
stands_low kind n s = rw low
  where
    low : n % 4294967296 % 256 ^ kind.bytes ≡ n % 256 ^ kind.bytes
    low = by_size kind.bytes s (λ e. rw e (omega arith)) (λ e. rw e (omega arith)) (λ e. rw e (omega arith))

-- what is among a list
not_empty : (n : ℕ) (list : List ℕ) → (n among list) ≡ true → (length list is 0) ≡ false
not_empty n [] h = let z : false ≡ true = h in clash z refl
not_empty n (m ∷ list) h = ne_eqb (length (m ∷ list)) 0 (λ e. omega (arith, e))

-- ---- the rules of reads and writes

-- the reply to a read of an entry; and any read's reply depends on the entry's value alone
reads : (t : Told) (index sub n : ℕ) → has_entry index sub ≡ true → reply 0x40 index sub n t ≡ telling index sub (number_at t index sub)
unfolding reply aborts
reads t index sub n h = rw (its_object index sub h, h)

reads_same :
    (t u : Told) (index sub n : ℕ) → value_at t (line_at index sub) ≡ value_at u (line_at index sub) → reply 0x40 index sub n t ≡ reply 0x40 index sub n u
unfolding reply aborts
reads_same t u index sub n e = rw e

-- 6040h and 2000h have sub-index 0, and no values below 0
abbrev named_test : Line → Bool
named_test l = not (l.index among 0x6040 ∷ 0x2000 ∷ []) || (l.sub is 0 && l.kind.low =? pos 0)

named_tests : of_all named_test sheet ≡ true
unfolding sheet
named_tests = refl

by_name :
    (index sub : ℕ) → has_entry index sub ≡ true → (index among 0x6040 ∷ 0x2000 ∷ []) ≡ true → (sub ≡ 0) × ((line_at index sub).kind.low ≡ pos 0)
by_name index sub h e =
    let f = found named_test index sub named_tests h in
    let both = and_split (sub is 0) ((line_at index sub).kind.low =? pos 0) (rw (f.its_index, f.its_sub, e) at f.passes) in
    (eqb-true sub 0 both.0, =?-yes _ _ both.1)

-- the value of an entry that can be written
value_written :
    (t : Told) (index sub : ℕ) → is_read_only (line_at index sub) ≡ false →
    value_at t (line_at index sub) ≡ (if index is 0x6040 then pos t.control else if index is 0x2000 then pos t.selected else t.value index sub)
unfolding value_at
value_written t index sub w =
    let h = listed index sub w in
    rw (w, its_index index sub h, its_sub index sub h)
    (by_cases (index is 0x6040) (λ e. rw e)
    (λ e. by_cases (index is 0x2000)
    (λ f.
    let i : index ≡ 0x2000 = eqb-true index 0x2000 f in
    let status : (index is 0x6041) ≡ false = ne_eqb index 0x6041 (λ g. omega (arith, g, i)) in
    let error : (index is 0x604E) ≡ false = ne_eqb index 0x604E (λ g. omega (arith, g, i)) in
    rw (e, f, status, error))
    (λ f. rw (e, f))))

module _ (t : Told) (index sub n : ℕ) (a : Allowed t index sub n) where
  abbrev entry : Line
  entry = line_at index sub

  abbrev number : ℤ
  number = stands_for entry.kind n

  can_be_written : is_read_only entry ≡ false
  can_be_written = not_empty t.state entry.writable a.unlocked

  there : has_entry index sub ≡ true
  there = listed index sub can_be_written

  no_abort : first (write_aborts t entry entry.kind.bytes number) ≡ 0
  unfolding write_aborts
  no_abort =
      let high : (entry.kind.high <? number) ≡ false = omega (arith, ints, a.range.to) in
      let low : (number <? entry.kind.low) ≡ false = omega (arith, ints, a.range.from) in
      let sent = le-ltb entry.kind.bytes entry.kind.bytes (omega arith) in
      rw (can_be_written, sent, high, low, and-false, its_index index sub there, its_sub index sub there, a.uncrossed, a.unlocked)
      (by_cases (index among 0x1600 ∷ 0x1A00 ∷ []) (λ e. rw e (a.unruled e)) (λ e. rw e))

  by_writing : Writes entry.kind.bytes
  by_writing = writes_them entry.kind.bytes (its_size index sub there)

  stands : stands_for entry.kind (n % 4294967296) ≡ number
  stands = stands_low entry.kind n (its_size index sub there)

  none_aborts : first (aborts t (writes entry.kind.bytes) index sub (n % 4294967296)) ≡ 0
  unfolding aborts
  none_aborts =
      let w = by_writing in
      rw (w.known, its_object index sub there, there, w.no_read, w.sends, stands) no_abort

  write_replies : reply (writes entry.kind.bytes) index sub (n % 4294967296) t ≡ frame 0x60 index sub 0
  unfolding reply
  write_replies = rw (none_aborts, by_writing.no_read)

  write_serves : served (writes entry.kind.bytes) index sub (n % 4294967296) t ≡ written index sub number t
  unfolding served
  write_serves = rw (by_writing.no_read, none_aborts, stands)

  -- a value that is told by name is not below 0
  positive : (index among 0x6040 ∷ 0x2000 ∷ []) ≡ true → pos (nat_abs number) ≡ number
  positive e =
      let low = (by_name index sub there e).1 in
      let from = rw low at a.range.from in
      omega (arith, ints, abs_high number from)

  value_there : value_at (written index sub number t) entry ≡ number
  unfolding written controlled entered
  value_there =
      rw (value_written (written index sub number t) index sub can_be_written)
      (by_cases (index is 0x6040) (λ e. rw e (positive (rw e)))
      (λ e. by_cases (index is 0x2000) (λ f. rw (e, f) (positive (rw (e, f)))) (λ f. rw (e, f, eq-eqb index index refl, eq-eqb sub sub refl))))

  -- every other one that can be written has its value
  value_elsewhere :
      (i j : ℕ) → is_read_only (line_at i j) ≡ false → (index is i && sub is j) ≡ false →
      value_at (written index sub number t) (line_at i j) ≡ value_at t (line_at i j)
  unfolding written controlled entered
  value_elsewhere i j w o =
      rw (value_written (written index sub number t) i j w, value_written t i j w)
      (by_cases (index is 0x6040)
      (λ e. by_cases (i is 0x6040) (λ f. clash (one_name 0x6040 refl e f) o) (λ f. rw (e, f)))
      (λ e. by_cases (index is 0x2000)
      (λ f. by_cases (i is 0x2000) (λ g. clash (one_name 0x2000 refl f g) o) (λ g. rw (e, f, g)))
      (λ f. rw (e, f, o))))
    where
      one_name : (m : ℕ) → (m among 0x6040 ∷ 0x2000 ∷ []) ≡ true → (index is m) ≡ true → (i is m) ≡ true → (index is i && sub is j) ≡ true
      one_name m h e f =
          let p : index ≡ m = eqb-true index m e in
          let q : i ≡ m = eqb-true i m f in
          let sub_zero : sub ≡ 0 = (by_name index sub there (rw p h)).0 in
          let j_zero : j ≡ 0 = (by_name i j (listed i j w) (rw q h)).0 in
          and_both (eq-eqb index i (p ∙ sym q)) (eq-eqb sub j (sub_zero ∙ sym j_zero))

-- what is not acknowledged leaves all as it was
nothing_served :
    (t : Told) (c index sub n : ℕ) → byte (reply c index sub n t ++ []) 0 ≢ 0x60 → served c index sub n t ≡ t
unfolding reply served
nothing_served t c index sub n m =
    by_cases (c is 0x40) (λ e. rw e)
    (λ e. by_cases (first (aborts t c index sub n) is 0) (λ f. absurd (m (rw (e, f)))) (λ f. rw (e, f)))

-- a write of 6040h is a control word, and no rule forbids it
in_any_state : (state : ℕ) → state < 4 → (state among 0 ∷ 1 ∷ 2 ∷ 3 ∷ []) ≡ true
in_any_state state b =
    by_cases (state is 0) (λ e. rw e)
    (λ e. by_cases (state is 1) (λ f. rw (e, f))
    (λ f. by_cases (state is 2) (λ g. rw (e, f, g))
    (λ g. rw (eq-eqb state 3 (omega (arith, eqb-false state 0 e, eqb-false state 1 f, eqb-false state 2 g)), e, f, g))))

control_allowed : (t : Told) → sound t ≡ true → (word : ℕ) → Allowed t 0x6040 0 word
unfolding sheet stands_for crosses
control_allowed t s word =
    let most : word % 65536 < 65536 = omega arith in
    record {
      unlocked = in_any_state t.state (sound_parts t s).state;
      range = record { from = omega (arith, ints); to = omega (arith, ints) };
      uncrossed = refl;
      unruled = λ e. let z : false ≡ true = e in clash z refl;
    }

control_written : (t : Told) (word : ℕ) → written 0x6040 0 (stands_for (line_at 0x6040 0).kind word) t ≡ controlled (word % 65536) t
unfolding sheet stands_for written
control_written t word = refl

-- ---- fresh

fresh_lines : of_all (λ l. number_at fresh_told l.index l.sub is number_for l.kind l.fresh) sheet ≡ true
unfolding sheet fresh_told number_for value_at status command
fresh_lines = refl

fresh_number : (index sub : ℕ) → has_entry index sub ≡ true → number_at fresh_told index sub ≡ number_for (line_at index sub).kind (line_at index sub).fresh
fresh_number index sub h =
    let f = found (λ l. number_at fresh_told l.index l.sub is number_for l.kind l.fresh) index sub fresh_lines h in
    eqb-true _ _ (rw (f.its_index, f.its_sub) at f.passes)

-- ---- requests

-- the low four bytes of a number
four_back : (n : ℕ) → n % 256 + n / 256 % 256 * 256 + n / 65536 % 256 * 65536 + n / 16777216 % 256 * 16777216 ≡ n % 4294967296
four_back n = rw (thrice n, twice n) (omega (arith, four_times n))
  where
    twice : (n : ℕ) → n / 65536 ≡ n / 256 / 256
    twice n = omega arith

    thrice : (n : ℕ) → n / 16777216 ≡ n / 65536 / 256
    thrice n = omega arith

    four_times : (n : ℕ) → n / 4294967296 ≡ n / 256 / 256 / 256 / 256
    four_times n = omega arith

module _ (L : Library) (p : Promises L) (s : L.State) (o : sound (L.told s) ≡ true) where
  -- a frame is served, and replied to, by the rules
  record Serves (c index sub n : ℕ) : Type 0 where
    replies : reply_to L (frame c index sub n) s ≡ reply c index sub (n % 4294967296) (L.told s)
    tells : L.told (state_after L (frame c index sub n) s) ≡ served c index sub (n % 4294967296) (L.told s)

  serves : (c index sub n : ℕ) → (c / 32 is 4) ≡ false → Serves c index sub n
  serves c index sub n h =
      let call = sdo (frame c index sub n) (replicate 8 0) in
      let done = p.done call s (p.number call s ∙ rw (o, h)) in
      let i : index % 256 + index / 256 * 256 ≡ index = omega arith in
      record { replies = ap (λ (r : Reply). r.room) done.1 ∙ rw (i, four_back n) (append-nil _); tells = done.0 ∙ rw (i, four_back n) }

  reads_by : (index sub : ℕ) → reply_to L (reading index sub) s ≡ reply 0x40 index sub 0 (L.told s)
  reads_by index sub = (serves 0x40 index sub 0 refl).replies

pub fresh_read :
    (L : Library) → Promises L → (index sub : ℕ) → has_entry index sub ≡ true →
    let l = line_at index sub in reply_to L (reading index sub) L.fresh ≡ telling index sub (number_for l.kind l.fresh)
fresh_read L p index sub h =
    reads_by L p L.fresh (ap sound p.fresh ∙ fresh_sound) index sub
    ∙ reads _ index sub 0 h
    ∙ ap (telling index sub) (ap (λ (t : Told). number_at t index sub) p.fresh ∙ fresh_number index sub h)

module _ (L : Library) (p : Promises L) (s : L.State) (o : sound (L.told s) ≡ true) where
  module _ (index sub n : ℕ) (a : Allowed (L.told s) index sub n) where
    abbrev after : L.State
    after = state_after L (writing index sub n) s

    write_done : Serves L p s o (writes (line_at index sub).kind.bytes) index sub n
    write_done = serves L p s o (writes (line_at index sub).kind.bytes) index sub n (by_writing (L.told s) index sub n a).served_here

    told_after : L.told after ≡ written index sub (stands_for (line_at index sub).kind n) (L.told s)
    told_after = write_done.tells ∙ write_serves (L.told s) index sub n a

    reads_after : (i j : ℕ) → reply_to L (reading i j) after ≡ reply 0x40 i j 0 (L.told after)
    reads_after = reads_by L p after (ap sound write_done.tells ∙ served_lasts _ _ _ _ (L.told s) o)

    pub acknowledged : reply_to L (writing index sub n) s ≡ frame 0x60 index sub 0
    acknowledged = write_done.replies ∙ write_replies (L.told s) index sub n a

    pub read_back :
        reply_to L (reading index sub) (state_after L (writing index sub n) s) ≡ telling index sub (n % 256 ^ (line_at index sub).kind.bytes)
    read_back =
        reads_after index sub
        ∙ reads _ index sub 0 (there (L.told s) index sub n a)
        ∙ ap (telling index sub)
        (ap (λ (t : Told). number_at t index sub) told_after
        ∙ ap (number_for (line_at index sub).kind) (value_there (L.told s) index sub n a)
        ∙ number_back (line_at index sub).kind n (its_size index sub (there (L.told s) index sub n a)))

    pub others :
        (i j : ℕ) → is_read_only (line_at i j) ≡ false → (index is i && sub is j) ≡ false →
        reply_to L (reading i j) (state_after L (writing index sub n) s) ≡ reply_to L (reading i j) s
    others i j w e =
        let same = ap (λ (t : Told). value_at t (line_at i j)) told_after ∙ value_elsewhere (L.told s) index sub n a i j w e in
        reads_after i j ∙ reads_same _ (L.told s) i j 0 same ∙ sym (reads_by L p s o i j)

  -- a request of any length
  pub unwritten : (request : List ℕ) → byte (reply_to L request s) 0 ≢ 0x60 → L.told (state_after L request s) ≡ L.told s
  unwritten request n =
      let call = sdo request (replicate 8 0) in
      by_cases ((L.answer call s).reply.number is 0)
      (λ e.
      let done = p.done call s (eqb-true _ 0 e) in
      done.0 ∙ nothing_served (L.told s) _ _ _ _ (λ z. n (ap (λ (r : Reply). byte r.room 0) done.1 ∙ z)))
      (λ e. ap L.told (p.refused call s (eqb-false _ 0 e)).0)

  pub control_word : (word : ℕ) → L.told (L.answer (control word) s).state ≡ L.told (state_after L (writing 0x6040 0 word) s)
  control_word word =
      (p.done (control word) s (p.number (control word) s ∙ rw o)).0
      ∙ sym (told_after 0x6040 0 word (control_allowed (L.told s) o word) ∙ control_written (L.told s) word)

-- ---- control words

pub low_bits : (state before word : ℕ) → moved_to state before word ≡ moved_to state (before % 16) (word % 16)
unfolding moved_to
low_bits state before word =
    rw (bit_zero word, bit_one word, bit_two word, bit_three word, bit_three before)
  where
    bit_zero : (n : ℕ) → n % 16 / 2 ^ 0 % 2 ≡ n / 2 ^ 0 % 2
    bit_zero n = omega arith

    bit_one : (n : ℕ) → n % 16 / 2 ^ 1 % 2 ≡ n / 2 ^ 1 % 2
    bit_one n = omega arith

    bit_two : (n : ℕ) → n % 16 / 2 ^ 2 % 2 ≡ n / 2 ^ 2 % 2
    bit_two n = omega arith

    bit_three : (n : ℕ) → n % 16 / 2 ^ 3 % 2 ≡ n / 2 ^ 3 % 2
    bit_three n = omega arith
