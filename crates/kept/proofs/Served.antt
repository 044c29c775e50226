-- SDO requests. What a line's value is told is the value that its index and sub-index name; each test of a decision is the condition of its line in the
-- list of aborts, so the first that holds is the abort; and an accepted write leaves every other value as it was, since a value has one name.
use Rattle.std.specs.Prelude.{Result, Ok, Err, if◌then◌else◌}
use mathlib.Core.Bool.{Bool, true, false, not, cond, ◌&&◌, ◌||◌}
use mathlib.Core.List.{List, [], ◌∷◌, ◌++◌}
use mathlib.Core.Logic.{◌≢◌}
use mathlib.Core.Path.{◌≡◌, refl, sym, ap, ◌∙◌}
use Prim.Native.Nat.{ℕ, zero, suc, ◌+◌, ◌-◌, ◌*◌, ◌/◌, ◌<◌}
use native.Mathlib.Omega.{arith}
use borrow.Author.Tests.{eqb-true, eqb-false, eq-eqb, ne_eqb, lt-ltb, le-ltb, ltb-false, not-true, not-false}
use lib.IntN.{ℤ, nat_abs}
use lib.ListN.{drop}
use Rattle.integers.specs.Words.{each, ◌is◌, ◌below◌, ◌<?◌, ◌among◌}
use Rattle.integers.proofs.Cases.{by_cases, by_less, clash, apart}
use Rattle.integers.proofs.Each.{and_split}
use Rattle.objects.specs.Places.{UPPER_LIMIT, LOWER_LIMIT, RECEIVE_MAP, TRANSMIT_MAP, SET_POINT, SELECTION, CONTROL_WORD, STATUS_WORD, ERROR_CODE, COMMAND}
use Rattle.objects.specs.Places.{WRITABLE, POSITION}
use Rattle.objects.specs.Table.{objects, row_at}
use Rattle.objects.specs.Lookup.{ABOVE, Object}
use Rattle.coding.specs.Bytes.{four_bytes}
use Rattle.mapping.specs.Maps.{RECEIVABLE, SENDABLE, entry_of}
use Rattle.mapping.specs.Rules.{each_mapped, is_right, ruling_on}
use Rattle.mapping.specs.declared.Map.{Map}
use Rattle.device.specs.Device.{block_of}
use Rattle.device.specs.Queries.{block_command, device_command, status_of}
use Rattle.device.specs.Sound.{Sound}
use Rattle.device.specs.declared.Device.{Device}
use Rattle.device.proofs.Laws.{device_parts, state_below, other_at_zero, selected_is}
use Rattle.dictionary.specs.Aborts.{code_of_abort}
use Rattle.dictionary.specs.Accept.{Origin}
use Rattle.dictionary.specs.Named.{Named, value, byte, nothing, named}
use Rattle.dictionary.specs.Values.{value_at, written_to}
use Rattle.dictionary.specs.Decide.{size_abort, range_abort, crosses, map_ruling, ruled, verdict_on, read_of, read_decision, write_of, write_decision, carried_out}
use Rattle.dictionary.specs.declared.Decision.{Decision}
use Rattle.dictionary.specs.declared.Decision.TheVariants.{Read as Reading}
use Rattle.dictionary.specs.declared.Abort.{Abort}
use Rattle.dictionary.specs.declared.Abort.TheVariants.{UnknownCommand, NoObject, NoSubIndex, ReadOnlyEntry, TooHigh, TooLow, LimitsCrossed, LockedNow}
use Rattle.dictionary.proofs.Decisions.{others_unchanged}
use Rattle.dictionary.proofs.Laws.{InTable, named_in_table}
use Rattle.dictionary.proofs.Written.{to_selection, to_control, written_is_read, written_aside, written_sound}
use Rattle.sdo.specs.Acknowledged.{Acknowledged}
use Rattle.sdo.specs.Frames.{request_of, asks_of, frame_of, read_reply, replied_in}
use Rattle.sdo.specs.Serve.{decision_on, outcome_of, served}
use Rattle.sdo.specs.declared.Request.{Request}
use Rattle.sdo.specs.declared.Asks.TheVariants.{Reads, Writes}
use Rattle.sdo.specs.declared.Outcome.{Outcome}
use Rattle.sdo.specs.declared.Outcome.TheVariants.{Read, Written, Abort as Aborted, Refused}
use Rattle.sdo.proofs.Promises.{abort_unchanged, read_unchanged, acknowledged}
use Rattle.pdo.specs.Send.{number_read}
use Rattle.promises.specs.Library.{Told, holding, Refusal, ◌when◌, first}
use Rattle.promises.specs.Sheet.{Line, line_at, has_entry}
use Rattle.promises.specs.Valve.{status, command}
use Rattle.promises.specs.Sdo.{stands_for, number_at, sent_by, map_aborts, write_aborts, aborts, put, written, reply, low_first}
use Rattle.promises.specs.Sdo as Sdo
use Rattle.promises.proofs.Sheets.{its_index, its_sub}
use Rattle.kept.specs.Ours.{held_at, told_of}
use Rattle.kept.proofs.Plain.{held_by, plain_told, sound_told, held_told as held_plain, held_setting}
use Rattle.kept.proofs.Asked.{statuses, commands}
use Rattle.kept.proofs.Moved.{control_told}
use Rattle.kept.proofs.Mapped.{MapTold, receive_told, transmit_told}
use Rattle.kept.proofs.Lines.{Agrees, no_object, no_entry, by_entry, by_value, one_name, stands_is, number_is}

-- ---- laws of the layers

four_low : (n : ℕ) → four_bytes n ≡ low_first n
unfolding four_bytes
four_low n = let e : n / 1 ≡ n = omega arith in rw e

each_same : (n : ℕ) (f g : ℕ → Bool) → ((k : ℕ) → k < n → f k ≡ g k) → each n f ≡ each n g
unfolding each
each_same zero f g h = refl
each_same (suc n) f g h = rw (each_same n f g (λ k l. h k (omega arith)), h n (omega arith))

-- which rules a write meets
receive_ruling :
    (d : Device) (place sub : ℕ) (x : ℤ) → place ≡ RECEIVE_MAP + sub → sub < 5 →
    map_ruling d.maps place x ≡ ruling_on RECEIVABLE d.maps.receive sub (nat_abs x)
unfolding map_ruling
receive_ruling d place sub x e h =
    let back : place - RECEIVE_MAP ≡ sub = omega arith in
    rw (le-ltb place RECEIVE_MAP (omega arith), lt-ltb place TRANSMIT_MAP (omega arith), back)

transmit_ruling :
    (d : Device) (place sub : ℕ) (x : ℤ) → place ≡ TRANSMIT_MAP + sub → sub < 5 →
    map_ruling d.maps place x ≡ ruling_on SENDABLE d.maps.transmit sub (nat_abs x)
unfolding map_ruling
transmit_ruling d place sub x e h =
    let back : place - TRANSMIT_MAP ≡ sub = omega arith in
    rw (le-ltb place RECEIVE_MAP (omega arith), le-ltb place TRANSMIT_MAP (omega arith), lt-ltb place SET_POINT (omega arith), back)

no_ruling : (d : Device) (place : ℕ) (x : ℤ) → not (place below RECEIVE_MAP || not (place below SET_POINT)) ≡ false → map_ruling d.maps place x ≡ Ok tt
unfolding map_ruling
no_ruling d place x h =
    by_cases (place below RECEIVE_MAP) (λ e. rw e)
    (λ e.
    let past = ltb-false place SET_POINT (not-true _ (rw e at (not-false (place below RECEIVE_MAP || not (place below SET_POINT)) h))) in
    rw (e, le-ltb place TRANSMIT_MAP (omega arith), le-ltb place SET_POINT past))

-- what a command byte asks
abbrev WRITES : List ℕ
WRITES = 0x2F ∷ 0x2B ∷ 0x27 ∷ 0x23 ∷ []

asks_is : (c : ℕ) → asks_of c ≡ (if c is 0x40 then Ok Reads else if c among WRITES then Ok (Writes (sent_by c)) else Err UnknownCommand)
unfolding asks_of sent_by
asks_is c =
    by_cases (c is 0x40) (λ r. rw r)
    (λ r. by_cases (c is 0x2F) (λ e. rw (r, e))
    (λ e. by_cases (c is 0x2B) (λ f. rw (r, e, f))
    (λ f. by_cases (c is 0x27) (λ g. rw (r, e, f, g))
    (λ g. by_cases (c is 0x23) (λ h. rw (r, e, f, g, h)) (λ h. rw (r, e, f, g, h))))))

-- ---- an outcome as it is told, an abort by its code

pub data Came : Type 0 where
  gave : ℕ → ℕ → Came
  done : Came
  aborted : ℕ → Came
  refused : Came

abbrev pub came : Outcome → Came
came (Read size number) = gave size number
came Written = done
came (Aborted abort) = aborted (code_of_abort abort)
came (Refused _) = refused

came_gave : (o : Outcome) {size number : ℕ} → came o ≡ gave size number → o ≡ Read size number
came_gave (Read size number) e = cc
came_gave Written e = apart (cc)
came_gave (Aborted abort) e = apart (cc)
came_gave (Refused _) e = apart (cc)

came_done : (o : Outcome) → came o ≡ done → o ≡ Written
came_done (Read size number) e = apart (cc)
came_done Written e = refl
came_done (Aborted abort) e = apart (cc)
came_done (Refused _) e = apart (cc)

came_aborted : (o : Outcome) {code : ℕ} → came o ≡ aborted code → (abort : Abort) × (o ≡ Aborted abort)
came_aborted (Read size number) e = apart (cc)
came_aborted Written e = apart (cc)
came_aborted (Aborted abort) e = (abort, refl)
came_aborted (Refused _) e = apart (cc)

-- the room after its reply
abbrev replied_by : Came → Request → List ℕ → List ℕ
replied_by (gave size number) q room = frame_of (read_reply size) q.index q.sub number ++ drop 8 room
replied_by done q room = frame_of 0x60 q.index q.sub 0 ++ drop 8 room
replied_by (aborted code) q room = frame_of 0x80 q.index q.sub code ++ drop 8 room
replied_by refused q room = room

replied_is : (o : Outcome) (q : Request) (room : List ℕ) → replied_in o q room ≡ replied_by (came o) q room
unfolding replied_in
replied_is (Read size number) q room = refl
replied_is Written q room = refl
replied_is (Aborted abort) q room = refl
replied_is (Refused _) q room = refl

-- ---- one test, one line

-- the first of a list, or what is due
abbrev pub first_or : List Refusal → Came → Came
first_or list due = if not (first list is 0) then aborted (first list) else due

record Meets (v : Result Decision Abort) (list : List Refusal) (due : Came) : Type 0 where
  outcome : came (outcome_of v) ≡ first_or list due

step :
    (abort : Abort) {t u : Bool} {rest : Result Decision Abort} {list : List Refusal} {due : Came} → (code_of_abort abort is 0) ≡ false → t ≡ u →
    (t ≡ false → Meets rest list due) → Meets (cond t (Err abort) rest) (code_of_abort abort when u ∷ list) due
step abort {t} {u} n e f = record { outcome = rw (← e) (by_cases t (λ k. rw (k, n)) (λ k. rw k (f k).outcome)) }

-- place 5 has a line for each way
size_step :
    (has sent : ℕ) {rest : Result Decision Abort} {list : List Refusal} {due : Came} → Meets rest list due →
    Meets (cond (not (has is sent)) (Err (size_abort has sent)) rest) (0x06070012 when (has below sent) ∷ 0x06070013 when (sent below has) ∷ list) due
size_step has sent m =
    by_less has sent
    (λ h. record { outcome = rw (ne_eqb has sent (λ e. omega arith), lt-ltb has sent h) })
    (λ h. by_less sent has
    (λ k. record { outcome = rw (ne_eqb has sent (λ e. omega arith), le-ltb has sent h, lt-ltb sent has k) })
    (λ k. let e : has ≡ sent = omega arith in record { outcome = rw (eq-eqb has sent e, le-ltb has sent h, le-ltb sent has k) m.outcome }))

-- place 6 one for a choice and one for each way
range_step :
    (choice high low : Bool) {rest : Result Decision Abort} {list : List Refusal} {due : Came} → Meets rest list due →
    Meets (cond high (Err (range_abort choice TooHigh)) (cond low (Err (range_abort choice TooLow)) rest))
    (0x06090030 when (choice && (high || low)) ∷ 0x06090031 when high ∷ 0x06090032 when low ∷ list) due
range_step true true low m = record { outcome = refl }
range_step false true low m = record { outcome = refl }
range_step true false true m = record { outcome = refl }
range_step false false true m = record { outcome = refl }
range_step true false false m = record { outcome = m.outcome }
range_step false false false m = record { outcome = m.outcome }

-- the rules of a map, as it is told
map_step :
    {t : Told} {index : ℕ} {m : Map} → MapTold t index m → (sub n which place : ℕ) (x : ℤ) →
    Meets (ruled (ruling_on (Sdo.mappable index) m sub n) which place x) (map_aborts t index sub n) done
unfolding ruling_on is_right each_mapped map_aborts
map_step {t} {index} {m} told sub n which place x =
    by_cases (sub is 0)
    (λ e. by_cases (4 below n) (λ f. record { outcome = rw (e, f) })
    (λ f.
    let few = ltb-false 4 n f in
    let same = each_same n (λ k. Sdo.mapped t index (k + 1) among Sdo.mappable index) (λ k. entry_of m k among Sdo.mappable index)
    (λ k l. rw (told.entry k (omega arith))) in
    by_cases (each n (λ k. entry_of m k among Sdo.mappable index))
    (λ g. record { outcome = rw (e, f, same, g) }) (λ g. record { outcome = rw (e, f, same, g) })))
    (λ e. by_cases (m.count is 0)
    (λ f. by_cases (n is 0 || n among Sdo.mappable index)
    (λ g. record { outcome = rw (e, told.count, f, g) }) (λ g. record { outcome = rw (e, told.count, f, g) }))
    (λ f. record { outcome = rw (e, told.count, f) }))

-- what a request comes to
abbrev pub outcome_in : Told → ℕ → ℕ → ℕ → ℕ → Came
outcome_in t c index sub n =
    first_or (aborts t c index sub n) (if c is 0x40 then gave (line_at index sub).kind.bytes (number_at t index sub) else done)

-- ---- what is told of a line

module _ {d : Device} (s : Sound d) where
  pub held_told : (index sub which place : ℕ) → named index sub ≡ value which place → place < SELECTION → (told_of d).value index sub ≡ value_at d which place
  held_told index sub which place e h = rw (sound_told s) (held_plain d index sub which place e h)

  status_plain : status (plain_told d) ≡ status_of d
  status_plain = ap status (sym (sound_told s)) ∙ statuses s

  command_plain : command (plain_told d) ≡ device_command d
  command_plain = ap command (sym (sound_told s)) ∙ commands s

  value_of_line :
      {l : Line} {which place : ℕ} → Object which place → Agrees l which place → named l.index l.sub ≡ value which place →
      Sdo.value_at (plain_told d) l ≡ value_at d which place
  unfolding Sdo.value_at
  value_of_line {l} {which} {place} o a e =
      by_less place SELECTION
      (λ h. rw (a.held, lt-ltb place SELECTION h) (held_plain d l.index l.sub which place e h))
      (λ h. rw (a.held, le-ltb place SELECTION h, a.control, a.status, a.error, a.selection, a.command, a.pressure_command)
      (by_cases (place is CONTROL_WORD) (λ c. rw (eqb-true place CONTROL_WORD c) (unfold value_at in refl))
      (λ c. by_cases (place is STATUS_WORD) (λ f. rw (eqb-true place STATUS_WORD f, status_plain) (unfold value_at in refl))
      (λ f. by_cases (place is ERROR_CODE) (λ g. rw (eqb-true place ERROR_CODE g) (unfold value_at in refl))
      (λ g. by_cases (place is SELECTION) (λ k. rw (eqb-true place SELECTION k) (unfold value_at in refl))
      (λ k.
      let p : place ≡ COMMAND =
      omega (arith, o.row, eqb-false place CONTROL_WORD c, eqb-false place STATUS_WORD f, eqb-false place ERROR_CODE g, eqb-false place SELECTION k) in
      rw (p, command_plain)
      (unfold value_at block_command in by_cases (which is 0) (λ w. rw (eqb-true which 0 w))
      (λ w. let one : which ≡ 1 = omega (arith, o.block, eqb-false which 0 w) in rw one))))))))

  pub value_told : (index sub which place : ℕ) → named index sub ≡ value which place → Sdo.value_at (told_of d) (line_at index sub) ≡ value_at d which place
  value_told index sub which place e =
      rw (sound_told s) (by_value index sub which place e (λ h o a. value_of_line o a (rw (its_index index sub h, its_sub index sub h) e)))

  -- what a read tells
  pub read_told :
      (index sub : ℕ) → has_entry index sub ≡ true →
      read_decision d index sub ≡ Ok (Reading (line_at index sub).kind.bytes (number_at (told_of d) index sub))
  unfolding read_decision read_of
  read_told index sub h =
      by_entry index sub h
      (λ which place e o a. rw (e, a.bytes, value_told index sub which place e, number_is a))
      (λ number e b. rw (e, b.bytes, b.value_is, b.number_is))

  pub number_told : (index sub : ℕ) → has_entry index sub ≡ true → number_read (read_decision d index sub) ≡ number_at (told_of d) index sub
  number_told index sub h = ap number_read (read_told index sub h)

  -- ---- a write to an entry whose line and row agree

  module _ {l : Line} {which place : ℕ} (o : Object which place) (a : Agrees l which place) where
    cross_told : (x : ℤ) → crosses (block_of which d) place x ≡ Sdo.crosses (plain_told d) l.index x
    unfolding crosses Sdo.crosses objects
    cross_told x =
        rw (a.upper, a.lower)
        (by_cases (place is UPPER_LIMIT)
        (λ e.
        let i : l.index ≡ 0x6320 + ABOVE * which = (rw (eqb-true place UPPER_LIMIT e) at a.place_index) in
        let next : l.index + 1 ≡ 0x6321 + ABOVE * which = omega arith in
        rw (e, next, held_setting d which LOWER_LIMIT o.block (omega arith)))
        (λ e. by_cases (place is LOWER_LIMIT)
        (λ f.
        let i : l.index ≡ 0x6321 + ABOVE * which = (rw (eqb-true place LOWER_LIMIT f) at a.place_index) in
        let next : l.index - 1 ≡ 0x6320 + ABOVE * which = omega arith in
        rw (e, f, next, held_setting d which UPPER_LIMIT o.block (omega arith)))
        (λ f. rw (e, f))))

    map_told :
        (x : ℤ) →
        Meets (ruled (map_ruling d.maps place x) which place x)
        (if l.index among 0x1600 ∷ 0x1A00 ∷ [] then map_aborts (plain_told d) l.index l.sub (nat_abs x) else []) done
    map_told x =
        by_cases (l.index is 0x1600)
        (λ e. rw (receive_ruling d place l.sub x (a.receive e) (a.map_sub (rw e)), eqb-true l.index 0x1600 e)
        (map_step (receive_told d) l.sub (nat_abs x) which place x))
        (λ e. by_cases (l.index is 0x1A00)
        (λ f. rw (transmit_ruling d place l.sub x (a.transmit f) (a.map_sub (rw (e, f))), eqb-true l.index 0x1A00 f)
        (map_step (transmit_told d) l.sub (nat_abs x) which place x))
        (λ f.
        let none : (l.index among 0x1600 ∷ 0x1A00 ∷ []) ≡ false = rw (e, f) in
        rw (no_ruling d place x (sym a.mapped ∙ none), e, f) (record { outcome = refl })))

    verdict : (size : ℕ) (x : ℤ) → Meets (verdict_on d which place size x) (write_aborts (plain_told d) l size x) done
    unfolding verdict_on write_aborts
    verdict size x =
        rw (a.bytes, a.low, a.high, a.choice)
        (step ReadOnlyEntry refl (sym a.read_only)
        (λ w. size_step (row_at place).size size
        (range_step (row_at place).choice ((row_at place).high <? x) (x <? (row_at place).low)
        (step LimitsCrossed refl (cross_told x)
        (λ _. step LockedNow refl (a.lock (not-false _ w) d.state (state_below d.state (device_parts s).known))
        (λ _. map_told x))))))

  -- ---- a request

  by_listed :
      (index sub : ℕ) (decide : Named → Result Decision Abort) (rest : List Refusal) (due : Came) → ((abort : Abort) → decide (nothing abort) ≡ Err abort) →
      (has_entry index sub ≡ true → Meets (decide (named index sub)) rest due) →
      Meets (decide (named index sub)) (0x06020000 when not (has_entry index 0) ∷ 0x06090011 when not (has_entry index sub) ∷ rest) due
  by_listed index sub decide rest due n f =
      by_cases (has_entry index 0)
      (λ h. by_cases (has_entry index sub)
      (λ e. record { outcome = rw (h, e) (f e).outcome })
      (λ e. record { outcome = rw (h, e, no_entry index sub h e, n NoSubIndex) }))
      (λ h. record { outcome = rw (h, no_object index sub h, n NoObject) })

  read_meets :
      (index sub : ℕ) →
      Meets (read_decision d index sub) (0x06020000 when not (has_entry index 0) ∷ 0x06090011 when not (has_entry index sub) ∷ [])
      (gave (line_at index sub).kind.bytes (number_at (told_of d) index sub))
  unfolding read_decision read_of
  read_meets index sub = by_listed index sub (read_of d) [] _ (λ abort. refl) (λ h. record { outcome = ap (λ (v : Result Decision Abort). came (outcome_of v)) (read_told index sub h) })

  write_meets :
      (index sub size n : ℕ) →
      Meets (write_decision d index sub size n)
      (0x06020000 when not (has_entry index 0)
      ∷ 0x06090011 when not (has_entry index sub)
      ∷ write_aborts (told_of d) (line_at index sub) size (stands_for (line_at index sub).kind n)) done
  unfolding write_decision write_of
  write_meets index sub size n =
      by_listed index sub (write_of d size n) _ _ (λ abort. refl)
      (λ h. by_entry index sub h
      (λ which place e o a. rw (e, stands_is a n, sound_told s) (verdict o a size _))
      (λ number e b. record { outcome = unfold write_aborts in rw (e, b.read_only) }))

  pub outcome_told : (q : Request) → came (served d q).outcome ≡ outcome_in (told_of d) q.command q.index q.sub q.number
  unfolding served decision_on aborts
  outcome_told q =
      by_cases (q.command is 0x40) (λ r. rw (asks_is q.command, r) (read_meets q.index q.sub).outcome)
      (λ r. by_cases (q.command among WRITES)
      (λ w. rw (asks_is q.command, r, w) (write_meets q.index q.sub (sent_by q.command) q.number).outcome)
      (λ w. rw (asks_is q.command, r, w)))

-- ---- what an accepted write leaves

module _ {d : Device} (s : Sound d) {index sub size n which place : ℕ} {x : ℤ} (o : Origin d index sub size n which place x) where
  abbrev after : Device
  after = written_to which place x d

  after_sound : Sound after
  after_sound = written_sound s which place size x o.below o.accept

  held_kept : (i j : ℕ) → ((v k : ℕ) → named i j ≡ value v k → k < SELECTION → value v k ≢ value which place) → held_by after i j ≡ held_by d i j
  held_kept i j other = by (named i j) refl (named_in_table i j)
    where
      by : (m : Named) → named i j ≡ m → InTable m → held_at after m ≡ held_at d m
      by (value v k) e h =
          by_less k SELECTION
          (λ l. rw (lt-ltb k SELECTION l) (others_unchanged s o v k h (omega arith) (other v k e l)))
          (λ l. rw (le-ltb k SELECTION l))
      by (byte number) e h = refl
      by (nothing abort) e h = refl

  held_put : place < SELECTION → (i j : ℕ) → held_by after i j ≡ put index sub x (held_by d) i j
  held_put h i j =
      by_cases (index is i && sub is j)
      (λ e.
      let both = and_split (index is i) (sub is j) e in
      let p : index ≡ i = eqb-true _ _ both.0 in
      let q : sub ≡ j = eqb-true _ _ both.1 in
      rw (e, ← p, ← q) (held_plain after index sub which place o.found h ∙ written_is_read s which place x o.below o.accept.range))
      (λ e. rw e (held_kept i j (λ v k f l same.
      let one = one_name index sub i j which place o.found (f ∙ same) in
      clash (rw (eq-eqb index i one.0, eq-eqb sub j one.1)) e)))

  -- a value that is told by name
  single : (k : ℕ) → k < WRITABLE → place ≢ k → value_at after POSITION k ≡ value_at d POSITION k
  single k h n =
      others_unchanged s o POSITION k (record { row = omega arith; block = omega arith; own = λ e. absurd (omega (arith, e)) }) h
      (λ same. let p : k ≡ place = cc in n (sym p))

  control_kept : place ≢ CONTROL_WORD → after.control ≡ d.control
  unfolding value_at
  control_kept n = ap nat_abs (single CONTROL_WORD (omega arith) n)

  selection_kept : place ≢ SELECTION → after.selected ≡ d.selected
  unfolding value_at
  selection_kept n = ap nat_abs (single SELECTION (omega arith) n)

  selection_written : place ≡ SELECTION → after.selected ≡ nat_abs x
  selection_written e = rw (to_selection which place x d e, selected_is)

  held_after :
      (block : ℕ) (values : ℕ → ℕ → ℤ) → place ≢ CONTROL_WORD → after.selected ≡ block → ((i j : ℕ) → held_by after i j ≡ values i j) →
      plain_told after ≡ holding block values (plain_told d)
  held_after block values c e f =
      let a = written_aside s which place size x o.below o.accept c in
      let word = control_kept c in
      let rest : after.other.position ≡ d.other.position = other_at_zero after_sound ∙ sym (other_at_zero s) in
      λ i.
      record {
        state = a.state i;
        control = word i;
        error = a.error i;
        selected = e i;
        position = a.position i;
        other = rest i;
        phase = a.phase i;
        value = λ k j. f k j i;
      }

  written_told : told_of after ≡ written index sub (stands_for (line_at index sub).kind n) (told_of d)
  unfolding written
  written_told =
      by_value index sub which place o.found
      (λ h _ a.
      let control : (index is 0x6040) ≡ (place is CONTROL_WORD) = (rw (its_index index sub h) at a.control) in
      let selection : (index is 0x2000) ≡ (place is SELECTION) = (rw (its_index index sub h) at a.selection) in
      rw (stands_is a n ∙ sym o.stands, control, selection)
      (by_cases (place is CONTROL_WORD)
      (λ e. rw (e, to_control which place x d (eqb-true place CONTROL_WORD e)) (control_told s (nat_abs x)))
      (λ e. by_cases (place is SELECTION)
      (λ f.
      let p = eqb-true place SELECTION f in
      rw (e, f, sound_told after_sound, sound_told s)
      (held_after (nat_abs x) (held_by d) (eqb-false place CONTROL_WORD e) (selection_written p)
      (λ i j. held_kept i j (λ v k g l same. let q : k ≡ place = cc in omega arith))))
      (λ f.
      let n : place ≢ SELECTION = eqb-false place SELECTION f in
      let c : place ≢ CONTROL_WORD = eqb-false place CONTROL_WORD e in
      rw (e, f, sound_told after_sound, sound_told s)
      (held_after d.selected (put index sub x (held_by d)) c (selection_kept n)
      (held_put (omega (arith, o.below))))))))

-- ---- what a request leaves, and its reply

module _ {d : Device} (s : Sound d) where
  acknowledged_told :
      (q : Request) → Acknowledged d q →
      told_of (served d q).device ≡ written q.index q.sub (stands_for (line_at q.index q.sub).kind q.number) (told_of d)
  acknowledged_told q w = ap told_of w.device ∙ written_told s w.origin

  pub served_told : (q : Request) → told_of (served d q).device ≡ Sdo.served q.command q.index q.sub q.number (told_of d)
  unfolding Sdo.served
  served_told q =
      by_cases (first (aborts (told_of d) q.command q.index q.sub q.number) is 0)
      (λ z. by_cases (q.command is 0x40)
      (λ r. rw r (ap told_of (read_unchanged d q _ _ (came_gave _ (rw (z, r) at (outcome_told s q))))))
      (λ r. rw (r, z) (acknowledged_told q (acknowledged d q (came_done _ (rw (z, r) at (outcome_told s q)))))))
      (λ z.
      let abort = came_aborted _ (rw z at (outcome_told s q)) in
      let kept = ap told_of (abort_unchanged d q abort.0 abort.1) in
      by_cases (q.command is 0x40) (λ r. rw r kept) (λ r. rw (r, z) kept))

  pub write_told :
      (command index sub n : ℕ) → (command among 0x2F ∷ 0x2B ∷ 0x27 ∷ 0x23 ∷ []) ≡ true →
      told_of (carried_out (write_decision d index sub (sent_by command) n) d) ≡ Sdo.served command index sub n (told_of d)
  unfolding served decision_on
  write_told c index sub n h =
      let q : Request = record { command = c; sub = sub; index = index; number = n } in
      let r : (c is 0x40) ≡ false = by_cases (c is 0x40) (λ e. clash (rw (eqb-true c 0x40 e) at h) refl) (λ e. e) in
      let asked : asks_of c ≡ Ok (Writes (sent_by c)) = asks_is c ∙ rw (r, h) in
      rw asked at (served_told q)

  pub request_told :
      (request : List ℕ) →
      told_of (served d (request_of request)).device
      ≡ Sdo.served (Sdo.byte request 0) (Sdo.two_from request 1) (Sdo.byte request 3) (Sdo.four_from request 4) (told_of d)
  request_told request = served_told (request_of request)

  replied_told :
      (q : Request) (room : List ℕ) → replied_in (served d q).outcome q room ≡ reply q.command q.index q.sub q.number (told_of d) ++ drop 8 room
  unfolding replied_in frame_of read_reply reply
  replied_told q room =
      rw (replied_is (served d q).outcome q room, outcome_told s q)
      (by_cases (first (aborts (told_of d) q.command q.index q.sub q.number) is 0)
      (λ z. by_cases (q.command is 0x40) (λ r. rw (z, r, four_low)) (λ r. rw (z, r, four_low)))
      (λ z. rw (z, four_low)))

  pub reply_told :
      (request room : List ℕ) →
      replied_in (served d (request_of request)).outcome (request_of request) room
      ≡ reply (Sdo.byte request 0) (Sdo.two_from request 1) (Sdo.byte request 3) (Sdo.four_from request 4) (told_of d) ++ drop 8 room
  reply_told request room = replied_told (request_of request) room
