-- Each contract is an equation; the library's answers leave a refused device, whose words are those that hold it.
use Rattle.std.proofs.Common.{Ok, Err, Result}
use mathlib.Core.List.{List}
use mathlib.Core.Logic.{◌≢◌}
use mathlib.Core.Path.{◌≡◌, refl, sym, ap, ◌∙◌}
use Prim.Native.Nat.{ℕ}
use lib.IntN.{ℤ}
use lib.ListN.{length}
use Rattle.integers.proofs.Cases.{by_cases, apart}
use Rattle.device.specs.declared.Device.{Device}
use Rattle.device.specs.declared.refusal.Refusal.{Refusal}
use Rattle.sdo.specs.Frames.{number_handed_back}
use Rattle.sdo.specs.declared.Outcome.{Outcome}
use Rattle.sdo.specs.declared.Outcome.TheVariants.{Read, Written, Abort as Aborted, Refused}
use Rattle.rainsheave.specs.Calls.{Report, number_of_report, bytes_sent, sdo_answer, send_answer, send_room_by, send_room, store_answer, room_by, store_room}
use Rattle.rainsheave.specs.declared.Change.{Change}
use Rattle.rainsheave.proofs.Promises.{sdo_unchanged, refusal_writes_nothing}
use Rattle.words.specs.Words.{WORDS, words_of, device_in, hold_device}
use Rattle.words.proofs.Laws.{held_words}
use Rattle.c_api.specs.Asked.{Left}
use Rattle.c_api.specs.Exported.{SdoIs, SendIs, StoreIs}
use Rattle.c_api.specs.declared.Sent.{Sent}
use Rattle.c_api.specs.Promised.{Determined, Unchanged, Refusing, Promised}
use Rattle.c_api.proofs.Lasting.{lasting}
use Rattle.c_api.proofs.Answers.{control_moves, fault_moves, tick_moves, jump_moves, receive_receives, load_loads}

-- two things that are equal to a third
one {ℓ} : {A : Type ℓ} {x y z : A} → x ≡ z → y ≡ z → x ≡ y
one p q = p ∙ sym q

pub determined : Determined
determined =
    record {
      fresh = λ p q. one p.words q.words;
      change = λ p q. (one p.number q.number, one p.words q.words);
      sdo = λ p q. (one p.number q.number, one p.words q.words, one p.bytes q.bytes);
      read_request = λ p q. one p.bytes q.bytes;
      write_request = λ p q. one p.bytes q.bytes;
      query = λ p q. one p.result q.result;
      send = λ p q. (one p.sent q.sent, one p.number q.number, one p.bytes q.bytes);
      store = λ p q. (one p.number q.number, one p.bytes q.bytes);
      find = λ p q. (one p.begin q.begin, one p.long q.long, one p.number q.number);
    }

-- ---- refusals

-- a report with another number than 0 is a refusal, which leaves the device
left_refused : (report : Report) (d e : Device) → Left report d e → number_of_report report ≢ 0 → e ≡ d
left_refused (Ok done) d e left h = absurd (h refl)
left_refused (Err refusal) d e left h = left

unchanged : (answer : Device → Change) → ((d : Device) → Left (answer d).report d (answer d).device) → Unchanged answer
unchanged answer left before after r l c h =
    by_cases (hold_device before)
    (λ t.
    let d = device_in before in
    let refused : number_of_report (answer d).report ≢ 0 = λ z. h (c.number ∙ rw t z) in
    c.words ∙ rw t (ap words_of (left_refused (answer d).report d (answer d).device (left d) refused) ∙ held_words (record { held = t }) l))
    (λ t. c.words ∙ rw t)

-- an outcome with another number than 0 is a refusal
refusal_of : (o : Outcome) → number_handed_back o ≢ 0 → (refusal : Refusal) × (o ≡ Refused refusal)
refusal_of (Read size number) h = absurd (h refl)
refusal_of Written h = absurd (h refl)
refusal_of (Aborted abort) h = absurd (h refl)
refusal_of (Refused refusal) h = (refusal, refl)

sdo_refused : {request : List ℕ} {before after : List ℤ} {room left : List ℕ} {r : ℕ} → length before ≡ WORDS → SdoIs request before after room left r → r ≢ 0 → (after ≡ before) × (left ≡ room)
sdo_refused {request} {before} {after} {room} {left} l c h =
    by_cases (hold_device before)
    (λ t.
    let d = device_in before in
    let e = refusal_of (sdo_answer d request (length room)).outcome (λ z. h (c.number ∙ rw t z)) in
    let changes_nothing = sdo_unchanged d request (length room) (λ w. apart (cc (e.1, w))) in
    (c.words ∙ rw t (ap words_of changes_nothing ∙ held_words (record { held = t }) l), c.bytes ∙ rw t (refusal_writes_nothing d request room e.0 e.1)))
    (λ t. (c.words ∙ rw t, c.bytes ∙ rw t))

-- what is no refusal has 0, and a refusal writes nothing
sent_nothing : (report : Result ℕ Refusal) (d : Device) (room : List ℕ) → number_of_report report ≢ 0 → (send_room_by report d room ≡ room) × (bytes_sent report ≡ 0)
sent_nothing (Ok bytes) d room h = absurd (h refl)
sent_nothing (Err refusal) d room h = (refl, refl)

stored_nothing : (report : Report) (d : Device) (room : List ℕ) → number_of_report report ≢ 0 → room_by report d room ≡ room
stored_nothing (Ok done) d room h = absurd (h refl)
stored_nothing (Err refusal) d room h = refl

send_refused : {words : List ℤ} {room left : List ℕ} {r : Sent} → SendIs words room left r → r.number ≢ 0 → (left ≡ room) × (r.length ≡ 0)
unfolding send_room
send_refused {words} {room} c h =
    by_cases (hold_device words)
    (λ t.
    let d = device_in words in
    let nothing = sent_nothing (send_answer d (length room)) d room (λ z. h (c.number ∙ rw t z)) in
    (c.bytes ∙ rw t nothing.0, c.sent ∙ rw t nothing.1))
    (λ t. (c.bytes ∙ rw t, c.sent ∙ rw t))

store_refused : {words : List ℤ} {room left : List ℕ} {r : ℕ} → StoreIs words room left r → r ≢ 0 → left ≡ room
unfolding store_room
store_refused {words} {room} c h =
    by_cases (hold_device words)
    (λ t.
    let d = device_in words in
    c.bytes ∙ rw t (stored_nothing (store_answer d (length room)) d room (λ z. h (c.number ∙ rw t z))))
    (λ t. c.bytes ∙ rw t)

pub refusing : Refusing
refusing =
    record {
      control = λ word. unchanged _ (λ d. (control_moves d word).left);
      fault = λ code. unchanged _ (λ d. (fault_moves d code).left);
      tick = unchanged _ (λ d. (tick_moves d).left);
      jump = λ n. unchanged _ (λ d. (jump_moves d n).left);
      receive = λ pdo. unchanged _ (λ d. (receive_receives d pdo).left);
      load = λ image. unchanged _ (λ d. (load_loads d image).left);
      sdo = sdo_refused;
      send = send_refused;
      store = store_refused;
    }

pub promised : Promised
promised = record { determined = determined; refusing = refusing; lasting = lasting }
