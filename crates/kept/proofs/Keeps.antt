-- The library keeps the promises. Of each call the conditions are gone through in their order: where one holds, the answer is the refusal by
-- its number; where none does, the device is sound, and what it answers is what the rules say of what is told.
use Rattle.std.specs.Prelude.{Result, Ok, Err}
use mathlib.Core.Bool.{Bool, true}
use mathlib.Core.List.{List}
use mathlib.Core.Logic.{◌≢◌}
use mathlib.Core.Path.{◌≡◌, refl, sym, ap, ◌∙◌}
use Prim.Native.Nat.{ℕ, ◌*◌, ◌/◌, ◌%◌}
use native.Mathlib.Omega.{arith}
use borrow.Author.Tests.{eqb-false}
use lib.IntN.{pos}
use lib.ListN.{length}
use Rattle.integers.specs.Words.{◌is◌, ◌below◌}
use Rattle.integers.proofs.Cases.{by_cases}
use Rattle.image.specs.Fields.{stored_in}
use Rattle.image.specs.Walk.{Found, walk, part_of, begin_of, code_of}
use Rattle.image.specs.declared.Miss.TheVariants.{Cut, Ended}
use Rattle.mapping.specs.Maps.{map_length}
use Rattle.device.specs.Sound.{sound_device, Sound}
use Rattle.device.specs.declared.Device.{Device}
use Rattle.device.specs.declared.refusal.Refusal.{Refusal}
use Rattle.device.specs.declared.refusal.Refusal.TheVariants.{Unsound, WrongLength, NoRoom, NoReplyDue}
use Rattle.dictionary.specs.declared.Decision.{Decision}
use Rattle.dictionary.specs.declared.Decision.TheVariants.{Read, Write}
use Rattle.dictionary.specs.declared.Abort.{Abort}
use Rattle.sdo.specs.Frames.{request_of, number_handed_back, replied_in}
use Rattle.sdo.specs.Serve.{decision_on, outcome_of, served}
use Rattle.sdo.specs.declared.Outcome.TheVariants.{Refused}
use Rattle.rainsheave.specs.Calls.{sdo_answer, sdo_room, control_answer, fault_answer, tick_answer, jump_answer, query_answer}
use Rattle.rainsheave.specs.Calls.{receive_answer, send_answer, send_room, store_answer, store_room, load_answer}
use Rattle.rainsheave.proofs.Sound.{receive_length, transmit_length}
use Rattle.promises.specs.Library.{Told, Query, Call, Answer, first}
use Rattle.promises.specs.Library.{fresh, sdo, control, fault, tick, jump, query, receive, send, store, load, search}
use Rattle.promises.specs.Library as Asked
use Rattle.promises.specs.Sdo.{byte, mapped}
use Rattle.promises.specs.Image.{found, full, fits}
use Rattle.promises.specs.Image as Image
use Rattle.promises.specs.Promises.{sound, refusals, asked, replied, does, lent, Promises}
use Rattle.kept.specs.Ours.{value_of, answer_of, told_of, rainsheave}
use Rattle.kept.proofs.Plain.{sound_told}
use Rattle.kept.proofs.Asked.{targets, statuses, commands}
use Rattle.kept.proofs.Moved.{control_told, fault_told, tick_told, jump_told, counts}
use Rattle.kept.proofs.Sounded.{sound_is}
use Rattle.kept.proofs.Freshly.{fresh_told_lem}
use Rattle.kept.proofs.Served.{request_told, reply_told}
use Rattle.kept.proofs.Cyclic.{receive_map_told, transmit_map_told, received_told, sent_told}
use Rattle.kept.proofs.Imaged.{store_told, full_is, fits_is, load_told, search_told}

-- ---- what becomes of a call

-- refused by a number, or done as the rules say
data Kept (c : Call) (d : Device) : Type 0 where
  refusing : (n : ℕ) → n ≢ 0 → first (refusals c (told_of d)) ≡ n → answer_of c d ≡ record { state = d; reply = replied n (lent c) (pos 0) } → Kept c d
  doing :
      first (refusals c (told_of d)) ≡ 0 → (answer_of c d).reply.number ≡ 0 → told_of (answer_of c d).state ≡ (does c (told_of d)).state →
      (answer_of c d).reply ≡ (does c (told_of d)).reply → Kept c d

-- a device that is not sound tells nothing sound
tells : (d : Device) {t : Bool} → sound_device d ≡ t → sound (told_of d) ≡ t
tells d e = sym (sound_is d) ∙ e

is_sound : {d : Device} → sound_device d ≡ true → Sound d
is_sound e = record { sound = e }

-- ---- requests

no_number : (x : Result Decision Abort) → number_handed_back (outcome_of x) ≡ 0
no_number (Ok (Read size number)) = refl
no_number (Ok (Write which place x)) = refl
no_number (Err abort) = refl

sdo_kept : (request room : List ℕ) (d : Device) → Kept (sdo request room) d
unfolding sdo_answer sdo_room
sdo_kept request room d =
    by_cases (sound_device d)
    (λ e. by_cases (length request is 8)
    (λ f. by_cases (length room below 8)
    (λ g. refusing 3 (λ z. omega (arith, z)) (rw (tells d e, f, g)) (rw (e, f, g, refused_room NoRoom)))
    (λ g. by_cases (byte request 0 / 32 is 4)
    (λ h. refusing 4 (λ z. omega (arith, z)) (rw (tells d e, f, g, h)) (rw (e, f, g, h, refused_room NoReplyDue)))
    (λ h.
    let n : number_handed_back (served d (request_of request)).outcome ≡ 0 = (unfold served in no_number (decision_on d (request_of request))) in
    doing (rw (tells d e, f, g, h)) (rw (e, f, g, h) n) (rw (e, f, g, h) (request_told (is_sound e) request))
    (rw (e, f, g, h, n, reply_told (is_sound e) request room)))))
    (λ f. refusing 2 (λ z. omega (arith, z)) (rw (tells d e, f)) (rw (e, f, refused_room WrongLength))))
    (λ e. refusing 1 (λ z. omega (arith, z)) (rw (tells d e)) (rw (e, refused_room Unsound)))
  where
    refused_room : (refusal : Refusal) → replied_in (Refused refusal) (request_of request) room ≡ room
    refused_room refusal = unfold replied_in in refl

-- ---- control words, faults, ticks and jumps

control_kept : (word : ℕ) (d : Device) → Kept (control word) d
unfolding control_answer
control_kept word d =
    by_cases (sound_device d)
    (λ e. doing (rw (tells d e)) (rw e) (rw e (control_told (is_sound e) (word % 65536))) (rw e))
    (λ e. refusing 1 (λ z. omega (arith, z)) (rw (tells d e)) (rw e))

fault_kept : (code : ℕ) (d : Device) → Kept (fault code) d
unfolding fault_answer
fault_kept code d =
    by_cases (sound_device d)
    (λ e. by_cases (code % 65536 is 0)
    (λ f. refusing 5 (λ z. omega (arith, z)) (rw (tells d e, f)) (rw (e, f)))
    (λ f. doing (rw (tells d e, f)) (rw (e, f)) (rw (e, f) (fault_told (is_sound e) (code % 65536) (eqb-false _ 0 f))) (rw (e, f))))
    (λ e. refusing 1 (λ z. omega (arith, z)) (rw (tells d e)) (rw e))

tick_kept : (d : Device) → Kept tick d
unfolding tick_answer
tick_kept d =
    by_cases (sound_device d)
    (λ e. doing (rw (tells d e)) (rw e) (rw e (tick_told (is_sound e))) (rw e))
    (λ e. refusing 1 (λ z. omega (arith, z)) (rw (tells d e)) (rw e))

jump_kept : (n : ℕ) (d : Device) → Kept (jump n) d
unfolding jump_answer
jump_kept n d =
    by_cases (sound_device d)
    (λ e. doing (rw (tells d e)) (rw e) (rw e (jump_told (is_sound e) n)) (rw e))
    (λ e. refusing 1 (λ z. omega (arith, z)) (rw (tells d e)) (rw e))

-- ---- queries

answered : (q : Query) {d : Device} → Sound d → value_of q d ≡ asked q (told_of d)
answered Asked.state s = ap (λ (t : Told). pos t.state) (sym (sound_told s))
answered Asked.status s = ap pos (sym (statuses s))
answered Asked.error s = ap (λ (t : Told). pos t.error) (sym (sound_told s))
answered Asked.position s = ap (λ (t : Told). t.position) (sym (sound_told s))
answered Asked.target s = sym (targets s)
answered Asked.command s = sym (commands s)
answered Asked.ticks_to_go s = ap pos (sym (counts s))

query_kept : (q : Query) (d : Device) → Kept (query q) d
unfolding query_answer
query_kept q d =
    by_cases (sound_device d)
    (λ e. doing (rw (tells d e)) (rw e) refl (rw (e, answered q (is_sound e))))
    (λ e. refusing 1 (λ z. omega (arith, z)) (rw (tells d e)) (rw e))

-- ---- process data

receive_kept : (pdo : List ℕ) (d : Device) → Kept (receive pdo) d
unfolding receive_answer
receive_kept pdo d =
    by_cases (sound_device d)
    (λ e.
    let s = is_sound e in
    let long : map_length d.maps.receive ≡ 2 * mapped (told_of d) 0x1600 0 = receive_length s ∙ ap (λ (n : ℕ). 2 * n) (sym (receive_map_told s).count) in
    by_cases (length pdo below 2 * mapped (told_of d) 0x1600 0)
    (λ f. refusing 14 (λ z. omega (arith, z)) (rw (tells d e, f)) (rw (e, long, f)))
    (λ f. doing (rw (tells d e, f)) (rw (e, long, f)) (rw (e, long, f) (received_told s pdo)) (rw (e, long, f))))
    (λ e. refusing 1 (λ z. omega (arith, z)) (rw (tells d e)) (rw e))

send_kept : (room : List ℕ) (d : Device) → Kept (send room) d
unfolding send_answer send_room
send_kept room d =
    by_cases (sound_device d)
    (λ e.
    let s = is_sound e in
    let long : map_length d.maps.transmit ≡ 2 * mapped (told_of d) 0x1A00 0 = transmit_length s ∙ ap (λ (n : ℕ). 2 * n) (sym (transmit_map_told s).count) in
    by_cases (length room below 2 * mapped (told_of d) 0x1A00 0)
    (λ f. refusing 3 (λ z. omega (arith, z)) (rw (tells d e, f)) (rw (e, long, f)))
    (λ f. doing (rw (tells d e, f)) (rw (e, long, f)) refl (rw (e, long, f, sent_told s room))))
    (λ e. refusing 1 (λ z. omega (arith, z)) (rw (tells d e)) (rw e))

-- ---- the image

store_kept : (room : List ℕ) (d : Device) → Kept (store room) d
unfolding store_answer store_room stored_in
store_kept room d =
    by_cases (sound_device d)
    (λ e. by_cases (length room below 97)
    (λ f. refusing 6 (λ z. omega (arith, z)) (rw (tells d e, f)) (rw (e, f)))
    (λ f. doing (rw (tells d e, f)) (rw (e, f)) refl (rw (e, f, store_told (is_sound e)))))
    (λ e. refusing 1 (λ z. omega (arith, z)) (rw (tells d e)) (rw e))

load_kept : (bytes : List ℕ) (d : Device) → Kept (load bytes) d
unfolding load_answer
load_kept bytes d =
    by_cases (sound_device d)
    (λ e.
    let s = is_sound e in
    let now : (told_of d).state ≡ d.state = ap (λ (t : Told). t.state) (sound_told s) in
    by_cases (d.state is 0)
    (λ f. by_cases (full bytes)
    (λ g. by_cases (fits bytes (told_of d))
    (λ h. doing (rw (tells d e, h, now, f, g)) (rw (e, f, full_is bytes, g, fits_is s bytes, h)) (rw (e, f, full_is bytes, g, fits_is s bytes, h) (load_told s bytes))
    (rw (e, f, full_is bytes, g, fits_is s bytes, h)))
    (λ h. refusing 8 (λ z. omega (arith, z)) (rw (tells d e, h, now, f, g)) (rw (e, f, full_is bytes, g, fits_is s bytes, h))))
    (λ g. refusing 7 (λ z. omega (arith, z)) (rw (tells d e, now, f, g)) (rw (e, f, full_is bytes, g))))
    (λ f. refusing 9 (λ z. omega (arith, z)) (rw (tells d e, now, f)) (rw (e, f))))
    (λ e. refusing 1 (λ z. omega (arith, z)) (rw (tells d e)) (rw e))

search_kept : (bytes : List ℕ) (tag : ℕ) (d : Device) → Kept (search bytes tag) d
search_kept bytes tag d = met (walk bytes tag) (search_told bytes tag) refl
  where
    met : (w : Found) → found (code_of w) (begin_of w) (part_of bytes w) ≡ Image.search bytes tag → walk bytes tag ≡ w → Kept (search bytes tag) d
    met (Ok part) e f = doing (rw (← e)) (rw f) refl (rw (f, ← e))
    met (Err Cut) e f = refusing 7 (λ z. omega (arith, z)) (rw (← e)) (rw f)
    met (Err Ended) e f = refusing 10 (λ z. omega (arith, z)) (rw (← e)) (rw f)

-- ---- every call

kept : (c : Call) (d : Device) → Kept c d
kept fresh d = doing refl refl fresh_told_lem refl
kept (sdo request room) d = sdo_kept request room d
kept (control word) d = control_kept word d
kept (fault code) d = fault_kept code d
kept tick d = tick_kept d
kept (jump n) d = jump_kept n d
kept (query q) d = query_kept q d
kept (receive pdo) d = receive_kept pdo d
kept (send room) d = send_kept room d
kept (store room) d = store_kept room d
kept (load bytes) d = load_kept bytes d
kept (search bytes tag) d = search_kept bytes tag d

number_kept : {c : Call} {d : Device} → Kept c d → (answer_of c d).reply.number ≡ first (refusals c (told_of d))
number_kept (refusing n z f e) = ap (λ (a : Answer Device). a.reply.number) e ∙ sym f
number_kept (doing f z s r) = z ∙ sym f

refused_kept :
    {c : Call} {d : Device} → Kept c d → (answer_of c d).reply.number ≢ 0 →
    ((answer_of c d).state ≡ d) × ((answer_of c d).reply ≡ replied (answer_of c d).reply.number (lent c) (pos 0))
refused_kept {c} {d} (refusing n z f e) k = (ap (λ (a : Answer Device). a.state) e, rw e)
refused_kept (doing f z s r) k = absurd (k z)

done_kept :
    {c : Call} {d : Device} → Kept c d → (answer_of c d).reply.number ≡ 0 →
    (told_of (answer_of c d).state ≡ (does c (told_of d)).state) × ((answer_of c d).reply ≡ (does c (told_of d)).reply)
done_kept (refusing n z f e) k = absurd (z (sym (ap (λ (a : Answer Device). a.reply.number) e) ∙ k))
done_kept (doing f z s r) k = (s, r)

pub keeps : Promises rainsheave
keeps =
    record {
      fresh = fresh_told_lem;
      number = λ c d. number_kept (kept c d);
      refused = λ c d k. refused_kept (kept c d) k;
      done = λ c d k. done_kept (kept c d) k;
    }
