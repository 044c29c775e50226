-- What the calls promise together: a refusal leaves everything as it was, a sound device stays sound, and `control` is an SDO write of 6040h.
use Rattle.std.specs.Prelude.{Ok}
use mathlib.Core.Bool.{not}
use mathlib.Core.List.{List}
use mathlib.Core.Logic.{◌≢◌}
use mathlib.Core.Path.{◌≡◌, refl}
use Prim.Native.Nat.{ℕ, ◌<◌, ◌%◌}
use native.Mathlib.Omega.{arith}
use borrow.Author.Tests.{eqb-true, eqb-false, not-false}
use lib.Dec.{eqb, ltb}
use lib.IntN.{pos}
use lib.ListN.{length}
use Rattle.integers.proofs.Linear.{ints}
use Rattle.integers.proofs.Cases.{by_cases, by_test}
use Rattle.objects.specs.Places.{CONTROL_WORD, POSITION}
use Rattle.objects.specs.Table.{objects, is_signed}
use Rattle.objects.specs.Lookup.{block_number, place_from, place_of, entry_at}
use Rattle.coding.specs.Bytes.{byte_at}
use Rattle.coding.specs.Coding.{span, in_span, value_of}
use Rattle.mapping.specs.Maps.{counted, map_length}
use Rattle.device.specs.Events.{controlled}
use Rattle.device.specs.Sound.{sound_device, Sound}
use Rattle.device.specs.declared.Device.{Device}
use Rattle.device.specs.declared.refusal.Refusal.{Refusal}
use Rattle.device.specs.declared.refusal.Refusal.TheVariants.{Unsound, WrongLength, NoRoom, NoReplyDue}
use Rattle.device.proofs.Laws as Devices
use Rattle.device.proofs.Refusals.{ListedRefusal}
use Rattle.dictionary.specs.Named.{named}
use Rattle.dictionary.specs.Values.{written_to}
use Rattle.dictionary.specs.Decide.{crosses, is_locked, map_ruling, verdict_on, write_of, write_decision}
use Rattle.dictionary.specs.declared.Decision.TheVariants.{Write}
use Rattle.dictionary.proofs.Laws.{is_accepted}
use Rattle.sdo.specs.Frames.{FRAME, asks_of, replied_in, request_of}
use Rattle.sdo.specs.Serve.{answer, decision_on, served}
use Rattle.sdo.specs.declared.Request.{Request}
use Rattle.sdo.specs.declared.Outcome.TheVariants.{Written, Refused}
use Rattle.sdo.specs.declared.Answer.{Answer}
use Rattle.sdo.proofs.Promises.{not_written_unchanged, served_sound}
use Rattle.pdo.proofs.Laws.{received_sound}
use Rattle.rainsheave.specs.Calls.{is_client_abort, sdo_answer, sdo_room, number_of_report, changed, control_answer, fault_answer, tick_answer, jump_answer, receive_answer}
use Rattle.rainsheave.specs.declared.Change.{Change}

-- ---- a refusal leaves everything as it was

-- what holds of a refusal of the paper's, which hands the device back, and of what is served, to eight bytes, holds of the answer
pub by_sdo : (P : Answer → Type 0) (d : Device) (request : List ℕ) (room : ℕ) → ((refusal : ListedRefusal) → P (answer (Refused refusal.0) d)) → (length request ≡ FRAME → P (served d (request_of request))) → P (sdo_answer d request room)
unfolding sdo_answer
by_sdo P d request room refused done =
    by_test P (not (sound_device d)) (λ e. refused (Unsound, refl))
    (λ e. by_test P (not (eqb (length request) FRAME)) (λ f. refused (WrongLength, refl))
    (λ f. by_test P (ltb room FRAME) (λ g. refused (NoRoom, refl))
    (λ g. by_test P (is_client_abort (byte_at request 0)) (λ i. refused (NoReplyDue, refl)) (λ i. done (eqb-true _ _ (not-false _ f))))))

-- whatever is answered but a write done, the device is the given one
pub sdo_unchanged : (d : Device) (request : List ℕ) (room : ℕ) → (sdo_answer d request room).outcome ≢ Written → (sdo_answer d request room).device ≡ d
sdo_unchanged d request room = by_sdo (λ a. a.outcome ≢ Written → a.device ≡ d) d request room (λ refusal h. refl) (λ l. not_written_unchanged d (request_of request))

-- and a refusal writes nothing
pub refusal_writes_nothing : (d : Device) (request before : List ℕ) (refusal : Refusal) → (sdo_answer d request (length before)).outcome ≡ Refused refusal → sdo_room d request before ≡ before
unfolding sdo_room replied_in
refusal_writes_nothing d request before refusal e = rw e

-- a call that changes the device does so where its number is 0 alone
pub refused_unchanged : (d : Device) (c : Change) → (number_of_report c.report ≢ 0 → c.device ≡ d) → number_of_report (changed d c).report ≢ 0 → (changed d c).device ≡ d
refused_unchanged d c = by_cases (sound_device d) (λ e f. rw e f) (λ e f. rw e (λ h. refl))

-- ---- a sound device stays sound

pub sdo_sound : {d : Device} → Sound d → (request : List ℕ) (room : ℕ) → Sound (sdo_answer d request room).device
sdo_sound {d} s request room = by_sdo (λ a. Sound a.device) d request room (λ refusal. s) (λ l. served_sound s (request_of request))

changed_sound : {d : Device} (c : Change) → Sound d → Sound c.device → Sound (changed d c).device
changed_sound c s h = rw s.sound h

pub control_sound : {d : Device} → Sound d → (word : ℕ) → Sound (control_answer d word).device
unfolding control_answer
control_sound s word = changed_sound _ s (Devices.controlled_sound s word)

pub fault_sound : {d : Device} → Sound d → (code : ℕ) → Sound (fault_answer d code).device
unfolding fault_answer
fault_sound {d} s code = changed_sound _ s (by_test (λ (c : Change). Sound c.device) (eqb code 0) (λ e. s) (λ e. Devices.faulted_sound s code (eqb-false code 0 e)))

pub tick_sound : {d : Device} → Sound d → Sound (tick_answer d).device
unfolding tick_answer
tick_sound s = changed_sound _ s (Devices.tick_sound s)

pub jump_sound : {d : Device} → Sound d → (n : ℕ) → Sound (jump_answer d n).device
unfolding jump_answer
jump_sound s n = changed_sound _ s (Devices.jump_sound s n)

pub receive_sound : {d : Device} → Sound d → (pdo : List ℕ) → Sound (receive_answer d pdo).device
unfolding receive_answer
receive_sound {d} s pdo = changed_sound _ s (by_test (λ (c : Change). Sound c.device) (ltb (length pdo) (map_length d.maps.receive)) (λ e. s) (λ e. received_sound (counted d.maps.receive) pdo s))

-- ---- `control` is an accepted write of 6040h

-- the request that writes a control word
abbrev pub writing : ℕ → Request
writing word = record { command = 0x2B; sub = 0; index = 0x6040; number = word }

-- a control word may be written in every state
word_accepted : (d : Device) (word : ℕ) → word < 65536 → verdict_on d POSITION CONTROL_WORD 2 (pos word) ≡ Ok (Write POSITION CONTROL_WORD (pos word))
unfolding objects crosses is_locked map_ruling
word_accepted d word h =
    is_accepted {d = d} {which = POSITION} {place = CONTROL_WORD} {size = 2} {x = pos word} (record { writable = refl; sized = refl; range = omega (arith, ints); uncrossed = refl; unlocked = refl; unruled = refl })

pub control_is_a_write : (d : Device) (word : ℕ) → word < 65536 → served d (writing word) ≡ answer Written (controlled word d)
unfolding served decision_on asks_of write_decision named block_number place_of place_from entry_at objects write_of is_signed value_of span in_span written_to
control_is_a_write d word h =
    let low : word % 65536 ≡ word = omega arith in
    rw (low, word_accepted d word h)
