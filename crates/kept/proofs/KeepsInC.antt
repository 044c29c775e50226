-- C answers of words what the library answers of the device that they hold, and so keeps the library's promises: the words that a refused call
-- leaves are those that came, and those that a call leaves which is done hold the library's device again. Words that hold none are unsound.
use Rattle.std.specs.Prelude.{if◌then◌else◌, Ok, Err}
use mathlib.Core.Bool.{Bool, true, false, not, cond, ◌||◌}
use mathlib.Core.List.{List, [], ◌∷◌}
use mathlib.Core.Path.{◌≡◌, refl, sym, ap, ◌∙◌}
use Prim.Native.Nat.{ℕ, zero, suc, ◌-◌, ◌%◌}
use native.Mathlib.Nat.{mod-eq_of_lt}
use native.Mathlib.Omega.{arith}
use borrow.Author.Tests.{eqb-true}
use lib.IntN.{ℤ, pos}
use lib.ListN.{length, take, drop, length-append, length-map}
use Rattle.integers.specs.Words.{◌below◌}
use Rattle.integers.proofs.Cases.{by_cases, apart}
use Rattle.integers.proofs.Each.{and_split}
use Rattle.block.proofs.Sound.{block_parts}
use Rattle.image.specs.Walk.{Found, walk, part_of, begin_of}
use Rattle.device.specs.Device.{fresh_device, with_state}
use Rattle.device.specs.Sound.{sound_device, Sound}
use Rattle.device.specs.declared.Device.{Device}
use Rattle.device.specs.declared.refusal.Refusal.TheVariants.{Unsound}
use Rattle.device.proofs.Laws.{device_parts, state_below, block_of_sound, other_of_sound, receive_parts, transmit_parts}
use Rattle.sdo.specs.Frames.{number_handed_back, replied_in}
use Rattle.rainsheave.specs.Calls.{number_of_report, bytes_sent, change, sdo_answer, sdo_room, control_answer, fault_answer, tick_answer, jump_answer}
use Rattle.rainsheave.specs.Calls.{query_answer, receive_answer, send_answer, send_room, store_answer, store_room, load_answer}
use Rattle.rainsheave.specs.declared.Change.{Change}
use Rattle.words.specs.Words.{WORDS, words_of, hold_device}
use Rattle.words.proofs.Laws.{held_words}
use Rattle.c_api.specs.Exported.{of_device, ChangeIs, reading_of}
use Rattle.c_api.specs.Promised.{HoldSound, Leads}
use Rattle.c_api.proofs.Lasting.{lasting}
use Rattle.promises.specs.Library.{Call, Answer, first}
use Rattle.promises.specs.Library as Asked
use Rattle.promises.specs.Image.{found}
use Rattle.promises.specs.Promises.{sound, refusals, replied, Promises}
use Rattle.kept.specs.Ours.{answer_of, told_of, value_of, changing}
use Rattle.kept.proofs.Sounded.{told_sound}
use Rattle.kept.proofs.Keeps.{keeps}
use Rattle.kept.specs.OursInC.{holds, device_of, answer_in_c, in_c, Ships, Shipped}

-- ---- the device of words

-- what stands for a device where words hold none
abbrev none : Device
none = with_state 4 fresh_device

-- the words that an answer leaves, by its device
abbrev words_after : List ℤ → Device → List ℤ
words_after words d = if holds words || d.state below 4 then words_of d else words

fresh_words : (words : List ℤ) → words_after words fresh_device ≡ words_of fresh_device
fresh_words words = by_cases (holds words) (λ t. rw t) (λ t. let e : fresh_device.state below 4 ≡ true = unfold fresh_device in refl in rw (t, e))

held_parts : (words : List ℤ) → holds words ≡ true → (length words ≡ WORDS) × (hold_device words ≡ true)
held_parts words t = let h = and_split _ _ t in (eqb-true (length words) WORDS h.0, h.1)

-- a device that is as it was leaves the words as they were
stays : (words : List ℤ) {d : Device} → d ≡ device_of words → words_after words d ≡ words
unfolding device_of
stays words e = by_cases (holds words) (λ t. let h = held_parts words t in rw (e, t) (held_words (record { held = h.1 }) h.0)) (λ t. rw (e, t))

-- the words of a sound device are 56, and it is the device of them
words_long : {d : Device} → Sound d → length (words_of d) ≡ WORDS
unfolding words_of
words_long s =
    let block = (block_parts (block_of_sound s)).settings.long in
    let other = (block_parts (other_of_sound s)).settings.long in
    simp (length-append, length-map) (omega (arith, (receive_parts s).long, (transmit_parts s).long))

device_back : {d : Device} → HoldSound (words_of d) d → device_of (words_of d) ≡ d
unfolding device_of
device_back h = rw (words_long h.sound, h.holds) h.device

fresh_back : device_of (words_of fresh_device) ≡ fresh_device
fresh_back = device_back (lasting.fresh (record { words = refl }))

-- ---- where the device of words is sound, they hold it, and those that a call leaves hold the answer's

module _ (words : List ℤ) (s : Sound (device_of words)) where
  held : holds words ≡ true
  held =
      by_cases (holds words) (λ t. t)
      (λ t.
      let four : (device_of words).state ≡ 4 = unfold device_of in rw t in
      let known = state_below (device_of words).state (device_parts s).known in
      absurd (omega arith))

  held_here : HoldSound words (device_of words)
  held_here = record { holds = (held_parts words held).1; device = unfold device_of in rw held; sound = s }

  words_now : (f : Device → Device) → words_of (f (device_of words)) ≡ of_device words (λ d. words_of (f d)) words
  words_now f = rw (held_here.holds, held_here.device)

  back : {d : Device} → HoldSound (words_of d) d → device_of (words_after words d) ≡ d
  back h = rw held (device_back h)

  changed_back : (f : Device → Change) → Leads f → device_of (words_after words (f (device_of words)).device) ≡ (f (device_of words)).device
  changed_back f leads = back (leads words _ _ (device_of words) held_here (record { number = refl; words = words_now (λ d. (f d).device) }))

  sdo_back : (request room : List ℕ) → let d = (sdo_answer (device_of words) request (length room)).device in device_of (words_after words d) ≡ d
  sdo_back request room =
      let now = words_now (λ d. (sdo_answer d request (length room)).device) in
      back (lasting.sdo {request = request} {room = room} (device_of words) held_here (record { number = refl; words = now; bytes = refl }))

-- ---- the promises

-- with no number handed back, the first refusal, that of an unsound device, does not hold
started : (t : Bool) (later : ℕ) → cond (not t) 1 later ≡ 0 → t ≡ true
started true later e = refl
started false later e = apart (sym e)

module _ (words : List ℤ) where
  begun : (later : ℕ) → cond (not (sound (told_of (device_of words)))) 1 later ≡ 0 → Sound (device_of words)
  begun later z = told_sound (device_of words) (started (sound (told_of (device_of words))) later z)

  kept : (c : Call) → first (refusals c (told_of (device_of words))) ≡ 0 → device_of (answer_in_c c words).state ≡ (answer_of c (device_of words)).state
  kept Asked.fresh z = rw (fresh_words words) fresh_back
  kept (Asked.sdo request room) z = sdo_back words (begun _ z) request room
  kept (Asked.control word) z = changed_back words (begun _ z) (λ d. control_answer d (word % 65536)) (lasting.control (word % 65536) (omega arith))
  kept (Asked.fault code) z = changed_back words (begun _ z) (λ d. fault_answer d (code % 65536)) (lasting.fault (code % 65536) (omega arith))
  kept Asked.tick z = changed_back words (begun _ z) tick_answer lasting.tick
  kept (Asked.jump n) z = changed_back words (begun _ z) (λ d. jump_answer d n) (lasting.jump n)
  kept (Asked.query q) z = ap device_of (stays words refl)
  kept (Asked.receive pdo) z = changed_back words (begun _ z) (λ d. receive_answer d pdo) (lasting.receive pdo)
  kept (Asked.send room) z = ap device_of (stays words refl)
  kept (Asked.store room) z = ap device_of (stays words refl)
  kept (Asked.load image) z = changed_back words (begun _ z) (λ d. load_answer d image) (lasting.load image)
  kept (Asked.search image tag) z = ap device_of (stays words refl)

pub keeps_in_c : Promises in_c
keeps_in_c =
    record {
      fresh = ap told_of fresh_back ∙ keeps.fresh;
      number = λ c words. keeps.number c (device_of words);
      refused = λ c words n. let r = keeps.refused c (device_of words) n in (stays words r.0, r.1);
      done = λ c words z. let r = keeps.done c (device_of words) z in (ap told_of (kept words c (sym (keeps.number c (device_of words)) ∙ z)) ∙ r.0, r.1);
    }

-- ---- the contracts

none_unsound : sound_device none ≡ false
none_unsound =
    by_cases (sound_device none)
    (λ t.
    let s : Sound none = record { sound = t } in
    let known = state_below 4 (device_parts s).known in
    absurd (omega arith))
    (λ t. t)

-- the part that begins there and is so long
take_again : (n : ℕ) (l : List ℕ) → take (length (take n l)) l ≡ take n l
take_again zero l = refl
take_again (suc n) [] = refl
take_again (suc n) (x ∷ l) = ap (λ (m : List ℕ). x ∷ m) (take_again n l)

part_taken : (image : List ℕ) (w : Found) → take (length (part_of image w)) (drop (begin_of w) image) ≡ part_of image w
part_taken image (Ok part) = take_again (part.end - part.start) (drop part.start image)
part_taken image (Err miss) = refl

-- what a contract tells of the device that 56 words hold, and of words that hold none, is so of the device of words
module _ (words : List ℤ) (long : length words ≡ WORDS) where
  tells : {A : Type 0} (f : Device → A) {x y : A} → f none ≡ x → y ≡ of_device words f x → f (device_of words) ≡ y
  unfolding device_of
  tells f e h = by_cases (hold_device words) (λ t. rw (h, long, t)) (λ t. rw (h, long, t) e)

  leaves :
      (f : Device → Device) {after : List ℤ} → f none ≡ none → after ≡ of_device words (λ d. words_of (f d)) words →
      words_after words (f (device_of words)) ≡ after
  unfolding device_of
  leaves f e h = by_cases (hold_device words) (λ t. rw (h, long, t)) (λ t. rw (h, long, t, e))

  abbrev Changed : (Device → Change) → List ℤ → ℕ → Type 0
  Changed f after r =
      let c = f (device_of words) in
      let given : Answer (List ℤ) = record { state = words_after words c.device; reply = (changing c).reply } in
      given ≡ record { state = after; reply = replied r [] (pos 0) }

  changes : (f : Device → Change) → f none ≡ change (Err Unsound) none → (after : List ℤ) (r : ℕ) → ChangeIs f words after r → Changed f after r
  changes f e after r c =
      let number = tells (λ d. number_of_report (f d).report) (ap (λ (x : Change). number_of_report x.report) e) c.number in
      let now = leaves (λ d. (f d).device) (ap (λ (x : Change). x.device) e) c.words in
      λ i. record { state = now i; reply = replied (number i) [] (pos 0) }

  ships : (after : List ℤ) (room left : List ℕ) (r : ℕ) → Ships words after room left r
  unfolding control_answer fault_answer tick_answer jump_answer query_answer receive_answer load_answer
      sdo_answer sdo_room replied_in send_answer send_room store_answer store_room
  ships after room left r =
      record {
        fresh = λ c i. record { state = (fresh_words words ∙ sym c.words) i; reply = replied 0 [] (pos 0) };
        control = λ word h c. rw (mod-eq_of_lt h) (changes (λ d. control_answer d word) (rw none_unsound) after r c);
        fault = λ code h c. rw (mod-eq_of_lt h) (changes (λ d. fault_answer d code) (rw none_unsound) after r c);
        tick = changes tick_answer (rw none_unsound) after r;
        jump = λ n. changes (λ d. jump_answer d n) (rw none_unsound) after r;
        receive = λ pdo. changes (λ d. receive_answer d pdo) (rw none_unsound) after r;
        load = λ image. changes (λ d. load_answer d image) (rw none_unsound) after r;
        sdo = λ request c.
            let number = tells (λ d. number_handed_back (sdo_answer d request (length room)).outcome) (rw none_unsound) c.number in
            let now = leaves (λ d. (sdo_answer d request (length room)).device) (rw none_unsound) c.words in
            let bytes = tells (λ d. sdo_room d request room) (rw none_unsound) c.bytes in
            λ i. record { state = now i; reply = replied (number i) (bytes i) (pos 0) };
        query = λ q value c.
            let told = tells (λ d. reading_of (query_answer d (value_of q d))) (rw none_unsound) c.result in
            λ i. record { state = stays words refl i; reply = replied (told i).number [] (told i).value };
        send = λ size c.
            let number = tells (λ d. number_of_report (send_answer d (length room))) (rw none_unsound) c.number in
            let sent = tells (λ d. bytes_sent (send_answer d (length room))) (rw none_unsound) c.sent in
            let bytes = tells (λ d. send_room d room) (rw none_unsound) c.bytes in
            λ i. record { state = stays words refl i; reply = replied (number i) (bytes i) (pos (sent i)) };
        store = λ c.
            let number = tells (λ d. number_of_report (store_answer d (length room))) (rw none_unsound) c.number in
            let bytes = tells (λ d. store_room d room) (rw none_unsound) c.bytes in
            λ i. record { state = stays words refl i; reply = replied (number i) (bytes i) (pos 0) };
        find = λ image tag begin size c.
            let part : part_of image (walk image tag) ≡ take size (drop begin image) = rw (c.long, c.begin) (sym (part_taken image (walk image tag))) in
            λ i. record { state = stays words refl i; reply = found (sym c.number i) (sym c.begin i) (part i) };
        code = λ image tag c. sym c.result;
      }

pub shipped : Shipped
shipped words after room left r long = ships words long after room left r
