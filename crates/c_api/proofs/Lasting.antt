-- A call on words that hold a sound device leaves words that hold a sound device, the one of the library's answer: control word and error code stay within two bytes.
use Rattle.std.specs.Prelude.{Result, Ok, Err}
use mathlib.Core.Bool.{true}
use mathlib.Core.List.{List}
use mathlib.Core.Path.{◌≡◌, ◌∙◌}
use Prim.Native.Nat.{ℕ, zero, suc, ◌≤◌}
use native.Mathlib.Numerals.{add-one}
use native.Mathlib.Omega.{arith}
use lib.Dec.{ltb}
use lib.IntN.{ℤ, nat_abs}
use lib.ListN.{length, take, drop}
use Rattle.integers.specs.Words.{◌is◌, ◌among◌}
use Rattle.integers.proofs.Cases.{by_test}
use Rattle.block.specs.declared.Block.{Block}
use Rattle.mapping.specs.Maps.{RECEIVABLE, entry_of, length_of, map_length}
use Rattle.mapping.proofs.Sound.{one_of_three, counted_mapped}
use Rattle.device.specs.States.{FAULT, driven}
use Rattle.device.specs.Device.{fresh_device, with_block_of}
use Rattle.device.specs.Events.{error_in, entering, controlled, reported, faulted, tick_device, jump_device}
use Rattle.device.specs.Sound.{sound_device, Sound}
use Rattle.device.specs.declared.Device.{Device}
use Rattle.device.proofs.Laws.{fresh_sound, receive_parts, with_block_of_beside, selecting_beside}
use Rattle.dictionary.specs.Asked.{Writing}
use Rattle.dictionary.specs.Decide.{carried_out}
use Rattle.dictionary.specs.Values.{written_to}
use Rattle.dictionary.specs.Asked as Asked
use Rattle.dictionary.specs.declared.Decision.{Decision}
use Rattle.dictionary.specs.declared.Decision.TheVariants.{Read, Write}
use Rattle.dictionary.specs.declared.Abort.{Abort}
use Rattle.dictionary.proofs.Laws.{control_word}
use Rattle.dictionary.proofs.Written.{to_setting, to_dither, to_receive, to_transmit, to_setpoint, to_selection, to_control, by_target}
use Rattle.sdo.specs.Frames.{request_of}
use Rattle.sdo.specs.Serve.{decision_on, served}
use Rattle.sdo.proofs.Laws.{decided}
use Rattle.pdo.specs.Receive.{acted, received}
use Rattle.pdo.proofs.Laws.{received_more}
use Rattle.pdo.proofs.Objects.{word_acted, set_point_acted, hold_set_point_acted}
use Rattle.rainsheave.specs.Calls.{changed, sdo_answer, control_answer, fault_answer, tick_answer, jump_answer, receive_answer, load_answer}
use Rattle.rainsheave.specs.declared.Change.{Change}
use Rattle.rainsheave.proofs.Promises.{by_sdo, sdo_sound, control_sound, fault_sound, tick_sound, jump_sound, receive_sound}
use Rattle.rainsheave.proofs.Images.{by_load, load_sound}
use Rattle.words.specs.Words.{TWO_BYTES, words_of, device_in, hold_device}
use Rattle.words.specs.Asked.{Held}
use Rattle.words.proofs.Numbers.{as_number, device_numbers}
use Rattle.words.proofs.Back.{device_back}
use Rattle.c_api.specs.Exported.{SdoIs}
use Rattle.c_api.specs.Promised.{HoldSound, Leads, Lasting}

-- control word and error code of two bytes
record Small (d : Device) : Type 0 where
  pub control : d.control ≤ TWO_BYTES
  pub error : d.error ≤ TWO_BYTES

held_small : (words : List ℤ) → hold_device words ≡ true → Small (device_in words)
unfolding device_in
held_small words h = let held : Held words = record { held = h } in let n = device_numbers held in record { control = (as_number n.control).1; error = (as_number n.error).1 }

-- ---- each answer keeps them so

entering_small : (state : ℕ) (d : Device) → Small d → Small (entering state d)
unfolding entering error_in
entering_small state d m = record { control = m.control; error = by_test (λ (n : ℕ). n ≤ TWO_BYTES) (state is FAULT) (λ e. m.error) (λ e. omega arith) }

controlled_small : (word : ℕ) (d : Device) → word ≤ TWO_BYTES → Small d → Small (controlled word d)
unfolding controlled
controlled_small word d h m = record { control = h; error = (entering_small _ d m).error }

faulted_small : (code : ℕ) (d : Device) → code ≤ TWO_BYTES → Small d → Small (faulted code d)
unfolding faulted reported
faulted_small code d h m = entering_small FAULT _ (by_test Small (d.state is FAULT) (λ e. m) (λ e. record { control = m.control; error = h }))

tick_small : (d : Device) → Small d → Small (tick_device d)
unfolding tick_device
tick_small d m = by_test Small (driven d.state) (λ e. record { control = m.control; error = m.error }) (λ e. m)

jump_small : (n : ℕ) (d : Device) → Small d → Small (jump_device n d)
unfolding jump_device
jump_small n d m = by_test Small (driven d.state) (λ e. record { control = m.control; error = m.error }) (λ e. m)

replaced_small : (which : ℕ) (b : Block) (d : Device) → Small d → Small (with_block_of which b d)
replaced_small which b d m = let s = with_block_of_beside which b d in record { control = rw s.control m.control; error = rw s.error m.error }

changed_small : (d : Device) (c : Change) → Small d → Small c.device → Small (changed d c).device
changed_small d c m n = by_test (λ (c : Change). Small c.device) (sound_device d) (λ e. n) (λ e. m)

-- an accepted write
written_small : (which place : ℕ) (x : ℤ) (d : Device) → Writing place x → Small d → Small (written_to which place x d)
written_small which place x d w m =
    by_target place w.writable
    (λ h. rw (to_setting which place x d h) (replaced_small which _ d m))
    (λ h. rw (to_dither which place x d h) (record { control = m.control; error = m.error }))
    (λ h. rw (to_receive which place x d h) (record { control = m.control; error = m.error }))
    (λ h. rw (to_transmit which place x d h) (record { control = m.control; error = m.error }))
    (λ e. rw (to_setpoint which place x d e) (replaced_small which _ d m))
    (λ e. let s = selecting_beside (nat_abs x) d in rw (to_selection which place x d e) (record { control = rw s.control m.control; error = rw s.error m.error }))
    (λ e. rw (to_control which place x d e) (controlled_small (nat_abs x) d (omega (arith, (control_word e w.range).1.fits)) m))

carried_small : (decision : Result Decision Abort) (d : Device) → Asked.Decided decision → Small d → Small (carried_out decision d)
carried_small (Ok (Read size number)) d w m = m
carried_small (Ok (Write which place x)) d w m = written_small which place x d w.writes m
carried_small (Err abort) d w m = m

sdo_small : (d : Device) (request : List ℕ) (room : ℕ) → Small d → Small (sdo_answer d request room).device
unfolding served
sdo_small d request room m =
    by_sdo (λ a. Small a.device) d request room (λ refusal. m) (λ l. carried_small (decision_on d (request_of request)) d (decided d (request_of request)) m)

load_small : (d : Device) (image : List ℕ) → Small d → Small (load_answer d image).device
load_small d image m = by_load (λ c. Small c.device) d image (λ refusal. m) (λ full sound. replaced_small _ _ d m)

-- a received PDO
acted_small : {e : Device} (entry : ℕ) (bytes : List ℕ) → entry among RECEIVABLE ≡ true → Small e → Small (acted entry bytes e)
acted_small {e} entry bytes m s =
    one_of_three 0x60400010 0x63000110 0x63140110 entry m
    (λ h. rw (h, word_acted e bytes) (controlled_small _ e (omega arith) s))
    (λ h. rw (h, set_point_acted e bytes) (replaced_small _ _ e s))
    (λ h. rw (h, hold_set_point_acted e bytes) (replaced_small _ _ e s))

received_small : {d : Device} → Sound d → (bytes : List ℕ) (n : ℕ) → n ≤ d.maps.receive.count → Small d → Small (received (take n d.maps.receive.entries) bytes d)
unfolding received
received_small s bytes zero h m = m
received_small {d} s bytes (suc n) h m =
    let p = receive_parts s in
    rw (← add-one n, received_more d.maps.receive.entries n bytes d (omega (arith, p.long, p.few)))
    (acted_small (entry_of d.maps.receive n) (drop (length_of (take n d.maps.receive.entries)) bytes) (counted_mapped RECEIVABLE p n (omega arith)) (received_small s bytes n (omega arith) m))

-- ---- so the words that are left hold the answer's device

lasts : {after : List ℤ} (e : Device) → after ≡ words_of e → Sound e → Small e → HoldSound after e
lasts e h s m = let b = device_back s m.control m.error in rw h (record { holds = b.0; device = b.1; sound = s })

module _ (answer : Device → Change) where
  leads : ((d : Device) → Sound d → Small d → Sound (answer d).device × Small (answer d).device) → Leads answer
  leads keeps before after r d l c =
      let e = l.device in
      let m = rw e at (held_small before l.holds) in
      let k = keeps d l.sound m in
      lasts (answer d).device (c.words ∙ rw (l.holds, e)) k.0 k.1

sdo_lasts : {request : List ℕ} {before after : List ℤ} {room left : List ℕ} {r : ℕ} (d : Device) → HoldSound before d → SdoIs request before after room left r → HoldSound after (sdo_answer d request (length room)).device
sdo_lasts {request} {before} {room = room} d l c =
    let m = rw l.device at (held_small before l.holds) in
    lasts _ (c.words ∙ rw (l.holds, l.device)) (sdo_sound l.sound request (length room)) (sdo_small d request (length room) m)

fresh_small : Small fresh_device
unfolding fresh_device
fresh_small = record { control = omega arith; error = omega arith }

pub lasting : Lasting
unfolding control_answer fault_answer tick_answer jump_answer receive_answer
lasting =
    record {
      fresh = λ f. lasts fresh_device f.words fresh_sound fresh_small;
      control = λ word h. leads (λ d. control_answer d word) (λ d s m. (control_sound s word, changed_small d _ m (controlled_small word d h m)));
      fault = λ code h. leads (λ d. fault_answer d code) (λ d s m. (fault_sound s code, changed_small d _ m (by_test (λ (c : Change). Small c.device) (code is 0) (λ e. m) (λ e. faulted_small code d h m))));
      tick = leads tick_answer (λ d s m. (tick_sound s, changed_small d _ m (tick_small d m)));
      jump = λ n. leads (λ d. jump_answer d n) (λ d s m. (jump_sound s n, changed_small d _ m (jump_small n d m)));
      receive = λ pdo. leads (λ d. receive_answer d pdo) (λ d s m. (receive_sound s pdo, changed_small d _ m (by_test (λ (c : Change). Small c.device) (ltb (length pdo) (map_length d.maps.receive)) (λ e. m) (λ e. received_small s pdo d.maps.receive.count (omega arith) m))));
      load = λ image. leads (λ d. load_answer d image) (λ d s m. (load_sound s image, load_small d image m));
      sdo = λ d l c. sdo_lasts d l c;
    }
