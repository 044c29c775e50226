-- An accepted write: the object has the value, every other object that can be written keeps its own, and a sound device stays sound.
use mathlib.Core.Bool.{true, false}
use mathlib.Core.List.{List}
use mathlib.Core.Logic.{◌≢◌}
use mathlib.Core.Path.{◌≡◌, refl, sym, ap, ◌∙◌}
use Prim.Native.Nat.{ℕ, ◌-◌, ◌≤◌, ◌<◌}
use native.Mathlib.Omega.{arith}
use borrow.Author.Tests.{lt-ltb, le-ltb, eqb-true, eqb-false, eq-eqb, ne_eqb, not-false}
use lib.Dec.{eqb}
use lib.IntN.{ℤ, pos, nat_abs}
use lib.ListN.{length, set, length-set}
use lib.Seq.{get_or-set_same, get_or-set_other}
use lib.Signed.{lt_z, ◌≤ℤ◌, pos-nat_abs, yes_non_neg}
use Rattle.integers.proofs.Linear.{ints}
use Rattle.integers.proofs.Cases.{by_cases, by_less, clash}
use Rattle.objects.specs.Places.{SETTINGS, DITHER_TYPE, RECEIVE_MAP, TRANSMIT_MAP, SET_POINT, SELECTION, CONTROL_WORD, COMMAND, UPPER_LIMIT, LOWER_LIMIT, WRITABLE, ROWS, POSITION, PRESSURE}
use Rattle.objects.specs.Table.{objects, row_at, InRange}
use Rattle.objects.specs.Lookup.{is_of_block, Object}
use Rattle.objects.proofs.Rules.{receive_map, transmit_map}
use Rattle.block.specs.Block.{at, setting, with_setting, with_setpoint}
use Rattle.block.specs.declared.Block.{Block}
use Rattle.block.proofs.Sound.{SettingsParts, block_parts, with_settings_sound, with_setpoint_sound}
use Rattle.mapping.specs.Maps.{stands_at}
use Rattle.mapping.specs.declared.Maps.{Maps}
use Rattle.mapping.proofs.Laws.{at_written, at_others}
use Rattle.mapping.proofs.Sound.{receive_kept, transmit_kept}
use Rattle.dither.specs.Dither as Dithers
use Rattle.dither.specs.declared.Dither.{Dither}
use Rattle.dither.proofs.Laws as DitherLaws
use Rattle.device.specs.States.{DISABLED, driven}
use Rattle.device.specs.Device.{with_dither, block_of, with_block_of, selecting}
use Rattle.device.specs.Events.{controlled}
use Rattle.device.specs.Queries.{block_command}
use Rattle.device.specs.Sound.{Sound}
use Rattle.device.specs.declared.Device.{Device}
use Rattle.device.proofs.Laws.{Beside, receive_parts, transmit_parts, dither_of_sound, maps_of_sound, selected_most, block_of_same, block_of_other, block_of_position, block_of_sound_device, with_block_of_beside, with_block_of_selected, with_block_of_sound, block_command_beside}
use Rattle.device.proofs.Laws.{selected_is, selecting_keeps, selecting_beside, selecting_position, selecting_sound, with_maps_sound, with_dither_sound, phase_rests, controlled_sound}
use Rattle.device.proofs.Kept.{same_block, controlled_keeps}
use Rattle.dictionary.specs.Named.{value}
use Rattle.dictionary.specs.Values.{value_at, receive_written, transmit_written, written_to}
use Rattle.dictionary.specs.Decide.{crosses, is_locked}
use Rattle.dictionary.specs.Accept.{Accept}
use Rattle.dictionary.proofs.Laws.{block_number_lem}
use Rattle.dictionary.proofs.Maps.{OfDither, OfReceive, OfTransmit, past_settings, past_receive, one_of_three, value_apart, dither_place, sub_most, sub_apart, from_zero, value_of_dither, value_of_receive, value_of_transmit, receive_ruled, transmit_ruled}

-- ---- where a write goes

module _ (which place : ℕ) (x : ℤ) (d : Device) where
  pub to_setting : place < SETTINGS → written_to which place x d ≡ with_block_of which (with_setting place x (block_of which d)) d
  unfolding written_to
  to_setting h = rw (lt-ltb place SETTINGS h)

  pub to_dither : OfDither place → written_to which place x d ≡ with_dither (Dithers.with_at (place - DITHER_TYPE) x d.dither) d
  unfolding written_to
  to_dither m = rw (le-ltb place SETTINGS m.0, lt-ltb place RECEIVE_MAP m.1)

  pub to_receive : OfReceive place → written_to which place x d ≡ receive_written (place - RECEIVE_MAP) (nat_abs x) d
  unfolding written_to
  to_receive m = rw (past_settings m.0, le-ltb place RECEIVE_MAP m.0, lt-ltb place TRANSMIT_MAP m.1)

  pub to_transmit : OfTransmit place → written_to which place x d ≡ transmit_written (place - TRANSMIT_MAP) (nat_abs x) d
  unfolding written_to
  to_transmit m = rw (past_settings (past_receive m), le-ltb place RECEIVE_MAP (past_receive m), le-ltb place TRANSMIT_MAP m.0, lt-ltb place SET_POINT m.1)

  pub to_setpoint : place ≡ SET_POINT → written_to which place x d ≡ with_block_of which (with_setpoint x (block_of which d)) d
  unfolding written_to
  to_setpoint e = rw e

  pub to_selection : place ≡ SELECTION → written_to which place x d ≡ selecting (nat_abs x) d
  unfolding written_to
  to_selection e = rw e

  pub to_control : place ≡ CONTROL_WORD → written_to which place x d ≡ controlled (nat_abs x) d
  unfolding written_to
  to_control e = rw e

-- what can be written is a setting, of the dither, of a map, the set point, the selection or the control word
pub by_target {ℓ} : (place : ℕ) {X : Type ℓ} → place < WRITABLE → (place < SETTINGS → X) → (OfDither place → X) → (OfReceive place → X) → (OfTransmit place → X) → (place ≡ SET_POINT → X) → (place ≡ SELECTION → X) → (place ≡ CONTROL_WORD → X) → X
by_target place h f d r t g s k =
    by_less place SETTINGS f
    (λ l. by_less place RECEIVE_MAP (λ m. d (l, m))
    (λ l. by_less place TRANSMIT_MAP (λ m. r (l, m))
    (λ l. by_less place SET_POINT (λ m. t (l, m))
    (λ l. by_cases (eqb place SET_POINT) (λ e. g (eqb-true place SET_POINT e))
    (λ e. by_cases (eqb place SELECTION) (λ q. s (eqb-true place SELECTION q)) (λ q. k (omega (arith, eqb-false place SET_POINT e, eqb-false place SELECTION q))))))))

-- ---- what is read where

pub value_of_setting : (d : Device) (which k : ℕ) → k < SETTINGS → value_at d which k ≡ setting (block_of which d) k
unfolding value_at
value_of_setting d which k h = rw (lt-ltb k SETTINGS h)

-- ---- the object has the value

-- what is not below zero is the number that it is written as
pub written_number : {x : ℤ} → pos 0 ≤ℤ x → pos (nat_abs x) ≡ x
written_number {x} h = pos-nat_abs x (yes_non_neg h)

-- a row from 0 up has no value below zero
from_zero_of : (place : ℕ) {x : ℤ} → (row_at place).low ≡ pos 0 → InRange place x → pos 0 ≤ℤ x
from_zero_of place l w = rw l at w.from

pub written_is_read : {d : Device} → Sound d → (which place : ℕ) (x : ℤ) → place < WRITABLE → InRange place x → value_at (written_to which place x d) which place ≡ x
written_is_read {d} s which place x h w =
    by_target place h
    (λ l. let long : length (block_of which d).settings ≡ SETTINGS = (block_parts (block_of_sound_device s which)).settings.long in
    rw (to_setting which place x d l, value_of_setting _ which place l, block_of_same) (get_or-set_same (block_of which d).settings place x (pos 0) (omega arith)))
    (λ m. rw (to_dither which place x d m, value_of_dither _ which place m) (DitherLaws.at_written (place - DITHER_TYPE) x d.dither))
    (λ m. rw (to_receive which place x d m, value_of_receive _ which place m, at_written (place - RECEIVE_MAP) (nat_abs x) d.maps.receive (rw (receive_parts s).long (sub_most m)))
    (written_number (from_zero receive_map m w)))
    (λ m. rw (to_transmit which place x d m, value_of_transmit _ which place m, at_written (place - TRANSMIT_MAP) (nat_abs x) d.maps.transmit (rw (transmit_parts s).long (sub_most m)))
    (written_number (from_zero transmit_map m w)))
    (λ e. rw (to_setpoint which place x d e) (unfold value_at in rw (e, block_of_same)))
    (λ e. rw (to_selection which place x d e) (unfold value_at in rw (e, selected_is) (written_number (unfold objects in from_zero_of place (rw e) w))))
    (λ e. rw (to_control which place x d e) (unfold value_at controlled in rw e (written_number (unfold objects in from_zero_of place (rw e) w))))

-- ---- every other object that can be written keeps its value

-- of two devices the same is read of a block at k, where what stands behind it is the same
record Same (d e : Device) (v k : ℕ) : Type 0 where
  settings : k < SETTINGS → setting (block_of v d) k ≡ setting (block_of v e) k
  setpoint : k ≡ SET_POINT → (block_of v d).setpoint ≡ (block_of v e).setpoint
  dither : OfDither k → Dithers.stands_at d.dither (k - DITHER_TYPE) ≡ Dithers.stands_at e.dither (k - DITHER_TYPE)
  receive : OfReceive k → stands_at d.maps.receive (k - RECEIVE_MAP) ≡ stands_at e.maps.receive (k - RECEIVE_MAP)
  transmit : OfTransmit k → stands_at d.maps.transmit (k - TRANSMIT_MAP) ≡ stands_at e.maps.transmit (k - TRANSMIT_MAP)
  selection : k ≡ SELECTION → d.selected ≡ e.selected
  control : k ≡ CONTROL_WORD → d.control ≡ e.control

same_value : (d e : Device) (v k : ℕ) → k < WRITABLE → Same d e v k → value_at d v k ≡ value_at e v k
same_value d e v k m s =
    by_target k m
    (λ l. rw (value_of_setting d v k l, value_of_setting e v k l) (s.settings l))
    (λ q. rw (value_of_dither d v k q, value_of_dither e v k q) (s.dither q))
    (λ r. rw (value_of_receive d v k r, value_of_receive e v k r) (ap pos (s.receive r)))
    (λ t. rw (value_of_transmit d v k t, value_of_transmit e v k t) (ap pos (s.transmit t)))
    (λ q. unfold value_at in rw q (s.setpoint q))
    (λ q. unfold value_at in rw q (ap pos (s.selection q)))
    (λ q. unfold value_at in rw q (ap pos (s.control q)))

-- what is behind them is the same beside the blocks
same_beside : {d e : Device} {v k : ℕ} → Beside d e → (k < SETTINGS → setting (block_of v d) k ≡ setting (block_of v e) k) → (k ≡ SET_POINT → (block_of v d).setpoint ≡ (block_of v e).setpoint) → (k ≡ SELECTION → d.selected ≡ e.selected) → Same d e v k
same_beside b settings setpoint selection =
    record { settings = settings; setpoint = setpoint; dither = λ q. rw b.dither; receive = λ q. rw b.maps; transmit = λ q. rw b.maps; selection = selection; control = λ q. b.control }

-- another block of a number is put in place: what is read of the blocks is the same where it is the same of that block, and of the other one in any case
module _ {d : Device} (s : Sound d) (which : ℕ) (b : Block) (v k : ℕ) (w : which ≤ PRESSURE) (o : v ≤ PRESSURE) where
  one_block : (v ≡ which → k < SETTINGS → setting b k ≡ setting (block_of which d) k) → (v ≡ which → k ≡ SET_POINT → b.setpoint ≡ (block_of which d).setpoint) → Same (with_block_of which b d) d v k
  one_block settings setpoint =
      same_beside (with_block_of_beside which b d)
      (λ l. by_cases (eqb v which)
      (λ e. let q = eqb-true v which e in rw (q, block_of_same) (settings q l))
      (λ e. rw (block_of_other d b which v (eqb-false v which e) (selected_most s) o w)))
      (λ l. by_cases (eqb v which)
      (λ e. let q = eqb-true v which e in rw (q, block_of_same) (setpoint q l))
      (λ e. rw (block_of_other d b which v (eqb-false v which e) (selected_most s) o w)))
      (λ l. with_block_of_selected which b d)

-- what a block does not have is of no block, so that its place tells it apart
single_apart : {which place v k : ℕ} → Object which place → Object v k → is_of_block place ≡ false → value v k ≢ value which place → k ≢ place
single_apart {which} {place} {v} {k} o q f n e = n (rw (e, first o, first (rw e at q)))
  where
    first : {u : ℕ} → Object u place → u ≡ POSITION
    first {u} r = let not_own : u ≢ PRESSURE = λ p. clash (r.own p) f in omega (arith, r.block)

pub others_are_kept : {d : Device} → Sound d → (which place v k : ℕ) (x : ℤ) → Object which place → Object v k → place < WRITABLE → k < WRITABLE → value v k ≢ value which place → (place ≡ SELECTION → InRange place x) → value_at (written_to which place x d) v k ≡ value_at d v k
others_are_kept {d} s which place v k x o q h m n w =
    by_target place h
    (λ l. rw (to_setting which place x d l) (same_value _ d v k m
    (one_block s which _ v k o.block q.block (λ e l. get_or-set_other (block_of which d).settings place k x (pos 0) (λ f. n (rw (e, f)))) (λ e l. refl))))
    (λ t. let p = apart_of (past_of t.0 (omega (arith, t.1))) in rw (to_dither which place x d t) (same_value _ d v k m
    (record { settings = λ q. unfold block_of in refl; setpoint = λ q. unfold block_of in refl; dither = λ q. DitherLaws.at_others (place - DITHER_TYPE) (k - DITHER_TYPE) x d.dither (one_of_three t) (one_of_three q) (λ e. p (value_apart t q e)); receive = λ q. refl; transmit = λ q. refl; selection = λ q. refl; control = λ q. refl })))
    (λ t. let p = apart_of (past_of (omega (arith, t.0)) (omega (arith, t.1))) in rw (to_receive which place x d t) (same_value _ d v k m
    (record { settings = λ q. unfold block_of in refl; setpoint = λ q. unfold block_of in refl; dither = λ q. refl; receive = λ q. at_others (place - RECEIVE_MAP) (k - RECEIVE_MAP) (nat_abs x) d.maps.receive (λ e. p (sub_apart t q e)); transmit = λ q. refl; selection = λ q. refl; control = λ q. refl })))
    (λ t. let p = apart_of (past_of (omega (arith, t.0)) (omega (arith, t.1))) in rw (to_transmit which place x d t) (same_value _ d v k m
    (record { settings = λ q. unfold block_of in refl; setpoint = λ q. unfold block_of in refl; dither = λ q. refl; receive = λ q. refl; transmit = λ q. at_others (place - TRANSMIT_MAP) (k - TRANSMIT_MAP) (nat_abs x) d.maps.transmit (λ e. p (sub_apart t q e)); selection = λ q. refl; control = λ q. refl })))
    (λ e. rw (to_setpoint which place x d e) (same_value _ d v k m
    (one_block s which _ v k o.block q.block (λ e l. refl) (λ f g. absurd (n (rw (f, g, e)))))))
    (λ e. let keeps = selecting_keeps d (nat_abs x) (selected_most s) (block_number_lem e (w e)).1 v q.block in
    rw (to_selection which place x d e) (same_value _ d v k m
    (same_beside (selecting_beside (nat_abs x) d) (λ l. rw keeps) (λ l. rw keeps) (λ l. absurd (apart_of (unfold is_of_block in rw e) (l ∙ sym e))))))
    (λ e. let same = controlled_keeps (nat_abs x) d in
    let blocks = same_block same v in
    rw (to_control which place x d e)
    (same_value (controlled (nat_abs x) d) d v k m
    (record {
      settings = λ l. ap (λ (l : List ℤ). at l k) blocks.0;
      setpoint = λ l. blocks.1;
      dither = λ l. unfold Dithers.stands_at in ap (λ (h : Dither). Dithers.stands_at h (k - DITHER_TYPE)) same.dither;
      receive = λ l. ap (λ (l : Maps). stands_at l.receive (k - RECEIVE_MAP)) same.maps;
      transmit = λ l. ap (λ (l : Maps). stands_at l.transmit (k - TRANSMIT_MAP)) same.maps;
      selection = λ l. same.selected;
      control = λ l. absurd (apart_of (unfold is_of_block in rw e) (l ∙ sym e));
    })))
  where
    past_of : SETTINGS ≤ place → place < SET_POINT → is_of_block place ≡ false
    past_of l m = unfold is_of_block in rw (le-ltb place SETTINGS l, ne_eqb place SET_POINT (omega arith), ne_eqb place COMMAND (omega arith))

    apart_of : is_of_block place ≡ false → k ≢ place
    apart_of f = single_apart o q f n

-- a write to an object of a block puts another block in its place, and leaves the other one
module _ (d : Device) (which place : ℕ) (x : ℤ) (h : place < WRITABLE) (own : is_of_block place ≡ true) where
  pub by_own_write : (P : Device → Type 0) → ((b : Block) → P (with_block_of which b d)) → P (written_to which place x d)
  by_own_write P f =
      by_less place SETTINGS (λ l. rw (to_setting which place x d l) (f _))
      (λ l. by_cases (eqb place SET_POINT) (λ e. rw (to_setpoint which place x d (eqb-true place SET_POINT e)) (f _))
      (λ e. clash own (unfold is_of_block in rw (le-ltb place SETTINGS l, e, ne_eqb place COMMAND (omega arith)))))

  pub block_kept : which ≢ d.selected → (written_to which place x d).block ≡ d.block
  unfolding with_block_of
  block_kept n = by_own_write (λ (e : Device). e.block ≡ d.block) (λ b. rw (ne_eqb d.selected which (λ e. n (sym e))))

  pub other_kept : which ≡ d.selected → (written_to which place x d).other ≡ d.other
  unfolding with_block_of
  other_kept n = by_own_write (λ (e : Device). e.other ≡ d.other) (λ b. rw (eq-eqb d.selected which (sym n)))

-- a write to one block leaves every value of the other, its command too
pub block_apart : {d : Device} → Sound d → (which place v k : ℕ) (x : ℤ) → Object which place → Object v k → place < WRITABLE → is_of_block place ≡ true → is_of_block k ≡ true → v ≢ which → value_at (written_to which place x d) v k ≡ value_at d v k
block_apart {d} s which place v k x o q h own own' n =
    by_less k WRITABLE
    (λ m. others_are_kept s which place v k x o q h m (λ e. n (cc)) (λ e. clash own (unfold is_of_block in rw e)))
    (λ m. let command : k ≡ COMMAND = past_writable m q.row in rw command (unfold value_at in command_apart))
  where
    past_writable : WRITABLE ≤ k → k < ROWS → k ≡ COMMAND
    past_writable m l = by_cases (eqb k COMMAND) (λ e. eqb-true k COMMAND e) (λ e. clash own' (unfold is_of_block in rw (le-ltb k SETTINGS (omega arith), ne_eqb k SET_POINT (omega arith), e)))

    command_apart : block_command v (written_to which place x d) ≡ block_command v d
    command_apart = by_own_write d which place x h own (λ (e : Device). block_command v e ≡ block_command v d) (λ b. block_command_beside d b which v n)

-- ---- what else stays: state, error code, position and phase, unless a control word was written

pub record Aside (d e : Device) : Type 0 where
  pub state : e.state ≡ d.state
  pub error : e.error ≡ d.error
  pub position : e.block.position ≡ d.block.position
  pub phase : e.dither.phase ≡ d.dither.phase

aside : {d e : Device} → Beside e d → e.block.position ≡ d.block.position → Aside d e
aside b p = record { state = b.state; error = b.error; position = p; phase = rw b.dither }

-- 2000h is written in DISABLED alone
at_rest : {d : Device} {which place size : ℕ} {x : ℤ} → Accept d which place size x → place ≡ SELECTION → driven d.state ≡ false
unfolding is_locked objects driven
at_rest {d} a e = rw (eqb-true d.state DISABLED (not-false _ (rw e at a.unlocked)))

pub written_aside : {d : Device} → Sound d → (which place size : ℕ) (x : ℤ) → place < WRITABLE → Accept d which place size x → place ≢ CONTROL_WORD → Aside d (written_to which place x d)
written_aside {d} s which place size x h a n =
    by_target place h
    (λ l. rw (to_setting which place x d l) (aside (with_block_of_beside which _ d) (block_of_position d _ which refl)))
    (λ m. rw (to_dither which place x d m) (record { state = refl; error = refl; position = refl; phase = DitherLaws.written_phase _ _ _ }))
    (λ m. rw (to_receive which place x d m) (record { state = refl; error = refl; position = refl; phase = refl }))
    (λ m. rw (to_transmit which place x d m) (record { state = refl; error = refl; position = refl; phase = refl }))
    (λ e. rw (to_setpoint which place x d e) (aside (with_block_of_beside which _ d) (block_of_position d _ which refl)))
    (λ e. rw (to_selection which place x d e) (aside (selecting_beside (nat_abs x) d) (selecting_position (nat_abs x) s (at_rest a e))))
    (λ e. absurd (n e))

-- ---- a sound device stays sound

-- a number at k after the write: the value at the place, and what was there elsewhere
set_at : (s : List ℤ) (place k : ℕ) (x : ℤ) (P : ℤ → Type 0) → k < length s → (k ≡ place → P x) → (k ≢ place → P (at s k)) → P (at (set s place x) k)
set_at s place k x P l f g =
    by_cases (eqb k place)
    (λ e. let q = eqb-true k place e in let m : place < length s = omega arith in rw (q, get_or-set_same s place x (pos 0) m) (f q))
    (λ e. let q : k ≢ place = eqb-false k place e in rw (get_or-set_other s place k x (pos 0)) (g q))

-- neither limit can be written past the other
limits_kept : (b : Block) (place : ℕ) (x : ℤ) → crosses b place x ≡ false → LOWER_LIMIT < length b.settings → setting b LOWER_LIMIT ≤ℤ setting b UPPER_LIMIT → at (set b.settings place x) LOWER_LIMIT ≤ℤ at (set b.settings place x) UPPER_LIMIT
limits_kept b place x c l u =
    let s = b.settings in
    set_at s place LOWER_LIMIT x (λ y. y ≤ℤ at (set s place x) UPPER_LIMIT) l
    (λ e. set_at s place UPPER_LIMIT x (λ y. x ≤ℤ y) (omega arith) (λ f. absurd (both e f)) (λ f. below_upper (sym e) c))
    (λ e. set_at s place UPPER_LIMIT x (λ y. setting b LOWER_LIMIT ≤ℤ y) (omega arith) (λ f. above_lower (sym f) c) (λ f. u))
  where
    both : LOWER_LIMIT ≡ place → UPPER_LIMIT ≡ place → ⊥
    both e f = omega arith

    below_upper : place ≡ LOWER_LIMIT → crosses b place x ≡ false → x ≤ℤ setting b UPPER_LIMIT
    below_upper e c = let t : lt_z (setting b UPPER_LIMIT) x ≡ false = unfold crosses in (rw e at c) in omega (arith, ints)

    above_lower : place ≡ UPPER_LIMIT → crosses b place x ≡ false → setting b LOWER_LIMIT ≤ℤ x
    above_lower e c = let t : lt_z x (setting b LOWER_LIMIT) ≡ false = unfold crosses in (rw e at c) in omega (arith, ints)

settings_kept : (b : Block) (place : ℕ) (x : ℤ) → InRange place x → crosses b place x ≡ false → SettingsParts b.settings → SettingsParts (set b.settings place x)
settings_kept b place x w c s =
    let l = b.settings in
    record {
      long = length-set l place x ∙ s.long;
      ranged = λ k m. set_at l place k x (InRange k) (omega (arith, s.long)) (λ e. rw e w) (λ e. s.ranged k m);
      uncrossed = limits_kept b place x c (omega (arith, s.long)) s.uncrossed;
    }

pub written_sound : {d : Device} → Sound d → (which place size : ℕ) (x : ℤ) → place < WRITABLE → Accept d which place size x → Sound (written_to which place x d)
written_sound {d} s which place size x h a =
    let b = block_of_sound_device s which in
    let maps = maps_of_sound s in
    by_target place h
    (λ l. rw (to_setting which place x d l)
    (with_block_of_sound which s (with_settings_sound b (settings_kept (block_of which d) place x a.range a.uncrossed (block_parts b).settings)) refl))
    (λ m. rw (to_dither which place x d m)
    (with_dither_sound s (DitherLaws.written_sound (dither_of_sound s) (place - DITHER_TYPE) x (one_of_three m) (rw (dither_place m) a.range)) (phase_rests _ s (DitherLaws.written_phase _ _ _))))
    (λ m. rw (to_receive which place x d m) (with_maps_sound s (receive_kept d.maps (place - RECEIVE_MAP) (nat_abs x) maps (sub_most m) (receive_ruled d x m a.unruled))))
    (λ m. rw (to_transmit which place x d m) (with_maps_sound s (transmit_kept d.maps (place - TRANSMIT_MAP) (nat_abs x) maps (sub_most m) (transmit_ruled d x m a.unruled))))
    (λ e. rw (to_setpoint which place x d e) (with_block_of_sound which s (with_setpoint_sound b (rw e at a.range)) refl))
    (λ e. rw (to_selection which place x d e) (selecting_sound (nat_abs x) s (at_rest a e) (block_number_lem e a.range).1))
    (λ e. rw (to_control which place x d e) (controlled_sound s (nat_abs x)))
