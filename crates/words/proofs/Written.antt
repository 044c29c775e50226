-- An accepted write stores what the words of the written device have: one word, or for a selection the blocks, or for a control word what moves.
use Rattle.std.specs.Prelude.{Result, Ok, Err, if◌then◌else◌}
use mathlib.Core.List.{List, [], ◌∷◌, ◌++◌, map}
use mathlib.Core.Path.{◌≡◌, refl, sym, ap, ◌∙◌}
use Prim.Native.Nat.{ℕ, zero, suc, ◌+◌, ◌-◌, ◌≤◌, ◌<◌}
use native.Mathlib.Nat.{add-zero}
use native.Mathlib.Omega.{arith}
use borrow.Author.Tests.{lt-ltb, le-ltb, eqb-true, eqb-false, ne_eqb}
use lib.Dec.{lit<}
use lib.IntN.{ℤ, pos, nat_abs}
use lib.ListN.{length, set, length-set, length-map}
use lib.Seq.{set-append_left, set_at}
use Rattle.integers.specs.Words.{◌is◌}
use Rattle.integers.proofs.Cases.{by_cases}
use Rattle.objects.specs.Places.{SETTINGS, HOLD_SET_POINT, POSITION, DITHER_TYPE, RECEIVE_MAP, TRANSMIT_MAP, SET_POINT, SELECTION}
use Rattle.objects.specs.Places as Places
use Rattle.objects.proofs.Rules.{receive_map, transmit_map}
use Rattle.block.specs.Block.{setting, with_setting, with_setpoint}
use Rattle.block.specs.declared.Block.{Block}
use Rattle.mapping.specs.Maps.{ENTRIES, with_at}
use Rattle.mapping.specs.declared.Map.{Map}
use Rattle.dither.specs.Dither as Dithers
use Rattle.device.specs.Device.{block_of, with_dither, with_block_of, selecting}
use Rattle.device.specs.Events.{controlled}
use Rattle.device.specs.declared.Device.{Device}
use Rattle.device.proofs.Laws.{with_block_of_selected}
use Rattle.device.proofs.Kept.{controlled_keeps}
use Rattle.dictionary.specs.Asked.{Writing, Decided}
use Rattle.dictionary.specs.Decide.{carried_out}
use Rattle.dictionary.specs.declared.Decision.{Decision}
use Rattle.dictionary.specs.declared.Decision.TheVariants.{Read, Write}
use Rattle.dictionary.specs.declared.Abort.{Abort}
use Rattle.dictionary.specs.Values.{receive_written, transmit_written, written_to}
use Rattle.dictionary.proofs.Maps.{one_of_three, sub_most, from_zero}
use Rattle.dictionary.proofs.Written.{to_setting, to_dither, to_receive, to_transmit, to_setpoint, to_selection, to_control, by_target, written_number}
use Rattle.words.specs.Words.{SELECTED_BLOCK, OTHER_BLOCK, SELECTED, DITHER, RECEIVE, TRANSMIT, WORDS, block_words, map_words, later_words, words_of, device_in}
use Rattle.words.specs.Stored.{set_points_in, with_set_points, start_of, selected_in, word_of, controlled_in, written_in, carried_out_in}
use Rattle.words.specs.Asked.{Held}
use Rattle.words.proofs.Laws.{Sized, held_sized, held_words, set_past, block_long, later_set, selected_word, start_is, moved_words, exchanged_words, position_long, replaced_sized}

-- ---- one word of a block

setting_set : (xs : List ℤ) (b : Block) (ys : List ℤ) (k : ℕ) (x : ℤ) → k < length b.settings → set (xs ++ (block_words b ++ ys)) (length xs + 2 + k) x ≡ xs ++ (block_words (with_setting k x b) ++ ys)
setting_set xs b ys k x h =
    let e : length xs + 2 + k ≡ length xs + suc (suc k) = omega arith in
    rw (e, set_past xs (block_words b ++ ys) (suc (suc k)) x) (ap (λ (l : List ℤ). xs ++ (b.setpoint ∷ b.position ∷ l)) (set-append_left b.settings ys k x h))

module _ (d : Device) (s : Sized d) (which : ℕ) (x : ℤ) where
  setting_words : (place : ℕ) → place < SETTINGS → set (words_of d) (start_of which (words_of d) + 2 + place) x ≡ words_of (with_block_of which (with_setting place x (block_of which d)) d)
  unfolding words_of with_block_of block_of
  setting_words place h =
      rw (start_is d s which)
      (by_cases (d.selected is which) (λ t. rw t (setting_set [] d.block (block_words d.other ++ later_words d) place x (omega (arith, s.block))))
      (λ t. rw t (rw (block_long d s) at (setting_set (block_words d.block) d.other (later_words d) place x (omega (arith, s.other))))))

  setpoint_words : set (words_of d) (start_of which (words_of d)) x ≡ words_of (with_block_of which (with_setpoint x (block_of which d)) d)
  unfolding words_of with_block_of block_of
  setpoint_words =
      rw (start_is d s which)
      (by_cases (d.selected is which) (λ t. rw t) (λ t. rw t (set_at (block_words d.block) d.other.setpoint (d.other.position ∷ (d.other.settings ++ later_words d)) x OTHER_BLOCK (block_long d s))))

-- the position block begins in the same place where the same block is selected
same_start : {d e : Device} → Sized d → Sized e → d.selected ≡ e.selected → start_of POSITION (words_of d) ≡ start_of POSITION (words_of e)
same_start {d} {e} s z h = start_is d s POSITION ∙ ap (λ (n : ℕ). if n is POSITION then SELECTED_BLOCK else OTHER_BLOCK) h ∙ sym (start_is e z POSITION)

-- the set points of another device
pub set_points_words : (d e : Device) → Sized d → set_points_in e (words_of d) ≡ words_of (with_set_points e d)
unfolding set_points_in with_set_points
set_points_words d e s =
    let b = block_of POSITION e in
    let pointed = with_block_of POSITION (with_setpoint b.setpoint (block_of POSITION d)) d in
    let z = replaced_sized d (with_setpoint b.setpoint (block_of POSITION d)) s (position_long d s) in
    let start = same_start s z (sym (with_block_of_selected POSITION (with_setpoint b.setpoint (block_of POSITION d)) d)) in
    rw (setpoint_words d s POSITION b.setpoint, start) (rw add-zero at (setting_words pointed z POSITION (setting b HOLD_SET_POINT) HOLD_SET_POINT (lit< tt)))

pub pointed_sized : (d e : Device) → Sized d → Sized (with_set_points e d)
unfolding with_set_points
pointed_sized d e s =
    let b = block_of POSITION e in
    let pointed = with_block_of POSITION (with_setpoint b.setpoint (block_of POSITION d)) d in
    let z = replaced_sized d (with_setpoint b.setpoint (block_of POSITION d)) s (position_long d s) in
    replaced_sized pointed (with_setting HOLD_SET_POINT (setting b HOLD_SET_POINT) (block_of POSITION pointed)) z (simp length-set (position_long pointed z))

-- ---- one word of a map

set_mapped : (l : List ℕ) (k n : ℕ) → set (map pos l) k (pos n) ≡ map pos (set l k n)
set_mapped [] k n = refl
set_mapped (a ∷ l) zero n = refl
set_mapped (a ∷ l) (suc k) n = ap (λ (r : List ℤ). pos a ∷ r) (set_mapped l k n)

map_set : (m : Map) (sub n : ℕ) → set (map_words m) sub (pos n) ≡ map_words (with_at sub n m)
unfolding with_at
map_set m zero n = refl
map_set m (suc k) n =
    let e : suc k - 1 ≡ k = omega arith in
    rw (ne_eqb (suc k) 0 (omega arith), e) (ap (λ (r : List ℤ). pos m.count ∷ r) (set_mapped m.entries k n))

module _ (d : Device) (s : Sized d) where
  -- the words before the maps
  abbrev eight : List ℤ
  eight =
      pos d.selected ∷ pos d.state ∷ pos d.control ∷ pos d.error ∷ pos d.dither.phase
      ∷ d.dither.kind ∷ d.dither.amplitude ∷ d.dither.frequency ∷ []

  maps_set : (k : ℕ) (x : ℤ) → set (words_of d) (RECEIVE + k) x ≡ block_words d.block ++ (block_words d.other ++ (eight ++ set (map_words d.maps.receive ++ map_words d.maps.transmit) k x))
  maps_set k x =
      let e : RECEIVE + k ≡ SELECTED + (8 + k) = omega arith in
      rw (e, later_set d s (8 + k) x) (ap (λ (l : List ℤ). block_words d.block ++ (block_words d.other ++ l)) (set_past eight (map_words d.maps.receive ++ map_words d.maps.transmit) k x))

  receive_words : (sub n : ℕ) → sub ≤ ENTRIES → set (words_of d) (RECEIVE + sub) (pos n) ≡ words_of (receive_written sub n d)
  unfolding words_of
  receive_words sub n h =
      maps_set sub (pos n)
      ∙ rw (set-append_left (map_words d.maps.receive) (map_words d.maps.transmit) sub (pos n) (simp length-map (omega (arith, s.receive))), map_set d.maps.receive sub n)

  transmit_words : (sub n : ℕ) → set (words_of d) (TRANSMIT + sub) (pos n) ≡ words_of (transmit_written sub n d)
  unfolding words_of
  transmit_words sub n =
      let r = map_words d.maps.receive in
      let five : length r ≡ 5 = simp length-map (omega (arith, s.receive)) in
      let e : TRANSMIT + sub ≡ RECEIVE + (length r + sub) = omega arith in
      rw e (maps_set (length r + sub) (pos n) ∙ rw (set_past r (map_words d.maps.transmit) sub (pos n), map_set d.maps.transmit sub n))

  -- ---- one word of the dither

  dither_words : (k : ℕ) (x : ℤ) → k < 3 → set (words_of d) (DITHER + k) x ≡ words_of (with_dither (Dithers.with_at k x d.dither) d)
  unfolding words_of Dithers.with_at
  dither_words k x h =
      by_cases (k is 0) (λ e. let z : k ≡ 0 = eqb-true k 0 e in rw z (later_set d s 5 x))
      (λ e. by_cases (k is 1) (λ f. let z : k ≡ 1 = eqb-true k 1 f in rw z (later_set d s 6 x))
      (λ f. let z : k ≡ 2 = omega (arith, eqb-false k 0 e, eqb-false k 1 f) in rw z (later_set d s 7 x)))

-- ---- every write

module _ {words : List ℤ} (h : Held words) (l : length words ≡ WORDS) where
  abbrev device : Device
  device = device_in words

  back : words_of device ≡ words
  back = held_words h l

  sized : Sized device
  sized = held_sized words

  selected_words : (n : ℕ) → selected_in n words ≡ words_of (selecting n device)
  unfolding selected_in selecting device_in
  selected_words n =
      rw (rw back at (selected_word device sized))
      (by_cases (device.selected is n) (λ t. rw t (sym back)) (λ t. rw t (rw back at (exchanged_words device sized n))))

  controlled_words : (n : ℕ) → controlled_in n words ≡ words_of (controlled n device)
  unfolding controlled_in
  controlled_words n = rw back at (moved_words sized (controlled_keeps n device))

  -- a place with a word of its own
  own_word : (which place : ℕ) (x : ℤ) → place < SELECTION → written_in which place x words ≡ set words (word_of (start_of which words) place) x
  unfolding written_in
  own_word which place x m = rw (ne_eqb place SELECTION (omega arith), ne_eqb place Places.CONTROL_WORD (omega arith))

  -- that of the dither or of a map
  later_place : (start place : ℕ) → DITHER_TYPE ≤ place → place < SET_POINT → word_of start place ≡ DITHER + (place - DITHER_TYPE)
  unfolding word_of
  later_place start place m n = rw (le-ltb place SETTINGS m, lt-ltb place SET_POINT n)

  selection_written : (which place : ℕ) (x : ℤ) → place ≡ SELECTION → written_in which place x words ≡ words_of (selecting (nat_abs x) device)
  unfolding written_in
  selection_written which place x e = rw e (selected_words (nat_abs x))

  control_written : (which place : ℕ) (x : ℤ) → place ≡ Places.CONTROL_WORD → written_in which place x words ≡ words_of (controlled (nat_abs x) device)
  unfolding written_in
  control_written which place x e = rw e (controlled_words (nat_abs x))

  pub written_words : (which place : ℕ) (x : ℤ) → Writing place x → written_in which place x words ≡ words_of (written_to which place x device)
  unfolding word_of
  written_words which place x w =
      by_target place w.writable
      (λ m.
      own_word which place x (omega arith)
      ∙ rw (lt-ltb place SETTINGS m, to_setting which place x device m) (rw back at (setting_words device sized which x place m)))
      (λ m.
      own_word which place x (omega (arith, m.1))
      ∙ rw (later_place (start_of which words) place m.0 (omega (arith, m.1)), to_dither which place x device m) (rw back at (dither_words device sized (place - DITHER_TYPE) x (one_of_three m))))
      (λ m.
      let e : DITHER + (place - DITHER_TYPE) ≡ RECEIVE + (place - RECEIVE_MAP) = omega (arith, m.0) in
      own_word which place x (omega (arith, m.1))
      ∙ rw (later_place (start_of which words) place (omega (arith, m.0)) (omega (arith, m.1)), e, to_receive which place x device m) (rw (back, written_number (from_zero receive_map m w.range)) at (receive_words device sized (place - RECEIVE_MAP) (nat_abs x) (sub_most m))))
      (λ m.
      let e : DITHER + (place - DITHER_TYPE) ≡ TRANSMIT + (place - TRANSMIT_MAP) = omega (arith, m.0) in
      own_word which place x (omega (arith, m.1))
      ∙ rw (later_place (start_of which words) place (omega (arith, m.0)) m.1, e, to_transmit which place x device m) (rw (back, written_number (from_zero transmit_map m w.range)) at (transmit_words device sized (place - TRANSMIT_MAP) (nat_abs x))))
      (λ e.
      own_word which place x (omega arith)
      ∙ rw (to_setpoint which place x device e) (rw e (rw back at (setpoint_words device sized which x))))
      (λ e. rw (to_selection which place x device e) (selection_written which place x e))
      (λ e. rw (to_control which place x device e) (control_written which place x e))

  -- what was decided
  pub carried_words : (x : Result Decision Abort) → Decided x → carried_out_in x words ≡ words_of (carried_out x device)
  carried_words (Ok (Read size number)) c = sym back
  carried_words (Ok (Write which place x)) c = written_words which place x c.writes
  carried_words (Err abort) c = sym back
