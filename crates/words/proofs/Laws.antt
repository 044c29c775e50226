-- The words of a device with one part changed: what is stored is what the changed device has there, and all else stays.
use Rattle.std.specs.Prelude.{if◌then◌else◌}
use mathlib.Core.List.{List, [], ◌∷◌, ◌++◌}
use mathlib.Core.Path.{◌≡◌, refl, ap, ◌∙◌}
use Prim.Native.Nat.{ℕ, zero, suc, ◌+◌, ◌≤◌}
use native.Mathlib.Nat.{zero-add, suc-add}
use native.Mathlib.Omega.{arith}
use lib.IntN.{ℤ, pos}
use lib.ListN.{length, set, take, length-append}
use lib.Seq.{take-suc, take_all, sets, sets-eq, drop_at, get_or-append-add}
use Rattle.integers.specs.Words.{◌is◌}
use Rattle.integers.proofs.Cases.{by_cases, by_test}
use Rattle.objects.specs.Places.{SETTINGS, POSITION}
use Rattle.mapping.specs.Maps.{ENTRIES}
use Rattle.block.specs.Block.{at_position}
use Rattle.block.specs.declared.Block.{Block}
use Rattle.dither.specs.Dither.{at_phase}
use Rattle.dither.specs.declared.Dither.{Dither}
use Rattle.device.specs.Device.{with_block, with_other, with_selected, with_state, with_control, with_error, with_dither, block_of, with_block_of}
use Rattle.device.specs.Kept.{SameSettings}
use Rattle.device.specs.declared.Device.{Device}
use Rattle.words.specs.Words.{SELECTED_BLOCK, OTHER_BLOCK, SELECTED, STATE, CONTROL_WORD, ERROR_CODE, PHASE, block_words, later_words, words_of, WORDS, word, run, map_in, dither_in, block_in, device_in}
use Rattle.words.specs.Asked.{Held}
use Rattle.words.specs.Stored.{moved_in, start_of, block_put, position_block_in}
use Rattle.words.proofs.Numbers.{number_word, map_numbers, device_numbers}

-- ---- lists

-- a store past the first list is one in the second
pub set_past : (xs ys : List ℤ) (i : ℕ) (x : ℤ) → set (xs ++ ys) (length xs + i) x ≡ xs ++ set ys i x
set_past [] ys i x = rw (zero-add i)
set_past (a ∷ xs) ys i x = rw (suc-add (length xs) i) (ap (λ (l : List ℤ). a ∷ l) (set_past xs ys i x))

sets_past : (a : ℤ) (l : List ℤ) (i : ℕ) (vs : List ℤ) → sets (a ∷ l) (suc i) vs ≡ a ∷ sets l i vs
sets_past a l i [] = refl
sets_past a l i (v ∷ vs) = sets_past a (set l i v) (suc i) vs

-- a block is put in the place of another
pub block_put_lem : (xs : List ℤ) (b₀ b : Block) (ys : List ℤ) → length b₀.settings ≡ SETTINGS → length b.settings ≡ SETTINGS → block_put (length xs) b (xs ++ (block_words b₀ ++ ys)) ≡ xs ++ (block_words b ++ ys)
unfolding block_put
block_put_lem [] b₀ b ys e f =
    sets-eq b.settings (b.setpoint ∷ b.position ∷ (b₀.settings ++ ys)) 2 (simp length-append (omega arith))
    ∙ rw (f, drop_at b₀.settings ys SETTINGS e)
block_put_lem (a ∷ xs) b₀ b ys e f =
    rw (suc-add (length xs) 1, suc-add (length xs) 2, sets_past) (ap (λ (l : List ℤ). a ∷ l) (block_put_lem xs b₀ b ys e f))

-- ---- devices whose lists are as long as they are

pub record Sized (d : Device) : Type 0 where
  pub block : length d.block.settings ≡ SETTINGS
  pub other : length d.other.settings ≡ SETTINGS
  pub receive : length d.maps.receive.entries ≡ ENTRIES

run_long : (words : List ℤ) (from n : ℕ) → length (run words from n) ≡ n
unfolding run
run_long words from zero = refl
run_long words from (suc n) = let e = run_long words from n in simp length-append (omega arith)

pub held_sized : (words : List ℤ) → Sized (device_in words)
unfolding device_in block_in map_in
held_sized words = record { block = run_long words 2 SETTINGS; other = run_long words 21 SETTINGS; receive = refl }

-- ---- the device that words hold has those words

run_taken : (words : List ℤ) (n : ℕ) → n ≤ length words → run words 0 n ≡ take n words
unfolding run
run_taken words zero h = refl
run_taken words (suc n) h = rw (zero-add n, run_taken words n (omega arith), take-suc words n (pos 0))

pub held_words : {words : List ℤ} → Held words → length words ≡ WORDS → words_of (device_in words) ≡ words
unfolding words_of device_in block_in map_in dither_in run
held_words {words} h l =
    let n = device_numbers h in
    let r = map_numbers n.receive in
    let t = map_numbers n.transmit in
    let all : run words 0 WORDS ≡ words = run_taken words WORDS (omega arith) ∙ take_all WORDS words (omega arith) in
    rw (number_word n.selected, number_word n.state, number_word n.control, number_word n.error, number_word n.phase)
    (rw (number_word r.count, number_word r.first, number_word r.second, number_word r.third, number_word r.fourth)
    (rw (number_word t.count, number_word t.first, number_word t.second, number_word t.third, number_word t.fourth) all))

-- ---- the words after the blocks

module _ (d : Device) (s : Sized d) where
  pub block_long : length (block_words d.block) ≡ 19
  block_long = omega (arith, s.block)

  other_long : length (block_words d.other) ≡ 19
  other_long = omega (arith, s.other)

  pub later_word : (k : ℕ) → word (words_of d) (SELECTED + k) ≡ word (later_words d) k
  unfolding words_of
  later_word k =
      let b = block_words d.block in
      let o = block_words d.other in
      let e : SELECTED + k ≡ length b + (length o + k) = omega (arith, block_long, other_long) in
      rw (e, get_or-append-add b (o ++ later_words d) (length o + k) (pos 0), get_or-append-add o (later_words d) k (pos 0))

  pub later_set : (k : ℕ) (x : ℤ) → set (words_of d) (SELECTED + k) x ≡ block_words d.block ++ (block_words d.other ++ set (later_words d) k x)
  unfolding words_of
  later_set k x =
      let b = block_words d.block in
      let o = block_words d.other in
      let e : SELECTED + k ≡ length b + (length o + k) = omega (arith, block_long, other_long) in
      rw (e, set_past b (o ++ later_words d) (length o + k) x, set_past o (later_words d) k x)

  -- the number of the selected block, and each word that moves
  pub selected_word : word (words_of d) SELECTED ≡ pos d.selected
  selected_word = later_word 0

  pub position_set : (x : ℤ) → set (words_of d) 1 x ≡ words_of (with_block (at_position x d.block) d)
  unfolding words_of
  position_set x = refl

  pub selected_set : (n : ℕ) → set (words_of d) SELECTED (pos n) ≡ words_of (with_selected n d)
  unfolding words_of
  selected_set n = later_set 0 (pos n)

  pub state_set : (n : ℕ) → set (words_of d) STATE (pos n) ≡ words_of (with_state n d)
  unfolding words_of
  state_set n = later_set 1 (pos n)

  pub control_set : (n : ℕ) → set (words_of d) CONTROL_WORD (pos n) ≡ words_of (with_control n d)
  unfolding words_of
  control_set n = later_set 2 (pos n)

  pub error_set : (n : ℕ) → set (words_of d) ERROR_CODE (pos n) ≡ words_of (with_error n d)
  unfolding words_of
  error_set n = later_set 3 (pos n)

  pub phase_set : (n : ℕ) → set (words_of d) PHASE (pos n) ≡ words_of (with_dither (at_phase n d.dither) d)
  unfolding words_of
  phase_set n = later_set 4 (pos n)

-- ---- what moves

-- of a device that differs in nothing else
pub moved_words : {d e : Device} → Sized d → SameSettings e d → moved_in e (words_of d) ≡ words_of e
unfolding moved_in
moved_words {d} {e} s h =
    let kind : e.dither.kind ≡ d.dither.kind = ap (λ (x : Dither). x.kind) h.dither in
    let amplitude : e.dither.amplitude ≡ d.dither.amplitude = ap (λ (x : Dither). x.amplitude) h.dither in
    let frequency : e.dither.frequency ≡ d.dither.frequency = ap (λ (x : Dither). x.frequency) h.dither in
    let d₁ = with_block (at_position e.block.position d.block) d in
    let d₂ = with_state e.state d₁ in
    let d₃ = with_control e.control d₂ in
    let d₄ = with_error e.error d₃ in
    let z₁ : Sized d₁ = record { block = s.block; other = s.other; receive = s.receive } in
    let z₂ : Sized d₂ = record { block = s.block; other = s.other; receive = s.receive } in
    let z₃ : Sized d₃ = record { block = s.block; other = s.other; receive = s.receive } in
    let z₄ : Sized d₄ = record { block = s.block; other = s.other; receive = s.receive } in
    rw (position_set d s e.block.position, state_set d₁ z₁ e.state, control_set d₂ z₂ e.control, error_set d₃ z₃ e.error, phase_set d₄ z₄ e.dither.phase)
    (rw (← h.selected, ← h.other, ← h.settings, ← h.setpoint, ← h.maps, ← kind, ← amplitude, ← frequency))

-- ---- the blocks

module _ (d : Device) (s : Sized d) (which : ℕ) where
  pub start_is : start_of which (words_of d) ≡ (if d.selected is which then SELECTED_BLOCK else OTHER_BLOCK)
  unfolding start_of
  start_is = rw (selected_word d s)

  pub block_of_words : (b : Block) → length b.settings ≡ SETTINGS → block_put (start_of which (words_of d)) b (words_of d) ≡ words_of (with_block_of which b d)
  unfolding words_of with_block_of
  block_of_words b e =
      rw start_is
      (by_cases (d.selected is which) (λ t. rw t (block_put_lem [] d.block b (block_words d.other ++ later_words d) s.block e))
      (λ t. rw (t, ← block_long d s) (block_put_lem (block_words d.block) d.other b (later_words d) s.other e)))

-- the blocks exchanged
pub exchanged_words : (d : Device) → Sized d → (n : ℕ) → set (block_put OTHER_BLOCK d.block (block_put SELECTED_BLOCK d.other (words_of d))) SELECTED (pos n) ≡ words_of (with_selected n (with_block d.other (with_other d.block d)))
unfolding words_of
exchanged_words d s n =
    let exchanged = with_block d.other (with_other d.block d) in
    let first = block_put_lem [] d.block d.other (block_words d.other ++ later_words d) s.block s.other in
    let second = rw (other_long d s) at (block_put_lem (block_words d.other) d.other d.block (later_words d) s.other s.block) in
    rw (first, second) (selected_set exchanged (record { block = s.other; other = s.block; receive = s.receive }) n)

-- the position block of a device, in the words of another
pub position_block_words : (d e : Device) → Sized d → length (block_of POSITION e).settings ≡ SETTINGS → position_block_in e (words_of d) ≡ words_of (with_block_of POSITION (block_of POSITION e) d)
unfolding position_block_in
position_block_words d e s h = block_of_words d s POSITION (block_of POSITION e) h

-- which has its lists' lengths too
pub replaced_sized : (d : Device) (b : Block) → Sized d → length b.settings ≡ SETTINGS → Sized (with_block_of POSITION b d)
unfolding with_block_of
replaced_sized d b s h =
    by_test Sized (d.selected is POSITION) (λ e. record { block = h; other = s.other; receive = s.receive }) (λ e. record { block = s.block; other = h; receive = s.receive })

-- as the position block has
pub position_long : (d : Device) → Sized d → length (block_of POSITION d).settings ≡ SETTINGS
unfolding block_of
position_long d s = by_test (λ (b : Block). length b.settings ≡ SETTINGS) (d.selected is POSITION) (λ e. s.block) (λ e. s.other)
