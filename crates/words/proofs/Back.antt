-- The words of a sound device hold it: each number fits its word, and each part is read back.
use mathlib.Core.Bool.{true, cond}
use mathlib.Core.List.{List, [], ◌∷◌, ◌++◌, append_assoc, append-nil}
use mathlib.Core.Path.{◌≡◌, refl, sym, ◌∙◌}
use Prim.Native.Nat.{ℕ, zero, suc, ◌+◌, ◌≤◌, ◌<◌}
use native.Mathlib.Omega.{arith}
use lib.IntN.{ℤ, pos}
use lib.ListN.{length, take, drop, length-append, length-map, length-drop}
use lib.Seq.{take-suc, take_at, drop-append-add, get_or-drop, get_or-append_seam, get_or-append-add}
use Rattle.integers.specs.Words.{◌is◌}
use Rattle.integers.proofs.Linear.{ints}
use Rattle.integers.proofs.Each.{and_both}
use Rattle.objects.specs.Places.{SETTINGS}
use Rattle.objects.specs.Table.{lies_in}
use Rattle.objects.proofs.Rules.{within_lies}
use Rattle.block.specs.declared.Block.{Block}
use Rattle.block.proofs.Sound.{block_parts}
use Rattle.mapping.specs.Maps.{ENTRIES, stands_at}
use Rattle.mapping.specs.declared.Map.{Map}
use Rattle.mapping.proofs.Sound.{receive_small, transmit_small}
use Rattle.dither.proofs.Laws.{dither_parts}
use Rattle.device.specs.Sound.{Sound}
use Rattle.device.specs.declared.Device.{Device}
use Rattle.device.proofs.Laws.{device_parts, state_below, block_of_sound, other_of_sound, dither_of_sound, maps_of_sound, selected_most, receive_parts, transmit_parts}
use Rattle.words.specs.Words.{SELECTED_BLOCK, OTHER_BLOCK, RECEIVE, TRANSMIT, ONE_BYTE, TWO_BYTES, FOUR_BYTES, block_words, map_words, later_words, words_of, run, block_in, map_in, dither_in, device_in, hold_map, hold_device}
use Rattle.words.proofs.Laws.{Sized, block_long, later_word}

-- ---- lists

run_part : (words : List ℤ) (from n : ℕ) → from + n ≤ length words → run words from n ≡ take n (drop from words)
unfolding run
run_part words from zero h = refl
run_part words from (suc n) h =
    let long : n < length (drop from words) = simp length-drop (omega arith) in
    rw (run_part words from n (omega arith), take-suc (drop from words) n (pos 0) long, get_or-drop from words n (pos 0))

-- a block among other words is read back
block_back : (xs : List ℤ) (b : Block) (ys : List ℤ) → length b.settings ≡ SETTINGS → block_in (xs ++ (block_words b ++ ys)) (length xs) ≡ b
unfolding block_in
block_back xs b ys e =
    let l = xs ++ (block_words b ++ ys) in
    let long : length xs + 2 + SETTINGS ≤ length l = simp (length-append, length-append) (omega arith) in
    rw (run_part l (length xs + 2) SETTINGS long, get_or-append_seam xs b.setpoint (b.position ∷ (b.settings ++ ys)) (pos 0))
    (rw (get_or-append-add xs (block_words b ++ ys) 1 (pos 0), drop-append-add xs (block_words b ++ ys) 2, take_at b.settings ys SETTINGS e))

-- ---- numbers

number_held : {n most : ℕ} → n ≤ most → lies_in (pos 0) (pos most) (pos n) ≡ true
number_held h = within_lies (record { from = omega (arith, ints); to = omega (arith, ints) })

-- what stands at each sub-index of a map is small enough
abbrev Small : Map → Type 0
Small m = (sub : ℕ) → sub ≤ ENTRIES → stands_at m sub ≤ cond (sub is 0) ONE_BYTE FOUR_BYTES

-- a map among other words is held, and read back
map_back : (xs : List ℤ) (count : ℕ) (entries : List ℕ) (ys : List ℤ) → let m : Map = record { count = count; entries = entries } in length entries ≡ ENTRIES → Small m → (hold_map (xs ++ (map_words m ++ ys)) (length xs) ≡ true) × (map_in (xs ++ (map_words m ++ ys)) (length xs) ≡ m)
unfolding hold_map map_in stands_at
map_back xs count (a ∷ b ∷ c ∷ e ∷ []) ys l small =
    let later = pos a ∷ pos b ∷ pos c ∷ pos e ∷ ys in
    rw (get_or-append_seam xs (pos count) later (pos 0), get_or-append-add xs (pos count ∷ later) 1 (pos 0), get_or-append-add xs (pos count ∷ later) 2 (pos 0), get_or-append-add xs (pos count ∷ later) 3 (pos 0), get_or-append-add xs (pos count ∷ later) 4 (pos 0))
    (and_both (number_held (small 0 (omega arith))) (and_both (and_both (number_held (small 1 (omega arith))) (number_held (small 2 (omega arith)))) (and_both (number_held (small 3 (omega arith))) (number_held (small 4 (omega arith))))), refl)
map_back xs count [] ys l small = absurd (omega arith)
map_back xs count (a ∷ []) ys l small = absurd (omega arith)
map_back xs count (a ∷ b ∷ []) ys l small = absurd (omega arith)
map_back xs count (a ∷ b ∷ c ∷ []) ys l small = absurd (omega arith)
map_back xs count (a ∷ b ∷ c ∷ e ∷ f ∷ entries) ys l small = absurd (omega arith)

-- ---- the device

module _ {d : Device} (s : Sound d) where
  sound_sized : Sized d
  sound_sized = record { block = (block_parts (block_of_sound s)).settings.long; other = (block_parts (other_of_sound s)).settings.long; receive = (receive_parts s).long }

  -- the words before the maps
  abbrev front : List ℤ
  front =
      block_words d.block
      ++ (block_words d.other
      ++ (pos d.selected ∷ pos d.state ∷ pos d.control ∷ pos d.error ∷ pos d.dither.phase ∷ d.dither.kind ∷ d.dither.amplitude ∷ d.dither.frequency ∷ []))

  abbrev received : List ℤ
  received = map_words d.maps.receive

  abbrev sent : List ℤ
  sent = map_words d.maps.transmit

  front_long : length front ≡ RECEIVE
  front_long = let z = sound_sized in simp (length-append, length-append) (omega (arith, z.block, z.other))

  both_long : length (front ++ received) ≡ TRANSMIT
  both_long = rw (length-append front received, front_long) (simp length-map (omega (arith, (receive_parts s).long)))

  maps_last : words_of d ≡ front ++ (received ++ sent)
  unfolding words_of
  maps_last = simp append_assoc

  sent_last : words_of d ≡ (front ++ received) ++ (sent ++ [])
  sent_last = maps_last ∙ rw (append-nil sent) (sym (append_assoc front received sent))

  block_read : block_in (words_of d) SELECTED_BLOCK ≡ d.block
  unfolding words_of
  block_read = block_back [] d.block (block_words d.other ++ later_words d) sound_sized.block

  other_read : block_in (words_of d) OTHER_BLOCK ≡ d.other
  unfolding words_of
  other_read = rw (block_long d sound_sized) at (block_back (block_words d.block) d.other (later_words d) sound_sized.other)

  most : d.selected ≤ ONE_BYTE
  most = omega (arith, selected_most s)

  known : d.state ≤ ONE_BYTE
  known = omega (arith, state_below d.state (device_parts s).known)

  phase : d.dither.phase ≤ FOUR_BYTES
  phase = omega (arith, (dither_parts (dither_of_sound s)).phase)

  pub device_back : d.control ≤ TWO_BYTES → d.error ≤ TWO_BYTES → (hold_device (words_of d) ≡ true) × (device_in (words_of d) ≡ d)
  unfolding hold_device device_in dither_in
  device_back c e =
      let z = sound_sized in
      let r = rw (← maps_last) at (rw front_long at (map_back front d.maps.receive.count d.maps.receive.entries sent (receive_parts s).long (receive_small d.maps (maps_of_sound s)))) in
      let t = rw (← sent_last) at (rw both_long at (map_back (front ++ received) d.maps.transmit.count d.maps.transmit.entries [] (transmit_parts s).long (transmit_small d.maps (maps_of_sound s)))) in
      let block = block_read in
      let other = other_read in
      rw (later_word d z 0, later_word d z 1, later_word d z 2, later_word d z 3, later_word d z 4, later_word d z 5, later_word d z 6, later_word d z 7)
      (and_both (and_both (and_both (number_held most) (number_held known)) (and_both (number_held c) (number_held e))) (and_both (number_held phase) (and_both r.0 t.0)), rw (block, other, r.1, t.1))
