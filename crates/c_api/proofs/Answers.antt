-- What the library's answers leave of a device: refused, all of it; done, all but what moves, or all but that and the position block.
use Rattle.std.proofs.Common.{Ok, Err, IsOk}
use mathlib.Core.Bool.{Bool, true, false, not}
use mathlib.Core.List.{List}
use mathlib.Core.Path.{◌≡◌, refl, sym, ap, ◌∙◌}
use Prim.Native.Nat.{ℕ, zero, suc, ◌≤◌}
use native.Mathlib.Omega.{arith}
use native.Mathlib.Numerals.{add-one}
use lib.Dec.{ltb}
use lib.IntN.{ℤ, pos}
use lib.ListN.{length, set, take, drop}
use lib.Seq.{get_or-set_same, set-get_or, set-set}
use Rattle.integers.specs.Words.{◌is◌, ◌among◌}
use Rattle.integers.proofs.Cases.{by_cases, by_test, apart}
use Rattle.objects.specs.Places.{SETTINGS, HOLD_SET_POINT, POSITION}
use Rattle.block.specs.Block.{setting}
use Rattle.block.specs.Sound.{sound_settings}
use Rattle.block.specs.declared.Block.{Block}
use Rattle.block.proofs.Sound.{block_parts, settings_parts}
use Rattle.mapping.specs.Maps.{RECEIVABLE, entry_of, length_of, map_length}
use Rattle.mapping.proofs.Sound.{one_of_three, counted_mapped}
use Rattle.dither.specs.Dither.{at_phase}
use Rattle.image.specs.Load.{is_full, settings_in}
use Rattle.device.specs.States.{DISABLED}
use Rattle.device.specs.Device.{block_of, with_block_of}
use Rattle.device.specs.Sound.{sound_device, Sound}
use Rattle.device.specs.Kept.{SameSettings}
use Rattle.device.specs.declared.Device.{Device}
use Rattle.device.specs.declared.refusal.Refusal.{Refusal}
use Rattle.device.proofs.Laws.{receive_parts, other_at_zero, block_of_same, with_block_of_itself, block_of_sound_device}
use Rattle.device.specs.Events.{controlled}
use Rattle.device.proofs.Kept.{same, same_block, tick_keeps, jump_keeps, controlled_keeps, faulted_keeps}
use Rattle.pdo.specs.Receive.{acted, received}
use Rattle.pdo.proofs.Laws.{received_more, acted_sound}
use Rattle.pdo.proofs.Objects.{word_acted, set_point_acted, hold_set_point_acted}
use Rattle.rainsheave.specs.Calls.{change, changed, control_answer, fault_answer, tick_answer, jump_answer, receive_answer, load_answer}
use Rattle.rainsheave.specs.declared.Change.{Change}
use Rattle.rainsheave.proofs.Images.{by_load}
use Rattle.words.specs.Stored.{with_set_points}
use Rattle.c_api.specs.Asked.{Left}

-- ---- what moves

pub record Moves (d : Device) (c : Change) : Type 0 where
  pub left : Left c.report d c.device
  pub moves : SameSettings c.device d

refused_moves : {d : Device} {refusal : Refusal} → Moves d (change (Err refusal) d)
refused_moves = record { left = refl; moves = same }

done_moves : {d e : Device} → SameSettings e d → Moves d (change (Ok tt) e)
done_moves s = record { left = tt; moves = s }

changed_moves : (d : Device) {c : Change} → Moves d c → Moves d (changed d c)
changed_moves d m = by_test (Moves d) (sound_device d) (λ e. m) (λ e. refused_moves)

pub control_moves : (d : Device) (word : ℕ) → Moves d (control_answer d word)
unfolding control_answer
control_moves d word = changed_moves d (done_moves (controlled_keeps word d))

pub fault_moves : (d : Device) (code : ℕ) → Moves d (fault_answer d code)
unfolding fault_answer
fault_moves d code = changed_moves d (by_test (Moves d) (code is 0) (λ e. refused_moves) (λ e. done_moves (faulted_keeps code d)))

pub tick_moves : (d : Device) → Moves d (tick_answer d)
unfolding tick_answer
tick_moves d = changed_moves d (done_moves (tick_keeps d))

pub jump_moves : (d : Device) (n : ℕ) → Moves d (jump_answer d n)
unfolding jump_answer
jump_moves d n = changed_moves d (done_moves (jump_keeps n d))

-- ---- the position block, and what moves

-- the block that is not the position block, but for its position where it is the selected one
abbrev Others : Bool → Device → Device → Type 0
Others true d e = e.other ≡ d.other
Others false d e = (e.block.settings ≡ d.block.settings) × (e.block.setpoint ≡ d.block.setpoint)

record Beside (d e : Device) : Type 0 where
  pub selected : e.selected ≡ d.selected
  pub maps : e.maps ≡ d.maps
  pub dither : at_phase 0 e.dither ≡ at_phase 0 d.dither
  pub others : Others (d.selected is POSITION) d e

others_moved : (t : Bool) (d : Device) {e f : Device} → SameSettings f e → Others t d e → Others t d f
others_moved true d s h = s.other ∙ h
others_moved false d s h = (s.settings ∙ h.0, s.setpoint ∙ h.1)

others_same : (t : Bool) (d : Device) → Others t d d
others_same true d = refl
others_same false d = (refl, refl)

beside_itself : (d : Device) → Beside d d
beside_itself d = record { selected = refl; maps = refl; dither = refl; others = others_same (d.selected is POSITION) d }

-- it is kept by what moves, and by another position block
beside_moved : {d e f : Device} → Beside d e → SameSettings f e → Beside d f
beside_moved {d} b s = record { selected = s.selected ∙ b.selected; maps = s.maps ∙ b.maps; dither = s.dither ∙ b.dither; others = others_moved (d.selected is POSITION) d s b.others }

beside_replaced : {d e : Device} (p : Block) → Beside d e → Beside d (with_block_of POSITION p e)
unfolding with_block_of
beside_replaced {d} {e} p b =
    by_cases (d.selected is POSITION)
    (λ t. let u : (e.selected is POSITION) ≡ true = rw b.selected t in rw u (record { selected = b.selected; maps = b.maps; dither = b.dither; others = rw t (rw t at b.others) }))
    (λ t. let u : (e.selected is POSITION) ≡ false = rw b.selected t in rw u (record { selected = b.selected; maps = b.maps; dither = b.dither; others = rw t (rw t at b.others) }))

-- ---- a load

pub record Loads (d : Device) (c : Change) : Type 0 where
  pub left : Left c.report d c.device
  pub loads : c.device ≡ with_block_of POSITION (block_of POSITION c.device) d

refused_loads : {d : Device} {refusal : Refusal} → Loads d (change (Err refusal) d)
refused_loads {d} = record { left = refl; loads = sym (with_block_of_itself POSITION d) }

done_loads : (d : Device) (b : Block) → Loads d (change (Ok tt) (with_block_of POSITION b d))
done_loads d b = record { left = tt; loads = rw (block_of_same d b POSITION) }

pub load_loads : (d : Device) (image : List ℕ) → Loads d (load_answer d image)
unfolding load_answer
load_loads d image =
    by_test (Loads d) (sound_device d)
    (λ e. by_test (Loads d) (not (d.state is DISABLED)) (λ f. refused_loads)
    (λ f. by_test (Loads d) (not (is_full image)) (λ g. refused_loads)
    (λ g. by_test (Loads d) (not (sound_settings (settings_in image))) (λ h. refused_loads) (λ h. done_loads d _))))
    (λ e. refused_loads)

-- the settings that are loaded are as many as a block has
pub load_long : (d : Device) (image : List ℕ) → IsOk (load_answer d image).report → length (block_of POSITION (load_answer d image).device).settings ≡ SETTINGS
load_long d image =
    by_load (λ c. IsOk c.report → length (block_of POSITION c.device).settings ≡ SETTINGS) d image (λ refusal e. apart (cc))
    (λ full sound e. ap (λ (b : Block). length b.settings) (block_of_same d _ POSITION) ∙ (settings_parts (settings_in image) sound).long)

-- ---- a received PDO

-- of the position block's settings but the hold set point is another
abbrev Points : Device → Device → Type 0
Points d e = (block_of POSITION e).settings ≡ set (block_of POSITION d).settings HOLD_SET_POINT (setting (block_of POSITION e) HOLD_SET_POINT)

points_itself : (d : Device) → Points d d
points_itself d = sym (set-get_or (block_of POSITION d).settings HOLD_SET_POINT (pos 0))

points_same : (d e f : Device) → (block_of POSITION f).settings ≡ (block_of POSITION e).settings → Points d e → Points d f
points_same d e f h p = rw h p

points_held : (d e f : Device) (v : ℤ) → length (block_of POSITION e).settings ≡ SETTINGS → (block_of POSITION f).settings ≡ set (block_of POSITION e).settings HOLD_SET_POINT v → Points d e → Points d f
points_held d e f v l h p =
    let read = get_or-set_same (block_of POSITION e).settings HOLD_SET_POINT v (pos 0) (omega arith) in
    rw (h, read) (rw p (set-set (block_of POSITION d).settings HOLD_SET_POINT _ v))

pub record Receives (d : Device) (c : Change) : Type 0 where
  pub left : Left c.report d c.device
  pub moves : SameSettings c.device (with_set_points c.device d)

moved_points : {d e : Device} → Beside d e → Points d e → e.other.position ≡ d.other.position → SameSettings e (with_set_points e d)
unfolding with_set_points with_block_of block_of
moved_points {d} {e} b points rests =
    by_cases (d.selected is POSITION)
    (λ t.
    let held = rw (b.selected, t) at points in
    rw (b.selected, t, t) (record { selected = refl; other = rw t at b.others; settings = held; setpoint = refl; maps = b.maps; dither = b.dither }))
    (λ t.
    let held = rw (b.selected, t) at points in
    let o = rw t at b.others in
    rw (b.selected, t, t) (record { selected = refl; other = rw (← held, ← rests); settings = o.0; setpoint = o.1; maps = b.maps; dither = b.dither }))

-- a sound device that is beside another, with its settings but for the hold set point
record Reached (d e : Device) : Type 0 where
  pub sound : Sound e
  pub beside : Beside d e
  pub points : Points d e

acted_reached : {d e : Device} (entry : ℕ) (bytes : List ℕ) → entry among RECEIVABLE ≡ true → Reached d e → Reached d (acted entry bytes e)
acted_reached {d} {e} entry bytes m r =
    let b = r.beside in
    one_of_three 0x60400010 0x63000110 0x63140110 entry m
    (λ h.
    let word = word_acted e bytes in
    let keeps = controlled_keeps _ e in
    rw h (record { sound = acted_sound 0x60400010 bytes r.sound; beside = rw word (beside_moved b keeps); points = rw word (points_same d e (controlled _ e) (same_block keeps POSITION).0 r.points) }))
    (λ h.
    let point = set_point_acted e bytes in
    let same = ap (λ (b : Block). b.settings) (block_of_same e _ POSITION) in
    rw h (record { sound = acted_sound 0x63000110 bytes r.sound; beside = rw point (beside_replaced _ b); points = rw point (points_same d e (with_block_of POSITION _ e) same r.points) }))
    (λ h.
    let point = hold_set_point_acted e bytes in
    let same = ap (λ (b : Block). b.settings) (block_of_same e _ POSITION) in
    let long = (block_parts (block_of_sound_device r.sound POSITION)).settings.long in
    rw h (record { sound = acted_sound 0x63140110 bytes r.sound; beside = rw point (beside_replaced _ b); points = rw point (points_held d e (with_block_of POSITION _ e) _ long same r.points) }))

module _ {d : Device} (s : Sound d) (bytes : List ℕ) where
  received_reached : (n : ℕ) → n ≤ d.maps.receive.count → Reached d (received (take n d.maps.receive.entries) bytes d)
  unfolding received
  received_reached zero h = record { sound = s; beside = beside_itself d; points = points_itself d }
  received_reached (suc n) h =
      let p = receive_parts s in
      rw (← add-one n, received_more d.maps.receive.entries n bytes d (omega (arith, p.long, p.few)))
      (acted_reached (entry_of d.maps.receive n) (drop (length_of (take n d.maps.receive.entries)) bytes) (counted_mapped RECEIVABLE p n (omega arith)) (received_reached n (omega arith)))

refused_receives : {d : Device} {refusal : Refusal} → Receives d (change (Err refusal) d)
refused_receives {d} = record { left = refl; moves = moved_points (beside_itself d) (points_itself d) refl }

done_receives : {d e : Device} → Sound d → Reached d e → Receives d (change (Ok tt) e)
done_receives s r = record { left = tt; moves = moved_points r.beside r.points (other_at_zero r.sound ∙ sym (other_at_zero s)) }

pub receive_receives : (d : Device) (pdo : List ℕ) → Receives d (receive_answer d pdo)
unfolding receive_answer
receive_receives d pdo =
    by_test (Receives d) (sound_device d)
    (λ e.
    let s : Sound d = record { sound = e } in
    by_test (Receives d) (ltb (length pdo) (map_length d.maps.receive)) (λ f. refused_receives) (λ f. done_receives s (received_reached s pdo d.maps.receive.count (omega arith))))
    (λ e. refused_receives)
