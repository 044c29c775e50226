-- A sound device by its parts, both ways; and that every event keeps a sound device sound.
use mathlib.Core.Bool.{true, false, not, ◌&&◌, ◌||◌}
use mathlib.Core.Logic.{◌≢◌}
use mathlib.Core.Path.{◌≡◌, refl, sym, ap, ◌∙◌}
use Prim.Native.Nat.{ℕ, ◌+◌, ◌≤◌, ◌<◌}
use native.Mathlib.Omega.{arith}
use borrow.Author.Tests.{eqb-true, eqb-false, eq-eqb, ne_eqb}
use lib.Dec.{eqb}
use lib.IntN.{pos}
use Rattle.integers.specs.Words.{◌is◌, ◌=?◌}
use Rattle.integers.proofs.Cases.{by_cases, by_test, clash}
use Rattle.integers.proofs.Each.{and_split, and_both}
use Rattle.integers.proofs.Machine.{=?-yes}
use Rattle.objects.specs.Places.{POSITION, PRESSURE}
use Rattle.block.specs.Block.{fresh_block}
use Rattle.block.specs.Sound.{sound_block}
use Rattle.block.specs.Target.{target_position}
use Rattle.block.specs.Sound as Blocks
use Rattle.block.proofs.Sound as BlockSound
use Rattle.block.proofs.Travel as BlockTravel
use Rattle.block.specs.declared.Block.{Block}
use Rattle.mapping.specs.Maps.{RECEIVABLE, SENDABLE}
use Rattle.mapping.specs.Sound.{sound_maps}
use Rattle.mapping.specs.declared.Maps.{Maps}
use Rattle.mapping.proofs.Sound as Mapped
use Rattle.dither.specs.Dither.{fresh_dither}
use Rattle.dither.specs.Sound.{sound_dither}
use Rattle.dither.specs.Sound as Dithers
use Rattle.dither.specs.declared.Dither.{Dither}
use Rattle.dither.proofs.Laws as DitherLaws
use Rattle.device.specs.Queries.{STATUS_ACTIVE, TARGET_MET, target_met, status_of, device_command, block_command}
use Rattle.device.specs.States.{DISABLED, HOLD, ACTIVE, FAULT, bit, from_disabled, from_hold, from_active, from_fault, next_state, driven}
use Rattle.device.specs.Device.{fresh_device, with_block, with_other, with_control, with_maps, with_dither, with_selected, block_of, with_block_of, selecting, other_of, mirrored, is_active}
use Rattle.device.specs.Events.{block_in, dither_in, error_in, entering, controlled, reported, faulted, tick_device, jump_device}
use Rattle.device.specs.Sound.{is_a_state, error_fits, rests, selection_fits, sound_device, Sound}
use Rattle.device.specs.declared.Device.{Device}

-- what a device holds, whatever its state is: sound blocks, a sound dither and sound maps
pub record Holds (d : Device) : Type 0 where
  pub selection : selection_fits d ≡ true
  pub block : Blocks.Sound d.block
  pub other : Blocks.Sound d.other
  pub dither : Dithers.Sound d.dither
  pub mapped : sound_maps d.maps ≡ true

pub record Parts (d : Device) : Type 0 where
  pub known : is_a_state d.state ≡ true
  pub fits : error_fits d.state d.error ≡ true
  pub at_rest : rests d ≡ true
  pub holds : Holds d

pub device_parts : {d : Device} → Sound d → Parts d
unfolding sound_device
device_parts {d} s =
    let first = is_a_state d.state && error_fits d.state d.error in
    let both = sound_block d.block && sound_block d.other in
    let maps = and_split (first && rests d && selection_fits d && both && sound_dither d.dither) (sound_maps d.maps) s.sound in
    let dither = and_split (first && rests d && selection_fits d && both) (sound_dither d.dither) maps.0 in
    let blocks = and_split (first && rests d && selection_fits d) both dither.0 in
    let block = and_split (sound_block d.block) (sound_block d.other) blocks.1 in
    let selection = and_split (first && rests d) (selection_fits d) blocks.0 in
    let rest = and_split first (rests d) selection.0 in
    let state = and_split (is_a_state d.state) (error_fits d.state d.error) rest.0 in
    record {
      known = state.0;
      fits = state.1;
      at_rest = rest.1;
      holds = record { selection = selection.1; block = record { sound = block.0 }; other = record { sound = block.1 }; dither = record { sound = dither.1 }; mapped = maps.1 };
    }

pub device_from_parts : {d : Device} → Parts d → Sound d
unfolding sound_device
device_from_parts p =
    let h = p.holds in
    let state = and_both (and_both p.known p.fits) p.at_rest in
    let blocks = and_both (and_both state h.selection) (and_both h.block.sound h.other.sound) in
    record { sound = and_both (and_both blocks h.dither.sound) h.mapped }

pub block_of_sound : {d : Device} → Sound d → Blocks.Sound d.block
block_of_sound s = (device_parts s).holds.block

pub other_of_sound : {d : Device} → Sound d → Blocks.Sound d.other
other_of_sound s = (device_parts s).holds.other

pub dither_of_sound : {d : Device} → Sound d → Dithers.Sound d.dither
dither_of_sound s = (device_parts s).holds.dither

pub maps_of_sound : {d : Device} → Sound d → sound_maps d.maps ≡ true
maps_of_sound s = (device_parts s).holds.mapped

-- a state is below four
pub state_below : (state : ℕ) → is_a_state state ≡ true → state < 4
unfolding is_a_state
state_below state k =
    by_cases (eqb state 0) (λ e. let h = eqb-true state 0 e in omega (arith, h))
    (λ e. by_cases (eqb state 1) (λ f. let h = eqb-true state 1 f in omega (arith, h))
    (λ f. by_cases (eqb state 2) (λ g. let h = eqb-true state 2 g in omega (arith, h))
    (λ g. let h = eqb-true state 3 (rw (e, f, g) at k) in omega (arith, h))))

-- one of the two blocks is selected, and the other one is at position 0
selection_parts : (d : Device) → selection_fits d ≡ true → (d.selected ≤ PRESSURE) × (d.other.position ≡ pos 0)
unfolding selection_fits
selection_parts d e =
    let both = and_split (d.selected is POSITION || d.selected is PRESSURE) (d.other.position =? pos 0) e in
    (by_cases (d.selected is POSITION) (λ f. omega (arith, eqb-true d.selected POSITION f)) (λ f. omega (arith, eqb-true d.selected PRESSURE (rw f at both.0))), =?-yes _ _ both.1)

fits_selection : (d : Device) → d.selected ≤ PRESSURE → d.other.position ≡ pos 0 → selection_fits d ≡ true
unfolding selection_fits
fits_selection d h e =
    by_cases (d.selected is POSITION) (λ f. rw (f, e))
    (λ f. let g : d.selected ≡ PRESSURE = omega (arith, eqb-false d.selected POSITION f) in rw (f, eq-eqb d.selected PRESSURE g, e))

module _ {d : Device} (s : Sound d) where
  pub selected_most : d.selected ≤ PRESSURE
  selected_most = (selection_parts d (device_parts s).holds.selection).0

  pub other_at_zero : d.other.position ≡ pos 0
  other_at_zero = (selection_parts d (device_parts s).holds.selection).1

-- and its maps by their parts
module _ {d : Device} (s : Sound d) where
  pub receive_parts : Mapped.Parts RECEIVABLE d.maps.receive
  receive_parts = Mapped.map_parts (Mapped.maps_split d.maps (maps_of_sound s)).0

  pub transmit_parts : Mapped.Parts SENDABLE d.maps.transmit
  transmit_parts = Mapped.map_parts (Mapped.maps_split d.maps (maps_of_sound s)).1

-- a device with another sound block is sound, where that rests as it must
pub with_block_sound : {d : Device} {b : Block} → Sound d → Blocks.Sound b → rests (with_block b d) ≡ true → Sound (with_block b d)
unfolding selection_fits
with_block_sound s h e =
    let p = device_parts s in
    let q = p.holds in
    device_from_parts (record { known = p.known; fits = p.fits; at_rest = e; holds = record { selection = q.selection; block = h; other = q.other; dither = q.dither; mapped = q.mapped } })

-- and one with another sound dither, where that rests as it must
pub with_dither_sound : {d : Device} {h : Dither} → Sound d → Dithers.Sound h → rests (with_dither h d) ≡ true → Sound (with_dither h d)
unfolding selection_fits
with_dither_sound s h e =
    let p = device_parts s in
    let q = p.holds in
    device_from_parts (record { known = p.known; fits = p.fits; at_rest = e; holds = record { selection = q.selection; block = q.block; other = q.other; dither = h; mapped = q.mapped } })

-- and one with other sound maps
pub with_maps_sound : {d : Device} {maps : Maps} → Sound d → sound_maps maps ≡ true → Sound (with_maps maps d)
unfolding rests selection_fits
with_maps_sound {d} {maps} s h =
    let p = device_parts s in
    let q = p.holds in
    device_from_parts {d = with_maps maps d} (record { known = p.known; fits = p.fits; at_rest = p.at_rest; holds = record { selection = q.selection; block = q.block; other = q.other; dither = q.dither; mapped = h } })

-- and one with another sound block that is not selected, at position 0
pub with_other_sound : {d : Device} {b : Block} → Sound d → Blocks.Sound b → b.position ≡ pos 0 → Sound (with_other b d)
unfolding rests selection_fits
with_other_sound {d} {b} s h e =
    let p = device_parts s in
    let q = p.holds in
    device_from_parts {d = with_other b d} (record { known = p.known; fits = p.fits; at_rest = p.at_rest; holds = record { selection = fits_selection (with_other b d) (selected_most s) e; block = q.block; other = h; dither = q.dither; mapped = q.mapped } })

-- they do so where the device is driven, and where the block stands at the same position and the dither at the same phase
pub driven_rests : (d : Device) → driven d.state ≡ true → rests d ≡ true
unfolding rests
driven_rests d e = rw e

pub position_rests : {d : Device} (b : Block) → Sound d → b.position ≡ d.block.position → rests (with_block b d) ≡ true
unfolding rests
position_rests b s e = rw e (device_parts s).at_rest

pub phase_rests : {d : Device} (h : Dither) → Sound d → h.phase ≡ d.dither.phase → rests (with_dither h d) ≡ true
unfolding rests
phase_rests h s e = rw e (device_parts s).at_rest

-- not driven, a sound device is at position 0 and phase 0
at_rest_zeros : {d : Device} → Sound d → driven d.state ≡ false → (d.block.position ≡ pos 0) × (d.dither.phase ≡ 0)
unfolding rests
at_rest_zeros {d} s k =
    let both = and_split (d.block.position =? pos 0) (d.dither.phase is 0) (rw k at (device_parts s).at_rest) in
    (=?-yes d.block.position (pos 0) both.0, eqb-true d.dither.phase 0 both.1)

pub rests_at_zero : {d : Device} → Sound d → driven d.state ≡ false → d.block.position ≡ pos 0
rests_at_zero s k = (at_rest_zeros s k).0

-- ---- entering a state

block_in_sound : (state : ℕ) {b : Block} → Blocks.Sound b → Blocks.Sound (block_in state b)
unfolding block_in
block_in_sound state {b} s = by_test Blocks.Sound (driven state) (λ e. s) (λ e. BlockTravel.moved_sound s (pos 0) (record { inside = omega arith }))

dither_in_sound : (state : ℕ) {h : Dither} → Dithers.Sound h → Dithers.Sound (dither_in state h)
unfolding dither_in
dither_in_sound state s = by_test Dithers.Sound (driven state) (λ e. s) (λ e. DitherLaws.at_phase_sound s (omega arith))

-- a device that enters one of the four states is sound, where FAULT has an error code
pub entering_sound : (d : Device) (state : ℕ) → Holds d → is_a_state state ≡ true → (eqb state FAULT ≡ true → d.error ≢ 0) → Sound (entering state d)
unfolding entering selection_fits
entering_sound d state h known code =
    device_from_parts
    (record {
      known = known;
      fits = unfold error_fits error_in in by_cases (eqb state FAULT) (λ e. rw (e, ne_eqb d.error 0 (code e))) (λ e. rw e);
      at_rest = unfold rests block_in dither_in in by_cases (driven state) (λ e. rw e) (λ e. rw e);
      holds = record { selection = h.selection; block = block_in_sound state h.block; other = h.other; dither = dither_in_sound state h.dither; mapped = h.mapped };
    })

-- ---- control words

-- what holds of the moves from each state holds of the next state
by_state : (P : ℕ → Type 0) (state before word : ℕ) → P (from_disabled word) → P (from_hold word) → P (from_active word) → ((eqb state 0 ≡ false) → (eqb state 1 ≡ false) → (eqb state 2 ≡ false) → P (from_fault before word)) → P (next_state state before word)
unfolding next_state
by_state P state before word a b c d =
    by_test P (eqb state 0) (λ e. a)
    (λ e. by_test P (eqb state 1) (λ f. b)
    (λ f. by_test P (eqb state 2) (λ g. c) (λ g. d e f g)))

module _ (P : ℕ → Type 0) (word : ℕ) where
  by_disabled : P 0 → P 1 → P (from_disabled word)
  unfolding from_disabled
  by_disabled a b = by_test P (bit 0 word) (λ e. b) (λ e. a)

  by_hold : P 0 → P 1 → P 2 → P (from_hold word)
  unfolding from_hold
  by_hold a b c = by_test P (not (bit 0 word)) (λ e. a) (λ e. by_test P (bit 0 word && bit 1 word && bit 2 word) (λ f. c) (λ f. b))

  by_active : P 0 → P 1 → P 2 → P (from_active word)
  unfolding from_active
  by_active a b c = by_test P (not (bit 0 word)) (λ e. a) (λ e. by_test P (not (bit 1 word) || not (bit 2 word)) (λ f. b) (λ f. c))

  by_fault : (before : ℕ) → P 0 → P 3 → P (from_fault before word)
  unfolding from_fault
  by_fault before a b = by_test P (bit 3 word && not (bit 3 before)) (λ e. a) (λ e. b)

-- a control word leads to one of the four states
next_known : (state before word : ℕ) → is_a_state (next_state state before word) ≡ true
unfolding is_a_state
next_known state before word =
    by_state Known state before word (by_disabled Known word refl refl) (by_hold Known word refl refl refl)
    (by_active Known word refl refl refl) (λ e f g. by_fault Known word before refl refl)
  where
    Known : ℕ → Type 0
    Known n = is_a_state n ≡ true

-- and to FAULT from FAULT alone
stays_in_fault : (state before word : ℕ) → is_a_state state ≡ true → eqb (next_state state before word) FAULT ≡ true → eqb state FAULT ≡ true
unfolding is_a_state
stays_in_fault state before word h =
    by_state Stays state before word (by_disabled Stays word never never) (by_hold Stays word never never never) (by_active Stays word never never never)
    (λ e f g. by_fault Stays word before never (λ k. rw (e, f, g) at h))
  where
    Stays : ℕ → Type 0
    Stays n = eqb n FAULT ≡ true → eqb state FAULT ≡ true

    never : false ≡ true → eqb state FAULT ≡ true
    never e = clash refl (sym e)

-- in FAULT a sound device has an error code
error_in_fault : {d : Device} → Sound d → eqb d.state FAULT ≡ true → d.error ≢ 0
unfolding error_fits
error_in_fault {d} s e z = clash (rw e at (device_parts s).fits) (rw z)

-- the stored control word has no part in soundness
with_control_sound : {d : Device} → Sound d → (word : ℕ) → Sound (with_control word d)
unfolding sound_device selection_fits rests
with_control_sound s word = record { sound = s.sound }

pub controlled_sound : {d : Device} → Sound d → (word : ℕ) → Sound (controlled word d)
unfolding controlled
controlled_sound {d} s word =
    let p = device_parts s in
    with_control_sound
    (entering_sound d _ p.holds (next_known d.state d.control word)
    (λ e. error_in_fault s (stays_in_fault d.state d.control word p.known e))) word

-- ---- faults, ticks and jumps

pub faulted_sound : {d : Device} → Sound d → (code : ℕ) → code ≢ 0 → Sound (faulted code d)
unfolding faulted is_a_state
faulted_sound {d} s code h = entering_sound (reported code d) FAULT holds refl (λ e. error)
  where
    holds : Holds (reported code d)
    holds =
        let q = (device_parts s).holds in
        unfold reported selection_fits in by_test Holds (eqb d.state FAULT) (λ k. q) (λ k. record { selection = q.selection; block = q.block; other = q.other; dither = q.dither; mapped = q.mapped })

    error : (reported code d).error ≢ 0
    error = unfold reported in by_test (λ (e : Device). e.error ≢ 0) (eqb d.state FAULT) (λ k. error_in_fault s k) (λ k. h)

-- a driven device with another sound block and another sound dither is sound
moved_sound : {d : Device} {b : Block} {h : Dither} → Sound d → driven d.state ≡ true → Blocks.Sound b → Dithers.Sound h → Sound (with_dither h (with_block b d))
moved_sound {d} {b} {h} s e k l = with_dither_sound (with_block_sound s k (driven_rests (with_block b d) e)) l (driven_rests (with_dither h (with_block b d)) e)

pub tick_sound : {d : Device} → Sound d → Sound (tick_device d)
unfolding tick_device
tick_sound {d} s =
    by_test Sound (driven d.state)
    (λ e. moved_sound s e (BlockTravel.tick_sound (block_of_sound s) (is_active d)) (DitherLaws.tick_sound (dither_of_sound s))) (λ e. s)

pub jump_sound : {d : Device} → Sound d → (n : ℕ) → Sound (jump_device n d)
unfolding jump_device
jump_sound {d} s n =
    by_test Sound (driven d.state)
    (λ e. moved_sound s e (BlockTravel.jump_sound (block_of_sound s) (is_active d) n) (DitherLaws.jump_sound (dither_of_sound s) n)) (λ e. s)

pub fresh_sound : Sound fresh_device
unfolding fresh_device is_a_state error_fits rests driven selection_fits
fresh_sound =
    device_from_parts
    (record {
      known = refl;
      fits = refl;
      at_rest = unfold fresh_block fresh_dither in refl;
      holds = record { selection = unfold fresh_block in refl; block = BlockSound.fresh_sound; other = BlockSound.fresh_sound; dither = DitherLaws.fresh_sound; mapped = Mapped.fresh_sound };
    })

-- ---- the two blocks

-- the block of a number is the one put there, and the other one stays
module _ (d : Device) (b : Block) (which : ℕ) where
  pub block_of_same : block_of which (with_block_of which b d) ≡ b
  unfolding block_of with_block_of
  block_of_same = by_cases (d.selected is which) (λ e. simp e) (λ e. simp e)

  pub block_of_other : (v : ℕ) → v ≢ which → d.selected ≤ PRESSURE → v ≤ PRESSURE → which ≤ PRESSURE → block_of v (with_block_of which b d) ≡ block_of v d
  unfolding block_of with_block_of
  block_of_other v n s h k =
      by_cases (d.selected is which)
      (λ e. let f : d.selected ≢ v = λ g. n (sym g ∙ eqb-true d.selected which e) in rw (e, ne_eqb d.selected v f))
      (λ e. let f : d.selected ≡ v = omega (arith, eqb-false d.selected which e) in rw (e, eq-eqb d.selected v f))

  -- a block put there at the same position leaves that of the selected block
  pub block_of_position : b.position ≡ (block_of which d).position → (with_block_of which b d).block.position ≡ d.block.position
  unfolding block_of with_block_of
  block_of_position p = by_cases (d.selected is which) (λ e. simp e (rw e at p)) (λ e. simp e)

-- putting a block back changes nothing
pub with_block_of_itself : (which : ℕ) (d : Device) → with_block_of which (block_of which d) d ≡ d
unfolding block_of with_block_of
with_block_of_itself which d = by_cases (d.selected is which) (λ e. rw e) (λ e. rw e)

-- two devices that differ in their blocks and the selection alone
pub record Beside (d e : Device) : Type 0 where
  pub state : d.state ≡ e.state
  pub control : d.control ≡ e.control
  pub error : d.error ≡ e.error
  pub maps : d.maps ≡ e.maps
  pub dither : d.dither ≡ e.dither

beside : {d : Device} → Beside d d
beside = record { state = refl; control = refl; error = refl; maps = refl; dither = refl }

pub with_block_of_beside : (which : ℕ) (b : Block) (d : Device) → Beside (with_block_of which b d) d
unfolding with_block_of
with_block_of_beside which b d =
    by_test (λ e. Beside e d) (d.selected is which) (λ e. record { state = refl; control = refl; error = refl; maps = refl; dither = refl }) (λ e. record { state = refl; control = refl; error = refl; maps = refl; dither = refl })

pub with_block_of_selected : (which : ℕ) (b : Block) (d : Device) → (with_block_of which b d).selected ≡ d.selected
unfolding with_block_of
with_block_of_selected which b d = by_test (λ (e : Device). e.selected ≡ d.selected) (d.selected is which) (λ e. refl) (λ e. refl)

-- it makes no difference whether a block is put in place before or after other maps or another dither
pub with_block_of_maps : (which : ℕ) (b : Block) (maps : Maps) (d : Device) → with_maps maps (with_block_of which b d) ≡ with_block_of which b (with_maps maps d)
unfolding with_block_of
with_block_of_maps which b maps d = by_cases (d.selected is which) (λ e. simp e) (λ e. simp e)

pub with_block_of_dither : (which : ℕ) (b : Block) (h : Dither) (d : Device) → with_dither h (with_block_of which b d) ≡ with_block_of which b (with_dither h d)
unfolding with_block_of
with_block_of_dither which b h d = by_cases (d.selected is which) (λ e. simp e) (λ e. simp e)

pub selecting_beside : (which : ℕ) (d : Device) → Beside (selecting which d) d
unfolding selecting
selecting_beside which d = by_test (λ e. Beside e d) (d.selected is which) (λ e. beside) (λ e. record { state = refl; control = refl; error = refl; maps = refl; dither = refl })

-- selecting exchanges them, and leaves each as it was
module _ (d : Device) (which : ℕ) where
  pub selected_is : (selecting which d).selected ≡ which
  unfolding selecting
  selected_is = by_cases (d.selected is which) (λ e. rw e (eqb-true d.selected which e)) (λ e. rw e)

  -- and the one selected is the block of its number
  pub selected_drives : (selecting which d).block ≡ block_of which d
  unfolding selecting block_of
  selected_drives = by_cases (d.selected is which) (λ e. simp e) (λ e. simp e)

  pub selecting_keeps : d.selected ≤ PRESSURE → which ≤ PRESSURE → (v : ℕ) → v ≤ PRESSURE → block_of v (selecting which d) ≡ block_of v d
  unfolding selecting block_of
  selecting_keeps s h v k =
      by_cases (d.selected is which) (λ e. rw e)
      (λ e. by_cases (which is v)
      (λ f. let g : d.selected ≢ v = λ q. eqb-false d.selected which e (q ∙ sym (eqb-true which v f)) in rw (e, f, ne_eqb d.selected v g))
      (λ f. let g : d.selected ≡ v = omega (arith, eqb-false d.selected which e, eqb-false which v f) in rw (e, f, eq-eqb d.selected v g)))

-- what holds of either block holds of that of a number
pub by_block : (P : Block → Type 0) (d : Device) (which : ℕ) → P d.block → P d.other → P (block_of which d)
unfolding block_of
by_block P d which p q = by_test P (d.selected is which) (λ e. p) (λ e. q)

pub block_of_sound_device : {d : Device} → Sound d → (which : ℕ) → Blocks.Sound (block_of which d)
block_of_sound_device {d} s which = by_block Blocks.Sound d which (block_of_sound s) (other_of_sound s)

-- a device with another sound block of a number is sound, where that stands at the same position
pub with_block_of_sound : {d : Device} (which : ℕ) {b : Block} → Sound d → Blocks.Sound b → b.position ≡ (block_of which d).position → Sound (with_block_of which b d)
unfolding with_block_of block_of
with_block_of_sound {d} which {b} s h e =
    by_cases (d.selected is which)
    (λ f. rw f (with_block_sound s h (position_rests b s (rw f at e))))
    (λ f. rw f (with_other_sound s h (rw f at e ∙ other_at_zero s)))

-- and one that is not driven, with a block of a number selected: both blocks are at position 0
pub selecting_position : {d : Device} (which : ℕ) → Sound d → driven d.state ≡ false → (selecting which d).block.position ≡ d.block.position
unfolding selecting
selecting_position {d} which s k =
    by_test (λ (e : Device). e.block.position ≡ d.block.position) (d.selected is which) (λ e. refl) (λ e. other_at_zero s ∙ sym (rests_at_zero s k))

pub selecting_sound : {d : Device} (which : ℕ) → Sound d → driven d.state ≡ false → which ≤ PRESSURE → Sound (selecting which d)
unfolding selecting rests
selecting_sound {d} which s k h =
    by_test Sound (d.selected is which) (λ e. s)
    (λ e.
    let p = device_parts s in
    let q = p.holds in
    device_from_parts {d = with_selected which (with_block d.other (with_other d.block d))}
    (record {
      known = p.known;
      fits = p.fits;
      at_rest = rw (k, other_at_zero s, (at_rest_zeros s k).1);
      holds = record { selection = fits_selection (with_selected which (with_block d.other (with_other d.block d))) h (rests_at_zero s k); block = q.other; other = q.block; dither = q.dither; mapped = q.mapped };
    }))

-- ---- the status word

pub met_most : (d : Device) → target_met d ≤ TARGET_MET
unfolding target_met
met_most d = by_test (λ n. n ≤ TARGET_MET) (d.block.position =? target_position (is_active d) d.block) (λ e. omega arith) (λ e. omega arith)

pub status_most : (d : Device) → status_of d ≤ STATUS_ACTIVE + TARGET_MET
unfolding status_of
status_most d =
    let met = met_most d in
    by_test Small (eqb d.state DISABLED) (λ e. omega arith)
    (λ e. by_test Small (eqb d.state HOLD) (λ f. omega arith)
    (λ f. by_test Small (eqb d.state ACTIVE) (λ g. omega arith) (λ g. omega arith)))
  where
    Small : ℕ → Type 0
    Small n = n ≤ STATUS_ACTIVE + TARGET_MET

-- ---- the command

-- another block in place of one leaves the command of the other
pub block_command_beside : (d : Device) (b : Block) (which v : ℕ) → v ≢ which → block_command v (with_block_of which b d) ≡ block_command v d
unfolding block_command with_block_of device_command
block_command_beside d b which v n =
    by_cases (d.selected is which)
    (λ e. let f : d.selected ≢ v = λ g. n (sym g ∙ eqb-true d.selected which e) in simp (e, ne_eqb d.selected v f))
    (λ e. simp e)

-- ---- the selected block and the other one, by their numbers

pub selected_block : (d : Device) → block_of d.selected d ≡ d.block
unfolding block_of
selected_block d = rw (eq-eqb d.selected d.selected refl)

pub other_block : (d : Device) → d.selected ≤ PRESSURE → block_of (other_of d.selected) d ≡ d.other
unfolding block_of
other_block d h = rw (ne_eqb d.selected (other_of d.selected) (λ e. omega arith))

pub selected_command : (d : Device) → block_command d.selected d ≡ device_command d
unfolding block_command
selected_command d = rw (eq-eqb d.selected d.selected refl)

pub other_command : (d : Device) → d.selected ≤ PRESSURE → block_command (other_of d.selected) d ≡ pos 0
unfolding block_command
other_command d h = rw (ne_eqb d.selected (other_of d.selected) (λ e. omega arith))

-- ---- the mirrored device

-- one of the two numbers is the other's other
pub other_twice : {which : ℕ} → which ≤ PRESSURE → other_of (other_of which) ≡ which
other_twice h = omega arith

pub other_most : (which : ℕ) → other_of which ≤ PRESSURE
other_most which = omega arith

pub other_apart : {which : ℕ} → which ≤ PRESSURE → other_of which ≢ which
other_apart h e = omega arith

-- a test of one number is that of the other with the other
mirror_test : {s which : ℕ} → s ≤ PRESSURE → which ≤ PRESSURE → (other_of s is which) ≡ (s is other_of which)
mirror_test {s} {which} h k =
    by_cases (s is other_of which)
    (λ e. eq-eqb (other_of s) which (omega (arith, eqb-true s (other_of which) e)) ∙ sym e)
    (λ e. ne_eqb (other_of s) which (λ f. eqb-false s (other_of which) e (omega arith)) ∙ sym e)

pub mirrored_sound : {d : Device} → Sound d → Sound (mirrored d)
unfolding rests selection_fits
mirrored_sound {d} s =
    let p = device_parts s in
    let q = p.holds in
    device_from_parts {d = mirrored d}
    (record { known = p.known; fits = p.fits; at_rest = p.at_rest; holds = record { selection = fits_selection (mirrored d) (other_most d.selected) (other_at_zero s); block = q.block; other = q.other; dither = q.dither; mapped = q.mapped } })

module _ {d : Device} (s : Sound d) where
  pub mirrored_twice : mirrored (mirrored d) ≡ d
  mirrored_twice = ap (λ (n : ℕ). with_selected n d) (other_twice (selected_most s))

  -- the block of a number is that of the other number in the mirrored device, and so is its command
  pub mirrored_block : (which : ℕ) → which ≤ PRESSURE → block_of which (mirrored d) ≡ block_of (other_of which) d
  unfolding block_of
  mirrored_block which h = rw (mirror_test (selected_most s) h)

  pub mirrored_command : (which : ℕ) → which ≤ PRESSURE → block_command which (mirrored d) ≡ block_command (other_of which) d
  unfolding block_command device_command
  mirrored_command which h = rw (mirror_test (selected_most s) h)

  -- and another block is put in the other's place
  pub mirrored_put : (which : ℕ) (b : Block) → which ≤ PRESSURE → mirrored (with_block_of which b (mirrored d)) ≡ with_block_of (other_of which) b d
  unfolding with_block_of
  mirrored_put which b h =
      rw (mirror_test (selected_most s) h)
      (by_cases (d.selected is other_of which) (λ e. simp (e, other_twice (selected_most s))) (λ e. simp (e, other_twice (selected_most s))))
