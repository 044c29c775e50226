-- A device is sound exactly where what is told of it is: each value lies in its row's range where it lies in its line's, and the other
-- conditions are the same.
use Rattle.std.specs.Prelude.{if◌then◌else◌}
use mathlib.Core.Bool.{true, not, ◌&&◌}
use mathlib.Core.List.{List, [], ◌∷◌}
use mathlib.Core.Path.{◌≡◌, refl, sym, ap, ◌∙◌}
use Prim.Native.Nat.{ℕ, ◌+◌, ◌*◌, ◌≤◌, ◌<◌}
use native.Mathlib.Omega.{arith}
use borrow.Author.Tests.{eqb-true, eqb-false, eq-eqb, lt-ltb, le-ltb, ltb-true, ltb-false, not-true}
use lib.IntN.{pos}
use lib.ListN.{length}
use lib.Signed.{◌≤ℤ◌}
use Rattle.integers.specs.Words.{each, minus, ◌is◌, ◌below◌, ◌among◌, ◌≤?◌}
use Rattle.integers.specs.Range.{Within}
use Rattle.integers.proofs.Cases.{by_cases, clash}
use Rattle.integers.proofs.Each.{and_split, and_both, each_at, each_all}
use Rattle.integers.proofs.Linear.{ints}
use Rattle.integers.proofs.Machine.{=?-yes}
use Rattle.objects.specs.Places.{SETTINGS, DITHER_TYPE, DITHER_AMPLITUDE, DITHER_FREQUENCY, SET_POINT, SELECTION}
use Rattle.objects.specs.Places.{UPPER_LIMIT, LOWER_LIMIT, POSITION, PRESSURE}
use Rattle.objects.specs.Table.{objects, row_at, lies_in, InRange}
use Rattle.objects.specs.Lookup.{Object, index_of}
use Rattle.objects.proofs.Rules.{within_lies, receive_map, transmit_map}
use Rattle.block.specs.Block.{setting}
use Rattle.block.specs.Sound as Blocks
use Rattle.block.proofs.Sound.{block_parts, block_from_parts}
use Rattle.mapping.specs.Maps.{ENTRIES, RECEIVABLE, SENDABLE}
use Rattle.mapping.specs.Sound.{may_stand}
use Rattle.mapping.specs.declared.Map.{Map}
use Rattle.mapping.proofs.Sound.{Parts, map_from_parts, maps_both, receive_small, transmit_small}
use Rattle.dither.specs.Sound as Dithers
use Rattle.dither.proofs.Laws.{dither_parts, dither_from_parts, stands_within}
use Rattle.device.specs.States.{driven}
use Rattle.device.specs.Device.{block_of, other_of}
use Rattle.device.specs.Sound.{is_a_state, error_fits, rests, selection_fits, sound_device, Sound}
use Rattle.device.specs.declared.Device.{Device}
use Rattle.device.proofs.Laws.{device_parts, device_from_parts, state_below, block_of_sound, dither_of_sound, maps_of_sound, receive_parts, transmit_parts}
use Rattle.device.proofs.Laws.{selected_most, other_at_zero, selected_block, other_block, other_most}
use Rattle.device.proofs.Laws as Devices
use Rattle.dictionary.specs.Named.{Named, value, byte, nothing, named}
use Rattle.dictionary.specs.Values.{value_at}
use Rattle.dictionary.proofs.Laws.{setting_within, setpoint_within, each_object_is_named}
use Rattle.dictionary.proofs.Maps.{one_of_three, dither_place, sub_most, map_within, value_of_dither, value_of_receive, value_of_transmit}
use Rattle.dictionary.proofs.Written.{by_target, value_of_setting}
use Rattle.promises.specs.Library.{Told}
use Rattle.promises.specs.Sheet.{Line, sheet, is_held, in_range}
use Rattle.promises.specs.Sdo.{mapped, mappable, sound_map}
use Rattle.promises.specs.Promises.{sound}
use Rattle.kept.specs.Ours.{is_whole, told_of}
use Rattle.promises.proofs.Sheets.{of_all}
use Rattle.kept.proofs.Lines.{agrees, all_agree, agreed, is_byte, by_value}
use Rattle.kept.proofs.Plain.{held_by, plain_told, plain_told_lem, sound_told, held_told, held_setting, held_set_point, set_point_object, setting_object}
use Rattle.kept.proofs.Asked.{dither_type, dither_amplitude, dither_frequency}
use Rattle.kept.proofs.Mapped.{MapTold, receive_told, transmit_told}
use Rattle.promises.proofs.SoundTold.{SoundParts, sound_parts, sound_from_parts, fits_line, held_in_range}

-- ---- of a sound device each held value lies in its line's range

module _ {d : Device} (s : Sound d) where
  -- in its row's
  held_within : (which place : ℕ) → place < SELECTION → InRange place (value_at d which place)
  held_within which place h =
      by_target place (omega arith)
      (λ l. rw (value_of_setting d which place l) (setting_within s which place l))
      (λ m. rw (value_of_dither d which place m) (rw (dither_place m) at (stands_within (dither_of_sound s) _ (one_of_three m))))
      (λ m. rw (value_of_receive d which place m) (map_within receive_map m (receive_small d.maps (maps_of_sound s) _ (sub_most m))))
      (λ m. rw (value_of_transmit d which place m) (map_within transmit_map m (transmit_small d.maps (maps_of_sound s) _ (sub_most m))))
      (λ e. unfold value_at in rw e (setpoint_within s which))
      (λ e. absurd (omega arith))
      (λ e. absurd (omega arith))

  line_fits : (l : Line) (n : Named) → named l.index l.sub ≡ n → agrees l n ≡ true → fits_line (held_by d) l ≡ true
  unfolding lies_in
  line_fits l (value which place) e a =
      let g = agreed l which place a in
      by_cases (is_held l)
      (λ h.
      let k : place < SELECTION = ltb-true place SELECTION (sym g.held ∙ h) in
      let v : held_by d l.index l.sub ≡ value_at d which place = held_told d l.index l.sub which place e k in
      rw (h, v, g.low, g.high) (within_lies (held_within which place k)))
      (λ h. rw h)
  line_fits l (byte number) e a = rw (is_byte l number a).read_only
  line_fits l (nothing abort) e a = clash a refl

  lines_fit : (lines : List Line) → of_all (λ l. agrees l (named l.index l.sub)) lines ≡ true → in_range lines (held_by d) ≡ true
  unfolding in_range
  lines_fit [] a = refl
  lines_fit (l ∷ lines) a =
      let both = and_split (agrees l (named l.index l.sub)) (of_all (λ l. agrees l (named l.index l.sub)) lines) a in
      and_both (line_fits l (named l.index l.sub) refl both.0) (lines_fit lines both.1)

-- ---- limits and maps

-- of a block by its number
limits_told : (d : Device) (which : ℕ) → which ≤ PRESSURE →
    (held_by d (0x6321 + 0x80 * which) 1 ≡ setting (block_of which d) LOWER_LIMIT) × (held_by d (0x6320 + 0x80 * which) 1 ≡ setting (block_of which d) UPPER_LIMIT)
unfolding objects
limits_told d which w = (held_setting d which LOWER_LIMIT w (omega arith), held_setting d which UPPER_LIMIT w (omega arith))

module _ {t : Told} {m : Map} (map : ℕ) (list : List ℕ) (e : mappable map ≡ list) (r : MapTold t map m) where
  map_sounds : Parts list m → sound_map t map ≡ true
  unfolding sound_map
  map_sounds p =
      and_both {a = not (4 below mapped t map 0)} (rw (r.count, le-ltb 4 m.count p.few))
      (each_all 4 _ (λ k h. rw (r.entry k h, r.count, e) (unfold may_stand in p.stands k h)))

  sounds_map : length m.entries ≡ ENTRIES → sound_map t map ≡ true → Parts list m
  unfolding sound_map
  sounds_map l s =
      let both = and_split (not (4 below mapped t map 0)) (each 4 (λ k. if mapped t map (k + 1) is 0 then not (k below mapped t map 0) else mapped t map (k + 1) among mappable map)) s in
      record {
        long = l;
        few = ltb-false 4 m.count (not-true _ (rw r.count at both.0));
        stands = λ k h. unfold may_stand in rw (r.entry k h, r.count, e) at (each_at 4 _ k both.1 h);
      }

-- ---- a sound device tells something sound

pub sound_is_told : {d : Device} → Sound d → sound (told_of d) ≡ true
sound_is_told {d} s =
    ap sound (sound_told s)
    ∙ sound_from_parts (plain_told d)
    (record {
      state = state_below d.state (device_parts s).known;
      ranged = lines_fit s sheet all_agree;
      limits = uncrossed 0 (omega arith);
      pressure_limits = uncrossed 1 (omega arith);
      position = (block_parts (block_of_sound s)).position;
      phase = (dither_parts (dither_of_sound s)).phase;
      rest = unfold rests driven in (device_parts s).at_rest;
      error = unfold error_fits in (device_parts s).fits;
      receive = map_sounds 0x1600 RECEIVABLE refl (receive_told d) (receive_parts s);
      transmit = map_sounds 0x1A00 SENDABLE refl (transmit_told d) (transmit_parts s);
      selected = omega (arith, selected_most s);
      other = rw (other_at_zero s);
    })
  where
    uncrossed : (which : ℕ) → which ≤ PRESSURE → (held_by d (0x6321 + 0x80 * which) 1 ≤? held_by d (0x6320 + 0x80 * which) 1) ≡ true
    uncrossed which w =
        let both = limits_told d which w in
        rw (both.0, both.1) (omega (arith, ints, crossed which))
      where
        crossed : (which : ℕ) → setting (block_of which d) LOWER_LIMIT ≤ℤ setting (block_of which d) UPPER_LIMIT
        crossed which = (block_parts (Devices.block_of_sound_device s which)).settings.uncrossed

-- ---- and what tells something sound is a sound device

is_state : (state : ℕ) → state < 4 → is_a_state state ≡ true
unfolding is_a_state
is_state state h =
    by_cases (state is 0) (λ e. rw e)
    (λ e. by_cases (state is 1) (λ f. rw (e, f))
    (λ f. by_cases (state is 2) (λ g. rw (e, f, g))
    (λ g. let three : state ≡ 3 = omega (arith, eqb-false state 0 e, eqb-false state 1 f, eqb-false state 2 g) in rw (eq-eqb state 3 three, e, f, g))))

one_selected : (d : Device) → d.selected ≤ PRESSURE → d.other.position ≡ pos 0 → selection_fits d ≡ true
unfolding selection_fits
one_selected d h e =
    by_cases (d.selected is 0) (λ f. rw (f, e))
    (λ f. let one : d.selected ≡ 1 = omega (arith, eqb-false d.selected 0 f) in rw (f, eq-eqb d.selected 1 one, e))

module _ (d : Device) (w : is_whole d ≡ true) (p : SoundParts (plain_told d)) where
  -- each held value lies in its row's range
  row_within : (which place : ℕ) → Object which place → place < SELECTION → InRange place (held_by d (index_of which place) (row_at place).sub)
  row_within which place o h =
      by_value (index_of which place) (row_at place).sub which place (each_object_is_named o)
      (λ e q a.
      rw (a.low, a.high) at (held_in_range (held_by d) (index_of which place) (row_at place).sub p.ranged (a.held ∙ lt-ltb place SELECTION h)))

  -- so the block of a number is sound where it has its length and a position in range
  block_sounds : (which : ℕ) → which ≤ PRESSURE → length (block_of which d).settings ≡ SETTINGS →
      Within (minus 1073741824) (pos 1073741824) (block_of which d).position →
      setting (block_of which d) LOWER_LIMIT ≤ℤ setting (block_of which d) UPPER_LIMIT → Blocks.Sound (block_of which d)
  block_sounds which most long place limits =
      block_from_parts
      (record {
        position = place;
        setpoint = rw (held_set_point d which most) at (row_within which SET_POINT (set_point_object most) (omega arith));
        settings =
            record {
              long = long;
              ranged = λ k h. rw (held_setting d which k most h) at (row_within which k (setting_object most h) (omega arith));
              uncrossed = limits;
            };
      })

  most : d.selected ≤ PRESSURE
  most = omega (arith, p.selected)

  -- every array has its length
  record Long : Type 0 where
    block : length d.block.settings ≡ SETTINGS
    other : length d.other.settings ≡ SETTINGS
    receive : length d.maps.receive.entries ≡ ENTRIES
    transmit : length d.maps.transmit.entries ≡ ENTRIES

  long : Long
  long =
      let both = and_split (length d.block.settings is SETTINGS && length d.other.settings is SETTINGS) _ w in
      let blocks = and_split (length d.block.settings is SETTINGS) (length d.other.settings is SETTINGS) both.0 in
      let maps = and_split (length d.maps.receive.entries is ENTRIES) (length d.maps.transmit.entries is ENTRIES) both.1 in
      record { block = eqb-true _ _ blocks.0; other = eqb-true _ _ blocks.1; receive = eqb-true _ _ maps.0; transmit = eqb-true _ _ maps.1 }

  uncrossed : (which : ℕ) → which ≤ PRESSURE → setting (block_of which d) LOWER_LIMIT ≤ℤ setting (block_of which d) UPPER_LIMIT
  uncrossed which h =
      by_cases (which is 0)
      (λ e. let both = limits_told d 0 (omega arith) in rw (eqb-true which 0 e) (omega (arith, ints, rw (both.0, both.1) at p.limits)))
      (λ e.
      let one : which ≡ 1 = omega (arith, eqb-false which 0 e) in
      let both = limits_told d 1 (omega arith) in
      rw one (omega (arith, ints, rw (both.0, both.1) at p.pressure_limits)))

  block_is_sound : Blocks.Sound d.block
  block_is_sound =
      rw (selected_block d) at (block_sounds d.selected most (rw (selected_block d) long.block) (rw (selected_block d) p.position) (uncrossed d.selected most))

  other_is_sound : Blocks.Sound d.other
  other_is_sound =
      let o = other_block d most in
      let zero : d.other.position ≡ pos 0 = =?-yes _ _ p.other in
      rw o at (block_sounds (other_of d.selected) (other_most d.selected) (rw o long.other) (rw (o, zero) (omega (arith, ints))) (uncrossed (other_of d.selected) (other_most d.selected)))

  dither_is_sound : Dithers.Sound d.dither
  unfolding objects
  dither_is_sound =
      let plain : (k : ℕ) → k ≤ SET_POINT → Object POSITION k = λ k h. record { row = omega arith; block = omega arith; own = λ e. absurd (omega (arith, e)) } in
      dither_from_parts
      (record {
        kind = rw (dither_type d) at (row_within POSITION DITHER_TYPE (plain DITHER_TYPE (omega arith)) (omega arith));
        amplitude = rw (dither_amplitude d) at (row_within POSITION DITHER_AMPLITUDE (plain DITHER_AMPLITUDE (omega arith)) (omega arith));
        frequency = rw (dither_frequency d) at (row_within POSITION DITHER_FREQUENCY (plain DITHER_FREQUENCY (omega arith)) (omega arith));
        phase = p.phase;
      })

  plain_is_sound : Sound d
  plain_is_sound =
      device_from_parts
      (record {
        known = is_state d.state p.state;
        fits = unfold error_fits in p.error;
        at_rest = unfold rests driven in p.rest;
        holds =
            record {
              selection = one_selected d most (=?-yes _ _ p.other);
              block = block_is_sound;
              other = other_is_sound;
              dither = dither_is_sound;
              mapped =
                  maps_both d.maps
                  (map_from_parts (sounds_map 0x1600 RECEIVABLE refl (receive_told d) long.receive p.receive))
                  (map_from_parts (sounds_map 0x1A00 SENDABLE refl (transmit_told d) long.transmit p.transmit));
            };
      })

pub told_sound : (d : Device) → sound (told_of d) ≡ true → Sound d
told_sound d s =
    by_cases (is_whole d)
    (λ w. plain_is_sound d w (sound_parts (plain_told d) (rw (plain_told_lem d w) at s)))
    (λ w. let none : (told_of d).state ≡ 4 = (unfold told_of in rw w) in absurd (omega (arith, rw none at (sound_parts (told_of d) s).state)))

pub sound_is : (d : Device) → sound_device d ≡ sound (told_of d)
sound_is d =
    by_cases (sound_device d)
    (λ e. e ∙ sym (sound_is_told (record { sound = e })))
    (λ e. e ∙ sym (by_cases (sound (told_of d)) (λ f. clash (told_sound d f).sound e) (λ f. f)))
