-- The stored image on our devices. The tagged lines are those of the rows of the stored settings, in their order: so what is stored, asked for and loaded
-- place by place is what the rules say line by line, by induction over the lines.
use mathlib.Core.Bool.{Bool, true, false, ◌&&◌, and-true, and_assoc}
use mathlib.Core.List.{List, [], ◌∷◌, ◌++◌, append-nil, append_assoc}
use mathlib.Core.Logic.{◌≢◌}
use mathlib.Core.Path.{◌≡◌, refl, sym, ap, ◌∙◌, fun_ext}
use Prim.Native.Nat.{ℕ, zero, suc, ◌+◌, ◌-◌, ◌≤◌, ◌<◌}
use native.Mathlib.Nat.{div-one, add-zero}
use native.Mathlib.Numerals.{add-one}
use native.Mathlib.Omega.{arith}
use borrow.Author.Tests.{eqb-true, eqb-false, eq-eqb, lt-ltb, le-ltb, ltb-true}
use lib.IntN.{ℤ}
use lib.ListN.{length, take, drop}
use lib.Seq.{get_or-drop, drop-drop}
use Rattle.integers.specs.Words.{each, ◌is◌, ◌below◌}
use Rattle.integers.proofs.Cases.{by_cases, by_test, by_less, clash}
use Rattle.integers.proofs.Each.{and_split, and_both, each_at}
use Rattle.objects.specs.Places.{LOWER_LIMIT, UPPER_LIMIT, SETTINGS, SET_POINT, SELECTION, POSITION, PRESSURE}
use Rattle.objects.specs.Table.{objects, is_signed, is_choice, row_at, lies_in, in_row}
use Rattle.objects.specs.Lookup.{index_of}
use Rattle.objects.specs.declared.Lock.{Lock}
use Rattle.objects.specs.declared.Lock.TheVariants.{Free, WhileActive, OutsideDisabled}
use Rattle.coding.specs.Bytes.{byte_at, two_bytes, four_bytes}
use Rattle.block.specs.Block.{at, with_settings}
use Rattle.block.specs.Sound.{sound_settings}
use Rattle.block.specs.declared.Block.{Block}
use Rattle.block.proofs.Sound.{block_parts}
use Rattle.image.specs.Fields as Fields
use Rattle.image.specs.Fields.{size_at, start, field_of, image_of}
use Rattle.image.specs.Load.{length_at, head_at, is_full, value_in_image, settings_in}
use Rattle.image.specs.Walk.{Found, end_at, walk_from, walk, part_of, begin_of, code_of}
use Rattle.image.proofs.Loaded.{values_length, value_at_lem}
use Rattle.device.specs.Device.{block_of, with_block_of}
use Rattle.device.specs.Sound.{Sound}
use Rattle.device.specs.declared.Device.{Device}
use Rattle.device.proofs.Laws.{block_of_sound, other_of_sound, receive_parts, transmit_parts}
use Rattle.device.proofs.Laws.{selected_most, block_of_same, block_of_other, block_of_position, with_block_of_beside, with_block_of_selected}
use Rattle.dictionary.specs.Named.{Named, value, byte, nothing, named}
use Rattle.dictionary.specs.Values.{value_at}
use Rattle.dictionary.specs.Decide.{is_locked}
use Rattle.dictionary.proofs.Laws.{InTable, named_in_table, each_object_is_named}
use Rattle.dictionary.proofs.Written.{value_of_setting}
use Rattle.rainsheave.specs.Calls as Calls
use Rattle.rainsheave.specs.Calls.{stored_settings}
use Rattle.promises.specs.Library.{Told, Reply, holding}
use Rattle.promises.specs.Sheet.{Line, sheet, in_range}
use Rattle.promises.specs.Sdo.{number_for, stands_for, low_first, two_from, four_from}
use Rattle.promises.specs.Sdo as Sdo
use Rattle.promises.specs.Image as Image
use Rattle.promises.specs.Image.{tagged, image, headed, full, fits, found, search_from}
use Rattle.kept.specs.Ours.{held_at, is_whole, told_of}
use Rattle.kept.proofs.Plain.{held_by, plain_told_lem, sound_told, held_told, setting_object}
use Rattle.kept.proofs.Lines.{Agrees, agrees, agreed, one_name, number_is, stands_is}

-- ---- laws of the layers

settings_length : (bytes : List ℕ) → length (settings_in bytes) ≡ SETTINGS
unfolding settings_in
settings_length bytes = values_length SETTINGS bytes

module _ (d : Device) (b : Block) (which : ℕ) where
  -- what holds of a block and of both of a device holds of both when it is put there
  both_with_block_of : (P : Block → Type 0) → P b → P d.block → P d.other → P (with_block_of which b d).block × P (with_block_of which b d).other
  unfolding with_block_of
  both_with_block_of P put one other =
      by_test (λ (e : Device). P e.block × P e.other) (d.selected is which) (λ e. (put, other)) (λ e. (one, put))

  -- a block put there at the same position leaves that of the other block
  other_of_position : b.position ≡ (block_of which d).position → (with_block_of which b d).other.position ≡ d.other.position
  unfolding block_of with_block_of
  other_of_position p = by_cases (d.selected is which) (λ e. simp e) (λ e. simp e (rw e at p))

-- ---- the tagged lines are the rows of the stored settings

-- the states in which a lock lets an object be written
abbrev states_of : Lock → List ℕ
states_of Free = 0 ∷ 1 ∷ 2 ∷ 3 ∷ []
states_of WhileActive = 0 ∷ 1 ∷ 3 ∷ []
states_of OutsideDisabled = 0 ∷ []

-- the line of a setting, as its row has it
abbrev line_of : ℕ → Line
line_of place =
    record {
      index = (row_at place).index;
      sub = (row_at place).sub;
      kind = record { bytes = (row_at place).size; signed = (row_at place).signed; low = (row_at place).low; high = (row_at place).high };
      fresh = (row_at place).fresh;
      writable = states_of (row_at place).lock;
    }

-- those of n settings from a place on
abbrev lines_from : ℕ → ℕ → List Line
lines_from place zero = []
lines_from place (suc n) = line_of place ∷ lines_from (suc place) n

tagged_are : tagged ≡ lines_from 0 SETTINGS
unfolding tagged sheet objects is_signed
tagged_are = refl

line_agrees : (place : ℕ) → place < SETTINGS → Agrees (line_of place) POSITION place
unfolding each objects is_signed is_choice is_locked
line_agrees place h = agreed (line_of place) POSITION place (each_at SETTINGS (λ k. agrees (line_of k) (value POSITION k)) place refl h)

-- its index and sub-index name it
is_named : (place : ℕ) → place < SETTINGS → named (row_at place).index (row_at place).sub ≡ value POSITION place
is_named place h =
    let own : index_of POSITION place ≡ (row_at place).index = omega arith in
    rw own at (each_object_is_named (setting_object {which = POSITION} (omega arith) h))

-- a test that goes on from line to line is that of each place
module _
    (test : ℕ → Bool) (rest : ℕ → ℕ → Bool) (none : (place : ℕ) → rest place 0 ≡ true)
    (next : (place n : ℕ) → place < SETTINGS → rest place (suc n) ≡ (test place && rest (suc place) n)) where
  each_from : (n place : ℕ) → place + n ≤ SETTINGS → (each place test && rest place n) ≡ each (place + n) test
  unfolding each
  each_from zero place h = rw (none place, and-true, add-zero)
  each_from (suc n) place h =
      let along : suc place + n ≡ place + suc n = omega arith in
      rw (next place n (omega arith), ← and_assoc, ← along) (each_from n (suc place) (omega arith))

  each_line : rest 0 SETTINGS ≡ each SETTINGS test
  unfolding each
  each_line = each_from SETTINGS 0 (omega arith)

-- ---- storing

field_is :
    (place : ℕ) → place < SETTINGS → (x : ℤ) →
    suc place ∷ (take 2 (low_first (size_at place)) ++ take (size_at place) (low_first (number_for (line_of place).kind x))) ≡ field_of place x
unfolding field_of two_bytes four_bytes
field_is place h x = simp (number_is (line_agrees place h) x, div-one, add-one)

-- some values have the settings by index and sub-index
abbrev Has : (ℕ → ℕ → ℤ) → List ℤ → Type 0
Has values settings = (place : ℕ) → place < SETTINGS → values (row_at place).index (row_at place).sub ≡ at settings place

module _ (settings : List ℤ) (t : Told) (has : Has t.value settings) where
  fields_are :
      (n place : ℕ) → place + n ≤ SETTINGS →
      Fields.fields place settings ++ Image.fields (suc place) (lines_from place n) t ≡ Fields.fields (place + n) settings
  unfolding Fields.fields Image.fields
  fields_are zero place h = rw (append-nil, add-zero)
  fields_are (suc n) place h =
      let rest = Image.fields (suc (suc place)) (lines_from (suc place) n) t in
      let along : suc place + n ≡ place + suc n = omega arith in
      let first = field_is place (omega arith) (t.value (row_at place).index (row_at place).sub) ∙ ap (field_of place) (has place (omega arith)) in
      ap (λ (field : List ℕ). Fields.fields place settings ++ (field ++ rest)) first
      ∙ sym (append_assoc (Fields.fields place settings) (field_of place (at settings place)) rest)
      ∙ fields_are n (suc place) (omega arith)
      ∙ ap (λ (m : ℕ). Fields.fields m settings) along

  image_is : image_of settings ≡ image t
  unfolding image_of image Fields.fields
  image_is = rw tagged_are (sym (fields_are SETTINGS 0 (omega arith)))

-- what is told of a device has those of the position block
setting_told : (d : Device) → Has (held_by d) (stored_settings d)
setting_told d place h = held_told d _ _ POSITION place (is_named place h) (omega arith) ∙ value_of_setting d POSITION place h

pub store_told : {d : Device} → Sound d → image_of (stored_settings d) ≡ image (told_of d)
unfolding told_of
store_told {d} s = image_is (stored_settings d) (told_of d) (setting_told d)

-- ---- full images

module _ (bytes : List ℕ) where
  head_is :
      (place : ℕ) →
      (Sdo.byte (drop (start place) bytes) 0 is suc place && two_from (drop (start place) bytes) 1 is size_at place) ≡ head_at bytes place
  unfolding head_at
  head_is place = simp (get_or-drop, add-zero, add-one)

  headed_is : headed 1 tagged bytes ≡ each SETTINGS (head_at bytes)
  unfolding headed start
  headed_is =
      rw tagged_are
      (each_line (head_at bytes) (λ place n. headed (suc place) (lines_from place n) (drop (start place) bytes)) (λ place. refl)
      (λ place n h. rw (drop-drop, head_is place)))

pub full_is : (bytes : List ℕ) → is_full bytes ≡ full bytes
unfolding is_full full
full_is bytes = rw (headed_is bytes)

-- ---- the values in an image

-- a setting has this index and sub-index
abbrev has_name : ℕ → ℕ → ℕ → Bool
has_name place index sub = (row_at place).index is index && (row_at place).sub is sub

-- so they name it
names : (place index sub : ℕ) → place < SETTINGS → has_name place index sub ≡ true → named index sub ≡ value POSITION place
names place index sub h e =
    let both = and_split ((row_at place).index is index) ((row_at place).sub is sub) e in
    rw (eqb-true (row_at place).index index both.0, eqb-true (row_at place).sub sub both.1) at (is_named place h)

own_name : (place : ℕ) → has_name place (row_at place).index (row_at place).sub ≡ true
own_name place = and_both (eq-eqb (row_at place).index _ refl) (eq-eqb (row_at place).sub _ refl)

-- no setting has them
abbrev Unnamed : ℕ → ℕ → Type 0
Unnamed index sub = (place : ℕ) → place < SETTINGS → has_name place index sub ≡ false

module _ (bytes : List ℕ) (old : ℕ → ℕ → ℤ) where
  value_is : (place : ℕ) → place < SETTINGS → stands_for (line_of place).kind (four_from (drop (start place) bytes) 3) ≡ value_in_image bytes place
  unfolding value_in_image
  value_is place h =
      let b : start place + 3 + 1 ≡ start place + 4 = omega arith in
      let c : start place + 3 + 2 ≡ start place + 5 = omega arith in
      let e : start place + 3 + 3 ≡ start place + 6 = omega arith in
      rw (stands_is (line_agrees place h), b, c, e) (simp get_or-drop)

  -- what is named by a line has the value in its field
  value_in_field :
      (place : ℕ) → place < SETTINGS → (n from : ℕ) → from ≤ place → place < from + n → from + n ≤ SETTINGS →
      Image.values_in (lines_from from n) (drop (start from) bytes) old (row_at place).index (row_at place).sub ≡ value_in_image bytes place
  unfolding Image.values_in start
  value_in_field place h zero from k l m = absurd (omega arith)
  value_in_field place h (suc n) from k l m =
      by_cases (has_name from (row_at place).index (row_at place).sub)
      (λ e.
      let same : value POSITION from ≡ value POSITION place = sym (names from _ _ (omega arith) e) ∙ is_named place h in
      let q : from ≡ place = cc in
      rw e (value_is from (omega arith) ∙ ap (value_in_image bytes) q))
      (λ e.
      let past : from ≢ place = λ q. clash (own_name place) (rw q at e) in
      rw (e, drop-drop) (value_in_field place h n (suc from) (omega arith) (omega arith) (omega arith)))

  -- any other is kept
  value_kept :
      (index sub : ℕ) → Unnamed index sub → (n from : ℕ) → from + n ≤ SETTINGS → (rest : List ℕ) →
      Image.values_in (lines_from from n) rest old index sub ≡ old index sub
  unfolding Image.values_in
  value_kept index sub none zero from h rest = refl
  value_kept index sub none (suc n) from h rest = rw (none from (omega arith)) (value_kept index sub none n (suc from) (omega arith) _)

  loaded_setting : Has (Image.values_in tagged bytes old) (settings_in bytes)
  unfolding settings_in start
  loaded_setting place h =
      rw (tagged_are, value_at_lem SETTINGS place bytes h) (value_in_field place h SETTINGS 0 (omega arith) (omega arith) (omega arith))

  loaded_other : (index sub : ℕ) → Unnamed index sub → Image.values_in tagged bytes old index sub ≡ old index sub
  loaded_other index sub none = rw tagged_are (value_kept index sub none SETTINGS 0 (omega arith) bytes)

-- ---- values that fit

ranges_are :
    (settings : List ℤ) (values : ℕ → ℕ → ℤ) → Has values settings →
    in_range tagged values ≡ each SETTINGS (λ place. in_row (row_at place) (at settings place))
unfolding in_range lies_in
ranges_are settings values has =
    rw tagged_are
    (each_line (λ place. in_row (row_at place) (at settings place)) (λ place n. in_range (lines_from place n) values) (λ place. refl)
    (λ place n h. rw ((line_agrees place h).held, lt-ltb place SELECTION (omega arith), has place h)))

pub fits_is : {d : Device} → Sound d → (bytes : List ℕ) → sound_settings (settings_in bytes) ≡ fits bytes (told_of d)
unfolding sound_settings fits objects
fits_is {d} s bytes =
    let has = loaded_setting bytes (told_of d).value in
    rw (settings_length bytes, ranges_are (settings_in bytes) _ has, has LOWER_LIMIT (omega arith), has UPPER_LIMIT (omega arith))

-- ---- loading

-- a value of the position block's settings
abbrev is_stored : Named → Bool
is_stored (value which place) = which is POSITION && place below SETTINGS
is_stored (byte number) = false
is_stored (nothing abort) = false

by_stored {ℓ} : (n : Named) {X : Type ℓ} → ((place : ℕ) → place < SETTINGS → n ≡ value POSITION place → X) → (is_stored n ≡ false → X) → X
by_stored (value which place) f g =
    by_cases (which is POSITION && place below SETTINGS)
    (λ e.
    let both = and_split (which is POSITION) (place below SETTINGS) e in
    f place (ltb-true _ _ both.1) (rw (eqb-true which POSITION both.0)))
    g
by_stored (byte number) f g = g refl
by_stored (nothing abort) f g = g refl

module _ {d : Device} (s : Sound d) (settings : List ℤ) where
  abbrev after : Device
  after = Calls.loaded settings d

  -- the settings are those; the other block, and the set points, are kept
  settings_loaded : stored_settings after ≡ settings
  settings_loaded = ap (λ (b : Block). b.settings) (block_of_same d (with_settings settings (block_of POSITION d)) POSITION)

  other_block_kept : (which : ℕ) → which ≤ PRESSURE → which ≢ POSITION → block_of which after ≡ block_of which d
  other_block_kept which h n = block_of_other d _ POSITION which n (selected_most s) h (omega arith)

  set_point_kept : (which : ℕ) → which ≤ PRESSURE → (block_of which after).setpoint ≡ (block_of which d).setpoint
  set_point_kept which h =
      by_cases (which is POSITION)
      (λ e. rw (eqb-true which POSITION e, block_of_same))
      (λ e. rw (other_block_kept which h (eqb-false which POSITION e)))

  later_kept : (which place : ℕ) → which ≤ PRESSURE → SETTINGS ≤ place → place < SELECTION → value_at after which place ≡ value_at d which place
  unfolding value_at
  later_kept which place w l h =
      let beside = with_block_of_beside POSITION (with_settings settings (block_of POSITION d)) d in
      by_less place SET_POINT
      (λ m. rw (le-ltb place SETTINGS l, lt-ltb place SET_POINT m, beside.dither, beside.maps))
      (λ m. let e : place ≡ SET_POINT = omega arith in rw e (set_point_kept which w))

  held_kept : (n : Named) → InTable n → is_stored n ≡ false → held_at after n ≡ held_at d n
  held_kept (value which place) o e =
      by_less place SELECTION
      (λ h. rw (lt-ltb place SELECTION h)
      (by_less place SETTINGS
      (λ l.
      let n : which ≢ POSITION = λ q. clash (and_both (eq-eqb which POSITION q) (lt-ltb place SETTINGS l)) e in
      rw (value_of_setting after which place l, value_of_setting d which place l, other_block_kept which o.block n))
      (λ l. later_kept which place o.block l h)))
      (λ h. rw (le-ltb place SELECTION h))
  held_kept (byte number) o e = refl
  held_kept (nothing abort) o e = refl

  after_whole : length settings ≡ SETTINGS → is_whole after ≡ true
  after_whole long =
      let put = with_settings settings (block_of POSITION d) in
      let one = (block_parts (block_of_sound s)).settings.long in
      let other = (block_parts (other_of_sound s)).settings.long in
      let both = both_with_block_of d put POSITION (λ (b : Block). length b.settings ≡ SETTINGS) long one other in
      rw (both.0, both.1, (with_block_of_beside POSITION put d).maps, (receive_parts s).long, (transmit_parts s).long)

held_loaded :
    {d : Device} → Sound d → (bytes : List ℕ) (index sub : ℕ) →
    held_by (Calls.loaded (settings_in bytes) d) index sub ≡ Image.values_in tagged bytes (held_by d) index sub
held_loaded {d} s bytes index sub =
    by_stored (named index sub)
    (λ place h e.
    let own = one_name index sub (row_at place).index (row_at place).sub POSITION place e (is_named place h) in
    rw (own.0, own.1)
    (setting_told (Calls.loaded (settings_in bytes) d) place h
    ∙ ap (λ (l : List ℤ). at l place) (settings_loaded s (settings_in bytes))
    ∙ sym (loaded_setting bytes (held_by d) place h)))
    (λ e.
    held_kept s (settings_in bytes) (named index sub) (named_in_table index sub) e
    ∙ sym (loaded_other bytes (held_by d) index sub
    (λ place h. by_cases (has_name place index sub) (λ f. clash (rw (names place index sub h f, lt-ltb place SETTINGS h)) e) (λ f. f))))

pub load_told :
    {d : Device} → Sound d → (bytes : List ℕ) →
    told_of (Calls.loaded (settings_in bytes) d) ≡ holding (told_of d).selected (Image.loaded bytes (told_of d)) (told_of d)
load_told {d} s bytes =
    let after = Calls.loaded (settings_in bytes) d in
    let put = with_settings (settings_in bytes) (block_of POSITION d) in
    let beside = with_block_of_beside POSITION put d in
    plain_told_lem after (after_whole s (settings_in bytes) (settings_length bytes))
    ∙ rw (sound_told s)
    (λ i.
    record {
      state = beside.state i;
      control = beside.control i;
      error = beside.error i;
      selected = with_block_of_selected POSITION put d i;
      position = block_of_position d put POSITION refl i;
      other = other_of_position d put POSITION refl i;
      phase = (beside.dither i).phase;
      value = fun_ext (λ index. fun_ext (λ sub. held_loaded s bytes index sub)) i;
    })

-- ---- searching

abbrev seen : List ℕ → Found → Reply
seen bytes w = found (code_of w) (begin_of w) (part_of bytes w)

walk_told : (fields : ℕ) (bytes : List ℕ) (tag k : ℕ) → seen bytes (walk_from fields bytes tag k) ≡ search_from fields bytes tag k
unfolding walk_from search_from
walk_told zero bytes tag k = refl
walk_told (suc fields) bytes tag k =
    let second : k + 1 + 1 ≡ k + 2 = omega arith in
    let size : end_at bytes k - (k + 3) ≡ length_at bytes k = omega arith in
    rw second
    (by_cases (length bytes below (k + 1)) (λ a. rw a)
    (λ a. by_cases (length bytes below (k + 3)) (λ b. rw (a, b))
    (λ b. by_cases (length bytes below end_at bytes k) (λ c. rw (a, b, c))
    (λ c. by_cases (byte_at bytes k is tag) (λ e. rw (a, b, c, e, size)) (λ e. rw (a, b, c, e) (walk_told fields bytes tag (end_at bytes k)))))))

pub search_told :
    (bytes : List ℕ) (tag : ℕ) →
    found (code_of (walk bytes tag)) (begin_of (walk bytes tag)) (part_of bytes (walk bytes tag)) ≡ Image.search bytes tag
unfolding walk Image.search
search_told bytes tag = walk_told (suc (length bytes)) bytes tag 0
