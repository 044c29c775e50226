-- What is told of something sound, by its parts, both ways; and what its lines say of each value.
use Rattle.std.specs.Prelude.{if◌then◌else◌}
use mathlib.Core.Bool.{Bool, true, not, ◌&&◌, ◌||◌}
use mathlib.Core.List.{List, [], ◌∷◌}
use mathlib.Core.Path.{◌≡◌, refl}
use Prim.Native.Nat.{ℕ, ◌<◌}
use borrow.Author.Tests.{eqb-true, ltb-true, lt-ltb}
use lib.IntN.{ℤ, pos}
use Rattle.integers.specs.Words.{minus, ◌is◌, ◌below◌, ◌=?◌, ◌≤?◌}
use Rattle.integers.specs.Range.{Within}
use Rattle.integers.proofs.Cases.{by_cases, clash}
use Rattle.integers.proofs.Each.{and_split, and_both}
use Rattle.objects.specs.Table.{lies_in}
use Rattle.objects.proofs.Rules.{lies_within, within_lies}
use Rattle.promises.specs.Library.{Told}
use Rattle.promises.specs.Sheet.{Line, sheet, line_in, line_at, is_held, in_range}
use Rattle.promises.specs.Valve.{driven}
use Rattle.promises.specs.Sdo.{sound_map}
use Rattle.promises.specs.Promises.{sound}

pub record SoundParts (t : Told) : Type 0 where
  pub state : t.state < 4
  pub ranged : in_range sheet t.value ≡ true
  pub limits : (t.value 0x6321 1 ≤? t.value 0x6320 1) ≡ true
  pub pressure_limits : (t.value 0x63A1 1 ≤? t.value 0x63A0 1) ≡ true
  pub position : Within (minus 1073741824) (pos 1073741824) t.position
  pub phase : t.phase < 4294967296
  pub rest : (driven t.state || (t.position =? pos 0 && t.phase is 0)) ≡ true
  pub error : (if t.state is 3 then not (t.error is 0) else t.error is 0) ≡ true
  pub receive : sound_map t 0x1600 ≡ true
  pub transmit : sound_map t 0x1A00 ≡ true
  pub selected : t.selected < 2
  pub other : (t.other =? pos 0) ≡ true

pub sound_parts : (t : Told) → sound t ≡ true → SoundParts t
unfolding sound
sound_parts t s =
    let selection = and_split _ (t.selected below 2 && t.other =? pos 0) s in
    let maps = and_split _ (sound_map t 0x1600 && sound_map t 0x1A00) selection.0 in
    let error = and_split _ (if t.state is 3 then not (t.error is 0) else t.error is 0) maps.0 in
    let rest = and_split _ (driven t.state || (t.position =? pos 0 && t.phase is 0)) error.0 in
    let phase = and_split _ (t.phase below 4294967296) rest.0 in
    let position = and_split _ (minus 1073741824 ≤? t.position && t.position ≤? pos 1073741824) phase.0 in
    let pressure = and_split _ (t.value 0x63A1 1 ≤? t.value 0x63A0 1) position.0 in
    let limits = and_split _ (t.value 0x6321 1 ≤? t.value 0x6320 1) pressure.0 in
    let ranged = and_split (t.state below 4) (in_range sheet t.value) limits.0 in
    let chosen = and_split (t.selected below 2) (t.other =? pos 0) selection.1 in
    let both = and_split (sound_map t 0x1600) (sound_map t 0x1A00) maps.1 in
    record {
      state = ltb-true _ _ ranged.0;
      ranged = ranged.1;
      limits = limits.1;
      pressure_limits = pressure.1;
      position = unfold lies_in in lies_within _ _ _ position.1;
      phase = ltb-true _ _ phase.1;
      rest = rest.1;
      error = error.1;
      receive = both.0;
      transmit = both.1;
      selected = ltb-true _ _ chosen.0;
      other = chosen.1;
    }

pub sound_from_parts : (t : Told) → SoundParts t → sound t ≡ true
unfolding sound lies_in
sound_from_parts t p =
    and_both
    (and_both
    (and_both
    (and_both
    (and_both
    (and_both (and_both (and_both (and_both (lt-ltb _ _ p.state) p.ranged) p.limits) p.pressure_limits) (within_lies p.position))
    (lt-ltb _ _ p.phase))
    p.rest)
    p.error)
    (and_both p.receive p.transmit))
    (and_both (lt-ltb _ _ p.selected) p.other)

-- ---- lines

-- the test of a line in `in_range`
abbrev pub fits_line : (ℕ → ℕ → ℤ) → Line → Bool
fits_line value l = not (is_held l) || (l.kind.low ≤? value l.index l.sub && value l.index l.sub ≤? l.kind.high)

-- what a held entry of the sheet has lies in its line's range
held_in_lines :
    (lines : List Line) (value : ℕ → ℕ → ℤ) (index sub : ℕ) → in_range lines value ≡ true → is_held (line_in lines index sub) ≡ true →
    Within (line_in lines index sub).kind.low (line_in lines index sub).kind.high (value index sub)
unfolding in_range lies_in
held_in_lines [] value index sub all h = clash h refl
held_in_lines (l ∷ lines) value index sub all h =
    let both = and_split (fits_line value l) (in_range lines value) all in
    by_cases (l.index is index && l.sub is sub)
    (λ e.
    let here = and_split (l.index is index) (l.sub is sub) e in
    rw (e, ← eqb-true l.index index here.0, ← eqb-true l.sub sub here.1) (lies_within _ _ _ (rw (rw e at h) at both.0)))
    (λ e. rw e (held_in_lines lines value index sub both.1 (rw e at h)))

pub held_in_range :
    (value : ℕ → ℕ → ℤ) (index sub : ℕ) → in_range sheet value ≡ true → is_held (line_at index sub) ≡ true →
    Within (line_at index sub).kind.low (line_at index sub).kind.high (value index sub)
held_in_range = held_in_lines sheet
