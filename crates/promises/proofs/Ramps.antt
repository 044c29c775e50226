-- The ramp of what is told of a state: a tick and the ticks to go of the rules are those of the ramp's layer, word by word; a sound state has a
-- sound ramp with target and position within full stroke; and ticks change nothing of a sound state but position and phase, and leave it sound.
use mathlib.Core.Bool.{Bool, true, false, ◌&&◌}
use mathlib.Core.Path.{◌≡◌, refl, ap, ◌∙◌}
use Prim.Native.Nat.{ℕ, zero, suc, ◌+◌, ◌*◌, ◌/◌, ◌%◌, ◌<◌}
use native.Mathlib.Nat.{mod-lt}
use native.Mathlib.Omega.{arith}
use borrow.Author.Tests.{eqb-true, eqb-false}
use lib.IntN.{ℤ, pos, nat_abs, ◌-ℤ◌}
use Rattle.integers.specs.Words.{minus, ◌is◌, ◌below◌, ◌=?◌}
use Rattle.integers.specs.Range.{Within}
use Rattle.integers.proofs.Cases.{by_cases}
use Rattle.integers.proofs.Each.{and_split}
use Rattle.integers.proofs.Linear.{ints, abs_nat, sub_nat}
use Rattle.integers.proofs.Machine.{=?-yes}
use Rattle.integers.proofs.Range.{around, size, times, exactly}
use Rattle.objects.specs.Numbers.{FULL_POSITION}
use Rattle.objects.specs.Table.{objects}
use Rattle.ramp.specs.Ramp as Ramp
use Rattle.ramp.specs.Ramp.{side_of, distance, Inside, Way}
use Rattle.ramp.specs.Demand.{Demand3}
use Rattle.ramp.specs.declared.Ramp.{Ramp}
use Rattle.ramp.proofs.Demand.{demand3}
use Rattle.block.specs.Target.{clamp_to, clamp_to_stroke}
use Rattle.block.proofs.Laws.{stroke_within}
use Rattle.promises.specs.Library.{Told, moved}
use Rattle.promises.specs.Sheet.{sheet, line_at, is_held}
use Rattle.promises.specs.Valve.{driven, selected, clamp, target, target_position, away_time, toward_time, step_of, opposite, step_from, halts, stepped}
use Rattle.promises.specs.Valve.{ticked, tick, ticks, rounded_up, ticks_to_go}
use Rattle.promises.specs.Sdo.{sound_map}
use Rattle.promises.specs.Promises.{sound}
use Rattle.promises.proofs.SoundTold.{sound_parts, sound_from_parts, held_in_range}

-- ---- the ramp that is told, and the rules' words as the layer's

abbrev pub ramp_told : Told → Ramp
ramp_told t =
    record {
      kind = selected t 0x6330 0;
      acceleration = record { one = selected t 0x6331 1; positive = selected t 0x6332 1; negative = selected t 0x6333 1 };
      deceleration = record { one = selected t 0x6334 1; positive = selected t 0x6335 1; negative = selected t 0x6336 1 };
    }

pub step_is : (t : Told) (p : ℤ) → step_from t p ≡ Ramp.stride (ramp_told t) (target_position t) p
unfolding step_from away_time toward_time step_of opposite Ramp.stride Ramp.decelerates Ramp.opposite Ramp.away_time Ramp.back_time Ramp.step_of side_of
step_is t p = refl

pub halts_is : (t : Told) (p : ℤ) → halts t p ≡ Ramp.halts (ramp_told t) (target_position t) p
unfolding halts opposite Ramp.halts Ramp.opposite
halts_is t p = refl

pub stepped_is : (g : ℤ) (m : ℕ) (p : ℤ) → stepped g m p ≡ Ramp.moved g m p
unfolding stepped Ramp.moved Ramp.toward distance
stepped_is g m p = by_cases (m below nat_abs (p -ℤ g)) (λ e. rw e) (λ e. rw e)

pub ticked_is : (t : Told) → ticked t ≡ Ramp.tick_of (ramp_told t) (target_position t) t.position
unfolding ticked Ramp.tick_of Ramp.stop
ticked_is t =
    by_cases (selected t 0x6330 0 =? pos 0)
    (λ e. rw e)
    (λ e. rw (e, ← halts_is t t.position, ← step_is t t.position) (stepped_is _ _ _))

-- ---- ticks to go

from_zero : (p : ℤ) → distance p (pos 0) ≡ nat_abs p
unfolding distance
from_zero p = omega (arith, ints, abs_nat p, abs_nat (p -ℤ pos 0), sub_nat p (pos 0))

to_zero : (p : ℤ) → distance (pos 0) p ≡ nat_abs p
unfolding distance
to_zero p = omega (arith, ints, abs_nat p, abs_nat (pos 0 -ℤ p), sub_nat (pos 0) p)

rounded_is : (d s : ℕ) → rounded_up d s ≡ Ramp.rounded_up d s
unfolding rounded_up Ramp.rounded_up
rounded_is d s = refl

pub to_zero_is : (t : Told) (p : ℤ) → rounded_up (nat_abs p) (step_from t p) ≡ Ramp.ticks_to_zero (ramp_told t) (target_position t) p
unfolding Ramp.ticks_to_zero
to_zero_is t p = rw (from_zero p, step_is t p) (rounded_is _ _)

pub to_go_is : (t : Told) → driven t.state ≡ true → ticks_to_go t ≡ Ramp.ticks_to_go (ramp_told t) (target_position t) t.position
unfolding ticks_to_go Ramp.ticks_to_go
to_go_is t k =
    let p = t.position in
    let g = target_position t in
    rw k (by_cases (p =? g) (λ e. rw e)
    (λ e. rw e (by_cases (selected t 0x6330 0 =? pos 0) (λ f. rw f)
    (λ f. rw (f, ← halts_is t p) (by_cases (halts t p)
    (λ h. rw (h, ← to_zero_is t p, to_zero g, ← step_is t (pos 0)) (ap (λ n. rounded_up (nat_abs p) (step_from t p) + n) (rounded_is _ _)))
    (λ h. rw (h, ← step_is t p) (unfold distance in rounded_is _ _)))))))

-- ---- a sound state has a sound ramp

-- a line that is held, with this range
spans : ℕ → ℕ → ℤ → ℤ → Bool
spans index sub low high =
    let l = line_at index sub in is_held l && (l.kind.low =? low && l.kind.high =? high)

spans_within : (t : Told) → sound t ≡ true → (index sub : ℕ) (low high : ℤ) → spans index sub low high ≡ true → Within low high (t.value index sub)
unfolding spans
spans_within t e index sub low high f =
    let l = line_at index sub in
    let a = and_split (is_held l) (l.kind.low =? low && l.kind.high =? high) f in
    let b = and_split (l.kind.low =? low) (l.kind.high =? high) a.1 in
    rw (← =?-yes l.kind.low low b.0, ← =?-yes l.kind.high high b.1) (held_in_range t.value index sub (sound_parts t e).ranged a.0)

clamp_within : (x : ℤ) → Within (minus 16384) (pos 16384) (clamp (minus 16384) (pos 16384) x)
unfolding clamp clamp_to_stroke clamp_to
clamp_within x = stroke_within x

module _ (t : Told) (e : sound t ≡ true) where
  -- a value of the selected block lies in the range that it has in both
  selected_within :
      (index sub : ℕ) (low high : ℤ) → spans (index + 0) sub low high ≡ true → spans (index + 0x80) sub low high ≡ true
      → Within low high (selected t index sub)
  selected_within index sub low high one other =
      by_cases (t.selected is 0)
      (λ f. rw (eqb-true t.selected 0 f) (spans_within t e (index + 0) sub low high one))
      (λ f. rw (is_one f) (spans_within t e (index + 0x80) sub low high other))
    where
      is_one : (t.selected is 0) ≡ false → t.selected ≡ 1
      is_one f = let n = eqb-false t.selected 0 f in let b = (sound_parts t e).selected in omega arith

  pub target_within : Within (minus 16384) (pos 16384) (target t)
  unfolding target
  target_within = clamp_within _

  pub way : Way (ramp_told t) (target_position t) t.position
  unfolding spans sheet objects
  way =
      let time : (index : ℕ) → spans (index + 0) 1 (pos 0) (pos 3600000) ≡ true → spans (index + 0x80) 1 (pos 0) (pos 3600000) ≡ true
      → Within (pos 0) (pos 3600000) (selected t index 1) = λ index. selected_within index 1 (pos 0) (pos 3600000) in
      record {
        ramp = record {
          kind = selected_within 0x6330 0 (pos 0) (pos 3) refl refl;
          acceleration = record { one = time 0x6331 refl refl; positive = time 0x6332 refl refl; negative = time 0x6333 refl refl };
          deceleration = record { one = time 0x6334 refl refl; positive = time 0x6335 refl refl; negative = time 0x6336 refl refl };
        };
        target = record { inside = size (times target_within (exactly (pos 65536))) };
        position = record { inside = size (sound_parts t e).position };
      }

  -- demand 3 of the ramp
  pub ramp_demand3 : Demand3 (ramp_told t) (target_position t) t.position
  ramp_demand3 = demand3 way

  -- in DISABLED and FAULT the position is 0
  pub at_rest : driven t.state ≡ false → t.position ≡ pos 0
  at_rest k =
      let both = rw k at (sound_parts t e).rest in
      =?-yes t.position (pos 0) (and_split (t.position =? pos 0) (t.phase is 0) both).0

  -- a position within full stroke and a phase of 32 bits leave a state in HOLD or ACTIVE sound
  pub still_sound :
      driven t.state ≡ true → (p : ℤ) (phase : ℕ) → Inside p → phase < 4294967296
      → sound (moved t.state t.control t.error p phase t) ≡ true
  unfolding sound_map
  still_sound k p phase inside bound =
      let s = sound_parts t e in
      sound_from_parts (moved t.state t.control t.error p phase t) (record {
        state = s.state;
        ranged = s.ranged;
        limits = s.limits;
        pressure_limits = s.pressure_limits;
        position = around p FULL_POSITION inside.inside;
        phase = bound;
        rest = rw k;
        error = s.error;
        receive = s.receive;
        transmit = s.transmit;
        selected = s.selected;
        other = s.other;
      })

-- ---- ticks change nothing but position and phase, and leave a sound state sound

next_phase : Told → ℕ → ℕ
next_phase t phase = (phase + nat_abs (t.value 0x6362 1) * 4294967296 / 1000) % 4294967296

pub phase_after : ℕ → Told → ℕ
phase_after zero t = t.phase
phase_after (suc n) t = next_phase t (phase_after n t)

module _ (t : Told) (k : driven t.state ≡ true) where
  -- what is told at another position and phase
  at : ℤ → ℕ → Told
  at p phase = moved t.state t.control t.error p phase t

  tick_at : (p : ℤ) (phase : ℕ) → tick (at p phase) ≡ at (Ramp.tick_of (ramp_told t) (target_position t) p) (next_phase t phase)
  unfolding at tick target next_phase
  tick_at p phase = rw k (ap (λ q. at q (next_phase t phase)) (ticked_is (at p phase)))

  pub ticks_move :
      (n : ℕ)
      → ticks n t ≡ moved t.state t.control t.error (Ramp.ticked (ramp_told t) (target_position t) t.position n) (phase_after n t) t
  unfolding at ticks Ramp.ticked phase_after
  ticks_move zero = refl
  ticks_move (suc n) = ap tick (ticks_move n) ∙ tick_at _ _

pub ticks_rest : (t : Told) → driven t.state ≡ false → (n : ℕ) → ticks n t ≡ t
unfolding ticks tick
ticks_rest t k zero = refl
ticks_rest t k (suc n) = ap tick (ticks_rest t k n) ∙ rw k

phase_below : (t : Told) → t.phase < 4294967296 → (n : ℕ) → phase_after n t < 4294967296
unfolding phase_after next_phase
phase_below t bound zero = bound
phase_below t bound (suc n) = mod-lt _ (omega arith)

pub ticks_sound : (t : Told) → sound t ≡ true → (n : ℕ) → sound (ticks n t) ≡ true
ticks_sound t e n =
    by_cases (driven t.state)
    (λ k. rw (ticks_move t k n)
    (still_sound t e k _ _ (rw ((ramp_demand3 t e).formula n) ((ramp_demand3 t e).stays n)) (phase_below t (sound_parts t e).phase n)))
    (λ k. rw (ticks_rest t k n) e)
