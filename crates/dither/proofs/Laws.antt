-- What stands where after a write; a sound dither by its parts, both ways; the phase after n ticks, which is a jump's; the wave, which lies within the amplitude.
use Rattle.std.proofs.Common.{◌≡◌, ℕ, zero, suc, ◌+◌, ◌*◌, ◌/◌, ◌%◌, ◌<◌, ◌≤◌, false, ◌&&◌, ltb, ◌≢◌, ℤ, pos, negsuc, ◌-ℤ◌, neg_ℤ, nat_abs, sym, refl, ap, ◌∙◌, mod-lt, mod-eq_of_lt, mul-le-mul_left, arith, ltb-false, ltb-true, lt-ltb}
use native.Mathlib.Nat.{mod-add-mod}
use Rattle.integers.specs.Words.{minus, ◌over◌, ◌is◌, ◌=?◌, ◌below◌}
use Rattle.integers.specs.Range.{Within}
use Rattle.integers.proofs.Linear.{ints, abs_nat, abs_neg, abs_mul, neg_nat, sub_nat}
use Rattle.integers.proofs.Cases.{by_cases, by_test}
use Rattle.integers.proofs.Each.{and_split, and_both}
use Rattle.objects.specs.Places.{DITHER_TYPE, DITHER_AMPLITUDE, DITHER_FREQUENCY}
use Rattle.objects.specs.Table.{objects, row_at, lies_in, in_row, InRange}
use Rattle.objects.proofs.Rules.{lies_within, within_lies}
use Rattle.dither.specs.Dither.{stands_at, with_at, at_phase, fresh_dither}
use Rattle.dither.specs.Phase.{PHASES, increment, advanced, tick_dither, tick_dither_times, jump_dither}
use Rattle.dither.specs.Wave.{square, height, triangle, dither_of}
use Rattle.dither.specs.Sound.{sound_dither, Sound}
use Rattle.dither.specs.declared.Dither.{Dither}

-- what holds of each of the three places holds of a place below three
by_three : (P : ℕ → Type 0) (k : ℕ) → k < 3 → P 0 → P 1 → P 2 → P k
by_three P zero l a b c = a
by_three P (suc zero) l a b c = b
by_three P (suc (suc zero)) l a b c = c
by_three P (suc (suc (suc k))) l a b c = absurd (omega arith)

-- ---- a write

-- what was written stands there
pub at_written : (k : ℕ) (x : ℤ) (h : Dither) → stands_at (with_at k x h) k ≡ x
unfolding stands_at with_at
at_written k x h = by_cases (k is 0) (λ e. rw e) (λ e. by_cases (k is 1) (λ f. rw (e, f)) (λ f. rw (e, f)))

-- and the two others as before
pub at_others : (k j : ℕ) (x : ℤ) (h : Dither) → k < 3 → j < 3 → j ≢ k → stands_at (with_at k x h) j ≡ stands_at h j
unfolding stands_at with_at
at_others k j x h p q =
    by_three (λ k. j ≢ k → stands_at (with_at k x h) j ≡ stands_at h j) k p
    (by_three (λ j. j ≢ 0 → stands_at (with_at 0 x h) j ≡ stands_at h j) j q (λ n. absurd (n refl)) (λ n. refl) (λ n. refl))
    (by_three (λ j. j ≢ 1 → stands_at (with_at 1 x h) j ≡ stands_at h j) j q (λ n. refl) (λ n. absurd (n refl)) (λ n. refl))
    (by_three (λ j. j ≢ 2 → stands_at (with_at 2 x h) j ≡ stands_at h j) j q (λ n. refl) (λ n. refl) (λ n. absurd (n refl)))

-- a write leaves the phase
pub written_phase : (k : ℕ) (x : ℤ) (h : Dither) → (with_at k x h).phase ≡ h.phase
unfolding with_at
written_phase k x h = by_test Same (k is 0) (λ e. refl) (λ e. by_test Same (k is 1) (λ e. refl) (λ e. refl))
  where
    Same : Dither → Type 0
    Same g = g.phase ≡ h.phase

-- ---- soundness

pub record Parts (h : Dither) : Type 0 where
  pub kind : InRange DITHER_TYPE h.kind
  pub amplitude : InRange DITHER_AMPLITUDE h.amplitude
  pub frequency : InRange DITHER_FREQUENCY h.frequency
  pub phase : h.phase < PHASES

pub dither_parts : {h : Dither} → Sound h → Parts h
unfolding sound_dither
dither_parts {h} s =
    let kind = in_row (row_at DITHER_TYPE) h.kind in
    let amplitude = in_row (row_at DITHER_AMPLITUDE) h.amplitude in
    let abc = and_split (kind && amplitude && in_row (row_at DITHER_FREQUENCY) h.frequency) (h.phase below PHASES) s.sound in
    let ab = and_split (kind && amplitude) (in_row (row_at DITHER_FREQUENCY) h.frequency) abc.0 in
    let a = and_split kind amplitude ab.0 in
    record {
      kind = lies_within _ _ _ a.0;
      amplitude = lies_within _ _ _ a.1;
      frequency = lies_within _ _ _ ab.1;
      phase = ltb-true h.phase PHASES abc.1;
    }

pub dither_from_parts : {h : Dither} → Parts h → Sound h
unfolding sound_dither
dither_from_parts {h} p =
    record { sound = and_both (and_both (and_both (within_lies p.kind) (within_lies p.amplitude)) (within_lies p.frequency)) (lt-ltb h.phase PHASES p.phase) }

pub fresh_sound : Sound fresh_dither
unfolding objects lies_in fresh_dither sound_dither
fresh_sound = record { sound = refl }

-- a dither at another phase of 32 bits is sound
pub at_phase_sound : {h : Dither} {phase : ℕ} → Sound h → phase < PHASES → Sound (at_phase phase h)
at_phase_sound s l = let p = dither_parts s in dither_from_parts (record { kind = p.kind; amplitude = p.amplitude; frequency = p.frequency; phase = l })

-- and so is one with another value in the range of its row
pub written_sound : {h : Dither} → Sound h → (k : ℕ) (x : ℤ) → k < 3 → InRange (DITHER_TYPE + k) x → Sound (with_at k x h)
unfolding with_at
written_sound {h} s k x l =
    let p = dither_parts s in
    by_three (λ k. InRange (DITHER_TYPE + k) x → Sound (with_at k x h)) k l
    (λ w. dither_from_parts (record { kind = w; amplitude = p.amplitude; frequency = p.frequency; phase = p.phase }))
    (λ w. dither_from_parts (record { kind = p.kind; amplitude = w; frequency = p.frequency; phase = p.phase }))
    (λ w. dither_from_parts (record { kind = p.kind; amplitude = p.amplitude; frequency = w; phase = p.phase }))

-- each value of a sound dither is in the range of its row
pub stands_within : {h : Dither} → Sound h → (k : ℕ) → k < 3 → InRange (DITHER_TYPE + k) (stands_at h k)
unfolding stands_at
stands_within {h} s k l =
    let p = dither_parts s in
    by_three (λ k. InRange (DITHER_TYPE + k) (stands_at h k)) k l p.kind p.amplitude p.frequency

-- ---- the phase

-- n times an increment on, and then k times, is n + k times: what ran over the end before makes no difference
pub times_add : (phase increment n k : ℕ) → advanced (advanced phase (n * increment)) (k * increment) ≡ advanced phase ((n + k) * increment)
unfolding advanced
times_add phase increment n k = mod-add-mod (phase + n * increment) PHASES (k * increment) ∙ ap (λ (j : ℕ). j % PHASES) (omega arith)

advanced_below : (phase by : ℕ) → advanced phase by < PHASES
unfolding advanced
advanced_below phase by = mod-lt _ (omega arith)

-- a jump of m and then one of n is a jump of m + n
pub jumps_add : (m n : ℕ) (h : Dither) → jump_dither n (jump_dither m h) ≡ jump_dither (m + n) h
unfolding jump_dither increment
jumps_add m n h = ap (λ (phase : ℕ). at_phase phase h) (times_add h.phase (increment h) m n)

-- a tick is a jump of one, and a jump of none changes nothing
tick_is_a_jump : (h : Dither) → tick_dither h ≡ jump_dither 1 h
unfolding tick_dither jump_dither
tick_is_a_jump h = ap (λ (by : ℕ). at_phase (advanced h.phase by) h) (omega arith)

jump_of_none : {h : Dither} → Sound h → jump_dither 0 h ≡ h
unfolding jump_dither advanced
jump_of_none {h} s = ap (λ (phase : ℕ). at_phase phase h) (ap (λ (k : ℕ). k % PHASES) (omega arith) ∙ mod-eq_of_lt (dither_parts s).phase)

-- n single ticks are a jump of n
pub ticks_are_a_jump : {h : Dither} → Sound h → (n : ℕ) → tick_dither_times n h ≡ jump_dither n h
unfolding tick_dither_times
ticks_are_a_jump s zero = sym (jump_of_none s)
ticks_are_a_jump {h} s (suc n) = ap tick_dither (ticks_are_a_jump s n) ∙ tick_is_a_jump (jump_dither n h) ∙ jumps_add n 1 h ∙ ap (λ (k : ℕ). jump_dither k h) (omega arith)

pub jump_sound : {h : Dither} → Sound h → (n : ℕ) → Sound (jump_dither n h)
unfolding jump_dither
jump_sound {h} s n = at_phase_sound s (advanced_below h.phase (n * increment h))

pub tick_sound : {h : Dither} → Sound h → Sound (tick_dither h)
unfolding tick_dither
tick_sound {h} s = at_phase_sound s (advanced_below h.phase (increment h))

-- at most a quarter of a period is added
pub increment_most : {h : Dither} → Sound h → increment h ≤ 1073741824
unfolding increment objects
increment_most {h} s = let f = (dither_parts s).frequency in omega (arith, ints, abs_nat h.frequency)

-- ---- the wave

abs_over : (z : ℤ) (n : ℕ) → nat_abs (z over n) ≡ nat_abs z / n
abs_over (pos k) n = refl
abs_over (negsuc k) n = abs_neg (pos (suc k / n))

-- from one end of a period to the other the triangle is never higher than its crest
pub height_most : (x : ℕ) → x ≤ 65536 → nat_abs (height x) ≤ 16384
unfolding height
height_most x l =
    by_test (λ (z : ℤ). nat_abs z ≤ 16384) (ltb x 16384) (λ e. omega (arith, ltb-true x 16384 e))
    (λ e. by_test (λ (z : ℤ). nat_abs z ≤ 16384) (ltb x 49152)
    (λ f. omega (arith, le_of e, ltb-true x 49152 f, sub_nat (pos 32768) (pos x), abs_nat (pos 32768 -ℤ pos x)))
    (λ f. omega (arith, le_of f, sub_nat (pos x) (pos 65536), abs_nat (pos x -ℤ pos 65536))))
  where
    le_of : {m : ℕ} → ltb x m ≡ false → m ≤ x
    le_of = ltb-false x _

square_most : (a : ℤ) (phase : ℕ) → nat_abs (square a phase) ≤ nat_abs a
unfolding square
square_most a phase = by_test (λ (z : ℤ). nat_abs z ≤ nat_abs a) (phase below 2147483648) (λ e. omega arith) (λ e. omega (arith, abs_neg a))

triangle_most : (a : ℤ) (phase : ℕ) → phase < PHASES → nat_abs (triangle a phase) ≤ nat_abs a
unfolding triangle
triangle_most a phase l =
    let x = phase / 65536 in
    let m : nat_abs a * nat_abs (height x) ≤ nat_abs a * 16384 = mul-le-mul_left (nat_abs a) (height_most x (omega arith)) in
    rw (abs_over, abs_mul) (omega arith)

-- the wave lies within the amplitude
pub wave_most : {h : Dither} → Sound h → nat_abs (dither_of h) ≤ nat_abs h.amplitude
unfolding dither_of
wave_most {h} s =
    by_test Most (h.kind =? pos 0) (λ e. omega arith)
    (λ e. by_test Most (h.kind =? pos 1) (λ f. square_most h.amplitude h.phase) (λ f. triangle_most h.amplitude h.phase (dither_parts s).phase))
  where
    Most : ℤ → Type 0
    Most z = nat_abs z ≤ nat_abs h.amplitude

pub wave_within : {h : Dither} → Sound h → Within (neg_ℤ h.amplitude) h.amplitude (dither_of h)
unfolding objects
wave_within {h} s =
    let a = (dither_parts s).amplitude in
    omega (arith, ints, wave_most s, abs_nat (dither_of h), abs_nat h.amplitude, neg_nat h.amplitude)

-- and so within the highest amplitude
pub wave_small : {h : Dither} → Sound h → Within (minus 1024) (pos 1024) (dither_of h)
unfolding objects
wave_small {h} s =
    let a = (dither_parts s).amplitude in
    omega (arith, ints, wave_most s, abs_nat (dither_of h), abs_nat h.amplitude)
