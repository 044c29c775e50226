-- The promises tell each answer by the rules; the rules' ticks, ticks to go and closed formula are those of the ramp that is told, of which demand 3 is
-- proved; and a tick leaves a sound state, so that the next is done too.
use mathlib.Core.Bool.{Bool, true, false, not}
use mathlib.Core.List.{[], ◌∷◌}
use mathlib.Core.Logic.{◌≢◌}
use mathlib.Core.Path.{◌≡◌, refl, sym, ap, ap₂, ◌∙◌}
use Prim.Native.Nat.{ℕ, zero, suc, ◌*◌, ◌≤◌, ◌<◌}
use native.Mathlib.Omega.{arith}
use borrow.Author.Tests.{eqb-true}
use lib.IntN.{ℤ, pos, negsuc, nat_abs, ◌-ℤ◌, ◌*ℤ◌}
use lib.ListN.{replicate}
use lib.Signed.{lt_z}
use Rattle.integers.specs.Words.{◌is◌, ◌below◌, ◌=?◌, ◌<?◌}
use Rattle.integers.proofs.Cases.{by_cases, clash}
use Rattle.integers.proofs.Linear.{ints}
use Rattle.integers.proofs.Machine.{=?-refl, =?-no}
use Rattle.ramp.specs.Ramp as Ramp
use Rattle.ramp.specs.Ramp.{distance}
use Rattle.ramp.specs.Demand as Ways
use Rattle.ramp.specs.declared.Ramp.{Ramp}
use Rattle.ramp.proofs.Legs.{Across, falling, rising, by_side, halts_beside}
use Rattle.promises.specs.Library.{Told, Query, status, position, target, ticks_to_go, tick, jump, query, Call}
use Rattle.promises.specs.Library.{Reply, Library, replies, ◌when◌, first}
use Rattle.promises.specs.Valve as Valve
use Rattle.promises.specs.Valve.{selected, bit, driven, target_position, step_of, opposite, halts, stepped, ticks, rounded_up}
use Rattle.promises.specs.Promises.{sound, refusals, asked, replied, does, Promises}
use Rattle.promises.specs.Demands.{toward, position_after, after, asks, position_at, to_go, goal, Demand3}
use Rattle.promises.proofs.Ramps.{ramp_told, step_is, halts_is, stepped_is, to_zero_is, to_go_is, ramp_demand3}
use Rattle.promises.proofs.Ramps.{ticks_move, ticks_rest, at_rest, ticks_sound}

-- the ramp type, the step of 6331h, and the reply to a call that is done and hands back nothing else
abbrev ramp_type : Told → ℤ
ramp_type t = selected t 0x6330 0

abbrev one_step : Told → ℕ
one_step t = step_of (selected t 0x6331 1)

abbrev is_done : Reply
is_done = replied 0 [] (pos 0)

-- ---- the closed formula of the rules is the ramp's

toward_is : (g : ℤ) (m : ℕ) (p : ℤ) → toward g m p ≡ Ramp.toward g m p
unfolding toward Ramp.toward
toward_is g m p = refl

-- toward a goal on the far side of zero is toward zero
toward_zero : (g : ℤ) (m : ℕ) (p : ℤ) → Across g p → toward g m p ≡ Ramp.toward (pos 0) m p
unfolding toward Ramp.toward
toward_zero g m p (falling a b) =
    let d : lt_z p g ≡ false = omega (arith, ints) in
    let e : lt_z p (pos 0) ≡ false = omega (arith, ints) in
    rw (d, e)
toward_zero g m p (rising a b) =
    let d : lt_z p g ≡ true = omega (arith, ints) in
    let e : lt_z p (pos 0) ≡ true = omega (arith, ints) in
    rw (d, e)

pub formula_is : (t : Told) → driven t.state ≡ true → (n : ℕ) → position_after n t ≡ Ramp.position_after (ramp_told t) (target_position t) t.position n
unfolding position_after Ramp.position_after
formula_is t k n =
    let p = t.position in
    let g = target_position t in
    let r = ramp_told t in
    rw (k, to_go_is t k, halts_is t p, to_zero_is t p, step_is t p, step_is t (pos 0))
    (by_cases (n below Ramp.ticks_to_go r g p)
    (λ e. rw e (by_cases (Ramp.halts r g p)
    (λ h. rw h (by_cases (n below Ramp.ticks_to_zero r g p)
    (λ f. rw f (toward_zero g (n * Ramp.stride r g p) p (by_side g p (λ a. a) (λ b. clash h (halts_beside r g p b)))))
    (λ f. rw f (toward_is _ _ _))))
    (λ h. rw h (toward_is _ _ _))))
    (λ e. rw e))

-- after n ticks of a sound state the position is the formula's
position_after_lem : (t : Told) → sound t ≡ true → (n : ℕ) → (ticks n t).position ≡ position_after n t
unfolding position_after
position_after_lem t e n =
    by_cases (driven t.state)
    (λ k. rw (ticks_move t k n) ((ramp_demand3 t e).formula n ∙ sym (formula_is t k n)))
    (λ k. rw (ticks_rest t k n, k) (at_rest t e k))

-- ---- the status word in HOLD and ACTIVE: bit 8 is whether position equals target

by_driven : (n : ℕ) {X : Type 0} → driven n ≡ true → (n ≡ 1 → X) → (n ≡ 2 → X) → X
by_driven n k hold active = by_cases (n is 1) (λ e. hold (eqb-true n 1 e)) (λ e. active (eqb-true n 2 (rw e at k)))

bit_eight : (t : Told) (met : Bool) → driven t.state ≡ true → (t.position =? target_position t) ≡ met → bit 8 (Valve.status t) ≡ met
unfolding Valve.status
bit_eight t true k e = by_driven t.state k (λ h. rw (e, h)) (λ h. rw (e, h))
bit_eight t false k e = by_driven t.state k (λ h. rw (e, h)) (λ h. rw (e, h))

-- ---- ticks one after the other, and queries, are done

tick_first : (n : ℕ) (t : Told) → ticks n (Valve.tick t) ≡ ticks (suc n) t
unfolding ticks
tick_first zero t = refl
tick_first (suc n) t = ap Valve.tick (tick_first n t)

module _ (L : Library) (p : Promises L) where
  -- a call that only 1 refuses is done, of a sound state
  pub answered :
      (c : Call) (s : L.State) → sound (L.told s) ≡ true → refusals c (L.told s) ≡ (1 when not (sound (L.told s)) ∷ [])
      → (L.told (L.answer c s).state ≡ (does c (L.told s)).state) × ((L.answer c s).reply ≡ (does c (L.told s)).reply)
  answered c s e only = p.done c s (p.number c s ∙ ap first only ∙ rw e)

  tick_sound : (s : L.State) → sound (L.told s) ≡ true → sound (L.told (L.answer tick s).state) ≡ true
  unfolding ticks
  tick_sound s e = rw (answered tick s e refl).0 (ticks_sound (L.told s) e 1)

  pub told_after : (n : ℕ) (s : L.State) → sound (L.told s) ≡ true → L.told (after L n s) ≡ ticks n (L.told s)
  unfolding ticks
  told_after zero s e = refl
  told_after (suc n) s e =
      told_after n (L.answer tick s).state (tick_sound s e) ∙ ap (ticks n) (answered tick s e refl).0 ∙ tick_first n (L.told s)

  all_done : (n : ℕ) (s : L.State) → sound (L.told s) ≡ true → replies L (replicate n tick) s ≡ replicate n is_done
  all_done zero s e = refl
  all_done (suc n) s e = ap₂ ◌∷◌ (answered tick s e refl).1 (all_done n (L.answer tick s).state (tick_sound s e))

  pub asks_is : (q : Query) (s : L.State) → sound (L.told s) ≡ true → asks L q s ≡ asked q (L.told s)
  asks_is q s e = ap (λ (x : Reply). x.value) (answered (query q) s e refl).1

-- ---- demand 3

equal : (a b : ℤ) → a ≡ b → (a =? b) ≡ true
equal a b e = rw e (=?-refl b)

-- a number above 1
above_one : (x : ℤ) {X : Type 0} → (pos 1 <? x) ≡ true → ((n : ℕ) → 2 ≤ n → x ≡ pos n → X) → X
above_one (pos n) e f = f n (omega (arith, ints)) refl
above_one (negsuc n) e f = clash e refl

module _ (L : Library) (p : Promises L) (s : L.State) (e : sound (L.told s) ≡ true) where
  abbrev t : Told
  t = L.told s

  abbrev r : Ramp
  r = ramp_told t

  abbrev g : ℤ
  g = target_position t

  of_ramp : Ways.Demand3 r g t.position
  of_ramp = ramp_demand3 t e

  formula : (n : ℕ) → (L.answer (query position) (after L n s)).reply ≡ replied 0 [] (position_after n t)
  formula n =
      let told = told_after L p n s e in
      let still : sound (L.told (after L n s)) ≡ true = rw told (ticks_sound t e n) in
      (answered L p (query position) (after L n s) still refl).1
      ∙ ap (replied 0 []) (ap (λ (u : Told). u.position) told ∙ position_after_lem t e n)

  position_is : (n : ℕ) → position_at L n s ≡ position_after n t
  position_is n = ap (λ (x : Reply). x.value) (formula n)

  here : position_at L 0 s ≡ t.position
  here = asks_is L p position s e

  goal_is : goal L s ≡ target_position t
  goal_is = ap (λ x. x *ℤ pos 65536) (asks_is L p target s e)

  to_go_told : to_go L s ≡ Valve.ticks_to_go t
  to_go_told = ap nat_abs (asks_is L p ticks_to_go s e)

  -- in HOLD and ACTIVE
  module _ (k : driven t.state ≡ true) where
    to_go_lem : to_go L s ≡ Ramp.ticks_to_go r g t.position
    to_go_lem = to_go_told ∙ to_go_is t k

    after_ticks : (n : ℕ) → position_at L n s ≡ Ramp.position_after r g t.position n
    after_ticks n = position_is n ∙ formula_is t k n

    kept : (n : ℕ) → to_go L s ≤ n → position_at L n s ≡ goal L s
    kept n h = let f = to_go_lem in after_ticks n ∙ of_ramp.kept n (omega arith) ∙ sym goal_is

    early : (n : ℕ) → n < to_go L s → position_at L n s ≢ goal L s
    early n h m = let f = to_go_lem in of_ramp.first n (omega arith) (sym (after_ticks n) ∙ m ∙ goal_is)

    once_driven : (m n : ℕ) → m < n → n ≤ to_go L s → position_at L m s ≢ position_at L n s
    once_driven m n l h q = let f = to_go_lem in of_ramp.once m n l (omega arith) (sym (after_ticks m) ∙ q ∙ after_ticks n)

    whole_distance : ramp_type t ≡ pos 1 → to_go L s ≡ rounded_up (nat_abs (position_at L 0 s -ℤ goal L s)) (one_step t)
    unfolding rounded_up Ramp.rounded_up distance step_of Ramp.step_of
    whole_distance one =
        to_go_lem ∙ of_ramp.ticks_in_type_one one ∙ ap₂ (λ a b. rounded_up (nat_abs (a -ℤ b)) (one_step t)) (sym here) (sym goal_is)

    whole_steps : ramp_type t ≡ pos 1 → (n : ℕ) → position_at L n s ≡ stepped (goal L s) (n * one_step t) (position_at L 0 s)
    unfolding step_of Ramp.step_of
    whole_steps one n =
        after_ticks n ∙ of_ramp.position_in_type_one one n ∙ sym (stepped_is _ _ _)
        ∙ ap₂ (λ g x. stepped g (n * one_step t) x) (sym goal_is) (sym here)

    uncrossed_driven : (pos 1 <? ramp_type t) ≡ true → (n : ℕ) → opposite (position_at L n s) (position_at L (suc n) s) ≡ false
    unfolding opposite Ramp.opposite
    uncrossed_driven two n =
        ap₂ opposite (after_ticks n ∙ sym (of_ramp.formula n)) (after_ticks (suc n) ∙ sym (of_ramp.formula (suc n)))
        ∙ above_one (ramp_type t) two (λ kind most f. of_ramp.uncrossed kind most f n)

    bit_told : (met : Bool) → (t.position =? target_position t) ≡ met → bit 8 (nat_abs (asks L status s)) ≡ met
    bit_told met f = ap (λ x. bit 8 (nat_abs x)) (asks_is L p status s e) ∙ bit_eight t met k f

    arrived : to_go L s ≡ 0 → bit 8 (nat_abs (asks L status s)) ≡ true
    arrived z = bit_told true (equal _ _ (sym here ∙ kept 0 (omega arith) ∙ goal_is))

    under_way : 0 < to_go L s → bit 8 (nat_abs (asks L status s)) ≡ false
    under_way h = bit_told false (=?-no _ _ (λ f. early 0 h (here ∙ f ∙ sym goal_is)))

  -- in DISABLED and FAULT
  module _ (k : driven t.state ≡ false) where
    none_to_go : to_go L s ≡ 0
    unfolding Valve.ticks_to_go
    none_to_go = to_go_told ∙ rw k

    stays : (n : ℕ) → position_at L n s ≡ pos 0
    unfolding position_after
    stays n = position_is n ∙ rw k

    uncrossed_rest : (n : ℕ) → opposite (position_at L n s) (position_at L (suc n) s) ≡ false
    unfolding opposite
    uncrossed_rest n = ap₂ opposite (stays n) (stays (suc n))

  latest : to_go L s ≤ 7206322
  latest = by_cases (driven t.state) (λ k. rw (to_go_lem k) of_ramp.latest) (λ k. rw (none_to_go k) (omega arith))

  latest_in_type_one : ramp_type t ≡ pos 1 → to_go L s ≤ 7206321
  latest_in_type_one one =
      by_cases (driven t.state) (λ k. rw (to_go_lem k) (of_ramp.latest_in_type_one one)) (λ k. rw (none_to_go k) (omega arith))

  once : (m n : ℕ) → m < n → n ≤ to_go L s → position_at L m s ≢ position_at L n s
  once m n l h =
      by_cases (driven t.state) (λ k. once_driven k m n l h) (λ k. let f = none_to_go k in λ q. absurd (omega arith))

  pub demand3 : Demand3 L s
  unfolding ticks
  demand3 =
      record {
        done = λ n. (all_done L p n s e, (answered L p (jump n) s e refl).1);
        jumps = λ n. told_after L p n s e ∙ sym (answered L p (jump n) s e refl).0;
        none = (answered L p (jump 0) s e refl).0;
        formula = formula;
        kept = kept;
        first = early;
        latest = latest;
        latest_in_type_one = latest_in_type_one;
        at_rest = λ k. (none_to_go k, stays k);
        once = once;
        ticks_in_type_one = whole_distance;
        position_in_type_one = whole_steps;
        uncrossed = λ two n. by_cases (driven t.state) (λ k. uncrossed_driven k two n) (λ k. uncrossed_rest k n);
        arrived = arrived;
        under_way = under_way;
      }
