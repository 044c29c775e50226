-- Each call leaves what is told sound, as the rules do; and one that alters nothing leaves values and selection: refused, the state itself, and done,
-- by the rules. The rest follows by induction over the calls.
use mathlib.Core.Bool.{Bool, true, false, not, ◌&&◌, ◌||◌}
use mathlib.Core.List.{List, [], ◌∷◌, ◌++◌}
use mathlib.Core.Logic.{◌≢◌}
use mathlib.Core.Path.{◌≡◌, refl, sym, ap, ◌∙◌}
use Prim.Native.Nat.{ℕ, zero, suc, ◌+◌, ◌%◌, ◌/◌, ◌<◌}
use native.Mathlib.Omega.{arith}
use borrow.Author.Tests.{eqb-true, eqb-false, eq-eqb, not-true, not-false}
use lib.IntN.{ℤ, nat_abs}
use lib.ListN.{length, drop, get_or, length-take}
use lib.Seq.{get_or-take}
use Rattle.integers.specs.Words.{each, ◌is◌}
use Rattle.integers.proofs.Cases.{by_cases, clash}
use Rattle.integers.proofs.Each.{and_split, each_at}
use Rattle.promises.specs.Library.{Told, Refusal, first, Call, target, Library, end}
use Rattle.promises.specs.Library.{fresh, sdo, control, fault, tick, jump, query, receive, send, store, load, search}
use Rattle.promises.specs.Valve as Valve
use Rattle.promises.specs.Valve.{driven, entered, controlled, faulted, ticks}
use Rattle.promises.specs.Sdo.{aborts, written, served, reply, byte, two_from, four_from, mapped, counted, received}
use Rattle.promises.specs.Promises.{sound, refusals, does, replied, Promises}
use Rattle.promises.specs.Histories.{alters, alters_nothing, Histories}
use Rattle.promises.proofs.Lasting.{fresh_sound, lasts}

-- ---- the number of a sound state is not 1

-- a list gives a number: one of its conditions with this number holds
abbrev gives : ℕ → List Refusal → Bool
gives n [] = n is 0
gives n (r ∷ rest) = (r.number is n && r.holds) || gives n rest

not_given : (n : ℕ) (list : List Refusal) → gives n list ≡ false → first list ≢ n
not_given n [] g e = eqb-false n 0 g (sym e)
not_given n (r ∷ rest) g e =
    by_cases r.holds
    (λ h. clash (eq-eqb r.number n (rw h at e)) (by_cases (r.number is n) (λ k. clash refl (rw (k, h) at g)) (λ k. k)))
    (λ h. by_cases (r.number is n) (λ k. not_given n rest (rw (k, h) at g) (rw h at e)) (λ k. not_given n rest (rw k at g) (rw h at e)))

never_one : (c : Call) (t : Told) → sound t ≡ true → gives 1 (refusals c t) ≡ false
never_one fresh t s = refl
never_one (sdo request room) t s = rw s
never_one (control word) t s = rw s
never_one (fault code) t s = rw s
never_one tick t s = rw s
never_one (jump n) t s = rw s
never_one (query q) t s = rw s
never_one (receive pdo) t s = rw s
never_one (send room) t s = rw s
never_one (store room) t s = rw s
never_one (load bytes) t s = rw s
never_one (search bytes tag) t s = refl

-- ---- values and selection as they were

record Kept (t u : Told) : Type 0 where
  values : u.value ≡ t.value
  selection : u.selected ≡ t.selected

same : {t : Told} → Kept t t
same = record { values = refl; selection = refl }

follow : {t u v : Told} → Kept t u → Kept u v → Kept t v
follow a b = record { values = b.values ∙ a.values; selection = b.selection ∙ a.selection }

controlled_keeps : (word : ℕ) (t : Told) → Kept t (controlled word t)
unfolding controlled entered
controlled_keeps word t = record { values = refl; selection = refl }

faulted_keeps : (code : ℕ) (t : Told) → Kept t (faulted code t)
unfolding faulted entered
faulted_keeps code t = record { values = refl; selection = refl }

tick_keeps : (t : Told) → Kept t (Valve.tick t)
unfolding Valve.tick
tick_keeps t = by_cases (driven t.state) (λ d. rw d (record { values = refl; selection = refl })) (λ d. rw d same)

ticks_keep : (n : ℕ) (t : Told) → Kept t (ticks n t)
unfolding ticks
ticks_keep zero t = same
ticks_keep (suc n) t = follow (ticks_keep n t) (tick_keeps (ticks n t))

-- a write of 6040h
written_control : (index sub : ℕ) (x : ℤ) (t : Told) → (index is 0x6040) ≡ true → Kept t (written index sub x t)
unfolding written
written_control index sub x t i = rw i (controlled_keeps (nat_abs x) t)

served_control : (command index sub n : ℕ) (t : Told) → (index is 0x6040) ≡ true → Kept t (served command index sub n t)
unfolding served
served_control command index sub n t i =
    by_cases (command is 0x40 || not (first (aborts t command index sub n) is 0)) (λ e. rw e same) (λ e. rw e (written_control index sub _ t i))

-- and one that is not acknowledged
served_keeps :
    (command index sub n : ℕ) (t : Told) (rest : List ℕ) →
    (byte (reply command index sub n t ++ rest) 0 is 0x60 && not (index is 0x6040)) ≡ false → Kept t (served command index sub n t)
unfolding served reply
served_keeps command index sub n t rest h =
    by_cases (command is 0x40) (λ r. rw r same)
    (λ r. by_cases (first (aborts t command index sub n) is 0)
    (λ e. rw (r, e) (written_control index sub _ t (not-false (index is 0x6040) (rw (e, r) at h))))
    (λ e. rw (r, e) same))

-- ---- a received PDO of control words alone

received_keeps : (entries pdo : List ℕ) (t : Told) → ((k : ℕ) → k < length entries → get_or entries k 0 ≡ 0x60400010) → Kept t (received entries pdo t)
unfolding received
received_keeps [] pdo t all = same
received_keeps (e ∷ entries) pdo t all =
    let one : e ≡ 0x60400010 = all 0 (omega arith) in
    follow (served_control 0x2B (e / 65536) (e / 256 % 256) (four_from pdo 0) t (rw one))
    (received_keeps entries (drop 2 pdo) _ (λ k l. all (suc k) (omega arith)))

mapped_at :
    (t : Told) (map k : ℕ) → k < 4 → get_or (mapped t map 1 ∷ mapped t map 2 ∷ mapped t map 3 ∷ mapped t map 4 ∷ []) k 0 ≡ mapped t map (k + 1)
mapped_at t map zero l = refl
mapped_at t map (suc zero) l = refl
mapped_at t map (suc (suc zero)) l = refl
mapped_at t map (suc (suc (suc zero))) l = refl
mapped_at t map (suc (suc (suc (suc k)))) l = absurd (omega arith)

pub counted_at :
    (t : Told) (map k : ℕ) → k < length (counted t map) → (k < mapped t map 0) × (get_or (counted t map) k 0 ≡ mapped t map (k + 1))
counted_at t map k l =
    let list = mapped t map 1 ∷ mapped t map 2 ∷ mapped t map 3 ∷ mapped t map 4 ∷ [] in
    let long = length-take (mapped t map 0) list in
    let few : k < mapped t map 0 = omega (arith, long, l) in
    (few, get_or-take (mapped t map 0) list k 0 few ∙ mapped_at t map k (omega (arith, long, l)))

counted_keeps :
    (pdo : List ℕ) (t : Told) → each (mapped t 0x1600 0) (λ k. mapped t 0x1600 (k + 1) is 0x60400010) ≡ true →
    Kept t (received (counted t 0x1600) pdo t)
counted_keeps pdo t all =
    received_keeps (counted t 0x1600) pdo t
    (λ k l.
    let at = counted_at t 0x1600 k l in
    at.1 ∙ eqb-true (mapped t 0x1600 (k + 1)) 0x60400010 (each_at (mapped t 0x1600 0) (λ k. mapped t 0x1600 (k + 1) is 0x60400010) k all at.0))

-- ---- of any library that keeps the promises

target_same : (t u : Told) → u.state ≡ t.state → Kept t u → Valve.target u ≡ Valve.target t
unfolding Valve.target
target_same t u e k = rw (e, k.values, k.selection)

module _ (L : Library) (p : Promises L) where
  stays_sound : (c : Call) (s : L.State) → sound (L.told s) ≡ true → sound (L.told (L.answer c s).state) ≡ true
  stays_sound c s e =
      by_cases ((L.answer c s).reply.number is 0)
      (λ f. let n = eqb-true _ 0 f in rw (p.done c s n).0 (lasts c (L.told s) e (sym (p.number c s) ∙ n)))
      (λ f. rw (p.refused c s (eqb-false _ 0 f)).0 e)

  pub end_sound : (calls : List Call) (s : L.State) → sound (L.told s) ≡ true → sound (L.told (end L calls s)) ≡ true
  end_sound [] s e = e
  end_sound (c ∷ calls) s e = end_sound calls (L.answer c s).state (stays_sound c s e)

  from_fresh : (calls : List Call) → sound (L.told (end L calls L.fresh)) ≡ true
  from_fresh calls = end_sound calls L.fresh (rw p.fresh fresh_sound)

  does_keeps : (c : Call) (s : L.State) → alters L c s ≡ false → (L.answer c s).reply.number ≡ 0 → Kept (L.told s) (does c (L.told s)).state
  does_keeps fresh s h n = clash refl h
  does_keeps (sdo request room) s h n =
      served_keeps (byte request 0) (two_from request 1) (byte request 3) (four_from request 4) (L.told s) (drop 8 room) (rw (p.done (sdo request room) s n).1 at h)
  does_keeps (control word) s h n = controlled_keeps (word % 65536) (L.told s)
  does_keeps (fault code) s h n = faulted_keeps (code % 65536) (L.told s)
  does_keeps tick s h n = tick_keeps (L.told s)
  does_keeps (jump k) s h n = ticks_keep k (L.told s)
  does_keeps (query q) s h n = same
  does_keeps (receive pdo) s h n =
      let t = L.told s in
      counted_keeps pdo t (not-false (each (mapped t 0x1600 0) (λ k. mapped t 0x1600 (k + 1) is 0x60400010)) (rw n at h))
  does_keeps (send room) s h n = same
  does_keeps (store room) s h n = same
  does_keeps (load bytes) s h n = clash (eq-eqb _ 0 n) h
  does_keeps (search bytes tag) s h n = same

  call_keeps : (c : Call) (s : L.State) → alters L c s ≡ false → Kept (L.told s) (L.told (L.answer c s).state)
  call_keeps c s h =
      by_cases ((L.answer c s).reply.number is 0)
      (λ f. let n = eqb-true _ 0 f in rw (p.done c s n).0 (does_keeps c s h n))
      (λ f. rw (p.refused c s (eqb-false _ 0 f)).0 same)

  calls_keep : (calls : List Call) (s : L.State) → alters_nothing L calls s ≡ true → Kept (L.told s) (L.told (end L calls s))
  unfolding alters_nothing
  calls_keep [] s h = same
  calls_keep (c ∷ calls) s h =
      let both = and_split (not (alters L c s)) (alters_nothing L calls (L.answer c s).state) h in
      follow (call_keeps c s (not-true _ both.0)) (calls_keep calls (L.answer c s).state both.1)

  target_told : (s : L.State) → sound (L.told s) ≡ true → (L.answer (query target) s).reply ≡ replied 0 [] (Valve.target (L.told s))
  target_told s e = (p.done (query target) s (p.number (query target) s ∙ rw e)).1

  same_target :
      (s u : L.State) → sound (L.told s) ≡ true → sound (L.told u) ≡ true → (L.told u).state ≡ (L.told s).state → Kept (L.told s) (L.told u) →
      (L.answer (query target) u).reply ≡ (L.answer (query target) s).reply
  same_target s u e f same-state k =
      target_told u f ∙ ap (replied 0 []) (target_same (L.told s) (L.told u) same-state k) ∙ sym (target_told s e)

  pub histories : Histories L
  histories =
      record {
        stays_sound = stays_sound;
        from_fresh = from_fresh;
        never_unsound = λ calls c e.
            let t = L.told (end L calls L.fresh) in not_given 1 (refusals c t) (never_one c t (from_fresh calls)) (sym (p.number c _) ∙ e);
        values_kept = λ calls s h. let k = calls_keep calls s h in (k.values, k.selection);
        target_kept = λ calls s e h f. same_target s (end L calls s) e (end_sound calls s e) f (calls_keep calls s h);
        active_hold_active = λ leave back s e active h hold k again.
            let held = end L leave s in
            same_target s (end L back held) e (end_sound back held (end_sound leave s e)) (again ∙ sym active)
            (follow (calls_keep leave s h) (calls_keep back held k));
      }
