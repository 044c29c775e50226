-- An abort is the reply's first byte, since no other has 80h; and each room is written from its start on, by as many bytes as a frame, a sound map's
-- entries and the seventeen fields have.
use mathlib.Core.Bool.{true, not}
use mathlib.Core.List.{List, [], ◌∷◌, ◌++◌}
use mathlib.Core.Logic.{◌≢◌}
use mathlib.Core.Path.{◌≡◌, refl, sym, ap, ◌∙◌}
use Prim.Native.Nat.{ℕ, suc, ◌*◌, ◌≤◌, min}
use native.Mathlib.Omega.{arith}
use borrow.Author.Tests.{eqb-true, eqb-false, ltb-false, not-true}
use lib.ListN.{length, take, drop, length-take}
use Rattle.integers.specs.Words.{◌is◌, ◌below◌}
use Rattle.integers.proofs.Cases.{by_cases}
use Rattle.integers.proofs.Each.{and_split}
use Rattle.promises.specs.Library.{Told, Call, Reply, Library, Refusal, ◌when◌, first}
use Rattle.promises.specs.Library.{sdo, send, store}
use Rattle.promises.specs.Sheet.{sheet}
use Rattle.promises.specs.Sdo.{aborts, served, reply, byte, two_from, four_from, mapped, counted, sent, sound_map}
use Rattle.promises.specs.Image.{tagged, fields, image}
use Rattle.promises.specs.Promises.{sound, refusals, does, lent, Promises}
use Rattle.promises.specs.Demands.{Demand1}
use Rattle.promises.proofs.SoundTold.{sound_parts}

-- ---- an abort's first byte

aborts_leave : (command index sub n : ℕ) (t : Told) (rest : List ℕ) → byte (reply command index sub n t ++ rest) 0 ≡ 0x80 → served command index sub n t ≡ t
unfolding reply served
aborts_leave command index sub n t rest =
    by_cases (first (aborts t command index sub n) is 0)
    (λ z. rw z (by_cases (command is 0x40)
    (λ r. rw r (λ e. refl))
    (λ r. rw r (λ e. absurd (omega arith)))))
    (λ z. rw z (λ e. by_cases (command is 0x40) (λ r. rw r) (λ r. rw r)))

-- ---- how long what is written is

frame_long : (command index sub n : ℕ) (t : Told) (rest : List ℕ) → drop 8 (reply command index sub n t ++ rest) ≡ rest
unfolding reply
frame_long command index sub n t rest =
    by_cases (first (aborts t command index sub n) is 0)
    (λ z. rw z (by_cases (command is 0x40) (λ r. rw r) (λ r. rw r)))
    (λ z. rw z)

image_long : (t : Told) (rest : List ℕ) → drop 97 (image t ++ rest) ≡ rest
unfolding image fields tagged sheet
image_long t rest = refl

-- two bytes for each entry, of which a sound map counts at most four
sent_long : (entries : List ℕ) (t : Told) (rest : List ℕ) → drop (2 * length entries) (sent entries t ++ rest) ≡ rest
unfolding sent
sent_long [] t rest = refl
sent_long (e ∷ entries) t rest = rw (two_more (length entries)) (sent_long entries t rest)
  where
    two_more : (n : ℕ) → 2 * suc n ≡ suc (suc (2 * n))
    two_more n = omega arith

four_counted : (n a b c d : ℕ) → n ≤ 4 → length (take n (a ∷ b ∷ c ∷ d ∷ [])) ≡ n
four_counted n a b c d h = let e : length (take n (a ∷ b ∷ c ∷ d ∷ [])) ≡ min n 4 = length-take n _ in e ∙ omega arith

at_most_four : (t : Told) → sound t ≡ true → mapped t 0x1A00 0 ≤ 4
unfolding sound_map
at_most_four t e =
    ltb-false 4 (mapped t 0x1A00 0) (not-true _ (and_split (not (4 below mapped t 0x1A00 0)) _ (sound_parts t e).transmit).0)

is_sound : (t : Told) (rest : List Refusal) → first (1 when not (sound t) ∷ rest) ≡ 0 → sound t ≡ true
is_sound t rest = by_cases (sound t) (λ e z. e) (λ e. rw e (λ z. absurd (omega arith)))

pdo_long : (t : Told) (rest : List ℕ) → sound t ≡ true → drop (2 * mapped t 0x1A00 0) (sent (counted t 0x1A00) t ++ rest) ≡ rest
pdo_long t rest e =
    ap (λ n. drop (2 * n) (sent (counted t 0x1A00) t ++ rest)) (sym (four_counted (mapped t 0x1A00 0) _ _ _ _ (at_most_four t e)))
    ∙ sent_long (counted t 0x1A00) t rest

-- ---- demand 1

module _ (L : Library) (p : Promises L) where
  -- done, or refused
  by_number : (c : Call) (s : L.State) {X : Type 0} → ((L.answer c s).reply.number ≡ 0 → X) → ((L.answer c s).reply.number ≢ 0 → X) → X
  by_number c s f g =
      let n = (L.answer c s).reply.number in
      by_cases (n is 0) (λ e. f (eqb-true n 0 e)) (λ e. g (eqb-false n 0 e))

  aborted :
      (request room : List ℕ) (s : L.State) → byte (L.answer (sdo request room) s).reply.room 0 ≡ 0x80
      → L.told (L.answer (sdo request room) s).state ≡ L.told s
  aborted request room s e =
      let c = sdo request room in
      by_number c s
      (λ z.
      let d = p.done c s z in
      d.0 ∙ aborts_leave (byte request 0) (two_from request 1) (byte request 3) (four_from request 4) (L.told s) (drop 8 room)
      (sym (ap (λ (x : Reply). byte x.room 0) d.1) ∙ e))
      (λ n. ap L.told (p.refused c s n).0)

  -- the bytes after the first so many stay where a call is done, and so in every case
  later : (c : Call) (s : L.State) (n : ℕ) → (first (refusals c (L.told s)) ≡ 0 → drop n (does c (L.told s)).reply.room ≡ drop n (lent c)) →
      drop n (L.answer c s).reply.room ≡ drop n (lent c)
  later c s n done =
      by_number c s
      (λ z. ap (λ (x : Reply). drop n x.room) (p.done c s z).1 ∙ done (sym (p.number c s) ∙ z))
      (λ k. ap (λ (x : Reply). drop n x.room) (p.refused c s k).1)

pub demand1 : (L : Library) (p : Promises L) → Demand1 L
demand1 L p =
    record {
      aborted = aborted L p;
      later_replied = λ request room s. later L p (sdo request room) s 8
          (λ z. frame_long (byte request 0) (two_from request 1) (byte request 3) (four_from request 4) (L.told s) (drop 8 room));
      later_sent = λ room s. later L p (send room) s (2 * mapped (L.told s) 0x1A00 0)
          (λ z. pdo_long (L.told s) (drop (2 * mapped (L.told s) 0x1A00 0) room) (is_sound (L.told s) (3 when (length room below 2 * mapped (L.told s) 0x1A00 0) ∷ []) z));
      later_stored = λ room s. later L p (store room) s 97 (λ z. image_long (L.told s) (drop 97 room));
    }
