-- Whatever keeps the promises answers every history alike: each call's reply, and what is told after it, follow from what was told before it.
use mathlib.Core.List.{List, [], ◌∷◌}
use mathlib.Core.Path.{◌≡◌, refl, sym, ap, ap₂, ◌∙◌}
use Prim.Native.Nat.{ℕ}
use lib.IntN.{pos}
use borrow.Author.Tests.{eqb-true, eqb-false}
use Rattle.integers.specs.Words.{◌is◌}
use Rattle.integers.proofs.Cases.{by_cases}
use Rattle.promises.specs.Library.{Told, Call, first, Library}
use Rattle.promises.specs.Promises.{refusals, replied, does, lent, Promises}
use Rattle.promises.specs.Complete.{Alike, Complete}

module _ (L M : Library) (p : Promises L) (q : Promises M) where
  -- one call of two states of which the same is told
  module _ (c : Call) (s : L.State) (t : M.State) (e : L.told s ≡ M.told t) where
    same_number : (L.answer c s).reply.number ≡ (M.answer c t).reply.number
    same_number = p.number c s ∙ ap (λ (x : Told). first (refusals c x)) e ∙ sym (q.number c t)

    record Same : Type 0 where
      seen : (L.answer c s).reply ≡ (M.answer c t).reply
      told : L.told (L.answer c s).state ≡ M.told (M.answer c t).state

    same : Same
    same =
        by_cases ((L.answer c s).reply.number is 0)
        (λ f.
        let n = eqb-true (L.answer c s).reply.number 0 f in
        let a = p.done c s n in
        let b = q.done c t (sym same_number ∙ n) in
        record { seen = a.1 ∙ ap (λ (x : Told). (does c x).reply) e ∙ sym b.1; told = a.0 ∙ ap (λ (x : Told). (does c x).state) e ∙ sym b.0 })
        (λ f.
        let n = eqb-false (L.answer c s).reply.number 0 f in
        let a = p.refused c s n in
        let b = q.refused c t (λ z. n (same_number ∙ z)) in
        record {
          seen = a.1 ∙ ap (λ (k : ℕ). replied k (lent c) (pos 0)) same_number ∙ sym b.1;
          told = ap L.told a.0 ∙ e ∙ sym (ap M.told b.0);
        })

  alike : (calls : List Call) (s : L.State) (t : M.State) → L.told s ≡ M.told t → Alike L M calls s t
  alike [] s t e = record { seen = refl; told = e }
  alike (c ∷ calls) s t e =
      let one = same c s t e in
      let rest = alike calls (L.answer c s).state (M.answer c t).state one.told in
      record { seen = ap₂ ◌∷◌ one.seen rest.seen; told = rest.told }

pub complete : Complete
complete =
    record {
      fresh = λ L M p q calls. alike L M p q calls L.fresh M.fresh (p.fresh ∙ sym q.fresh);
      any = λ L M p q s t e calls. alike L M p q calls s t e;
    }
