-- The rules keep themselves: a call that is not refused hands back 0. That is so by the rules' own words but for a search, whose walk ends with 0, 7 or 10.
use mathlib.Core.List.{List, [], ◌∷◌}
use mathlib.Core.Logic.{◌≢◌}
use mathlib.Core.Path.{◌≡◌, refl, sym, ap, ◌∙◌}
use Prim.Native.Nat.{ℕ, zero, suc, ◌+◌}
use borrow.Author.Tests.{eqb-true, eqb-false}
use lib.IntN.{pos}
use lib.ListN.{length}
use Rattle.integers.specs.Words.{◌is◌, ◌below◌}
use Rattle.integers.proofs.Cases.{by_cases, by_test}
use Rattle.promises.specs.Library.{Told, Call, Reply, Answer, ◌when◌, first}
use Rattle.promises.specs.Library.{fresh, sdo, control, fault, tick, jump, query, receive, send, store, load, search}
use Rattle.promises.specs.Sdo.{byte, two_from}
use Rattle.promises.specs.Image as Image
use Rattle.promises.specs.Image.{found, search_from}
use Rattle.promises.specs.Promises.{refusals, does, lent, replied, Promises}
use Rattle.promises.specs.Examples.{by_rules, paper}

-- what a search comes to: 10, 7, or 0 with a part
pub by_walk :
    (P : Reply → Type 0) → P (found 10 0 []) → P (found 7 0 []) → ((begin : ℕ) (part : List ℕ) → P (found 0 begin part))
    → (fields : ℕ) (bytes : List ℕ) (tag k : ℕ) → P (search_from fields bytes tag k)
unfolding search_from
by_walk P ended cut here zero bytes tag k = ended
by_walk P ended cut here (suc fields) bytes tag k =
    by_test P (length bytes below (k + 1)) (λ e. ended)
    (λ e. by_test P (length bytes below (k + 3)) (λ f. cut)
    (λ f. by_test P (length bytes below (k + 3 + two_from bytes (k + 1))) (λ g. cut)
    (λ g. by_test P (byte bytes k is tag) (λ h. here _ _)
    (λ h. by_walk P ended cut here fields bytes tag (k + 3 + two_from bytes (k + 1))))))

pub by_search :
    (P : Reply → Type 0) → P (found 10 0 []) → P (found 7 0 []) → ((begin : ℕ) (part : List ℕ) → P (found 0 begin part))
    → (bytes : List ℕ) (tag : ℕ) → P (Image.search bytes tag)
unfolding Image.search
by_search P ended cut here bytes tag = by_walk P ended cut here (suc (length bytes)) bytes tag 0

-- what is not refused hands back 0
done_is_zero : (c : Call) (t : Told) → first (refusals c t) ≡ 0 → (does c t).reply.number ≡ 0
done_is_zero fresh t = λ e. refl
done_is_zero (sdo request room) t = λ e. refl
done_is_zero (control word) t = λ e. refl
done_is_zero (fault code) t = λ e. refl
done_is_zero tick t = λ e. refl
done_is_zero (jump n) t = λ e. refl
done_is_zero (query q) t = λ e. refl
done_is_zero (receive pdo) t = λ e. refl
done_is_zero (send room) t = λ e. refl
done_is_zero (store room) t = λ e. refl
done_is_zero (load bytes) t = λ e. refl
done_is_zero (search bytes tag) t =
    by_search (λ x. first (7 when (x.number is 7) ∷ 10 when (x.number is 10) ∷ []) ≡ 0 → x.number ≡ 0) (λ e. e) (λ e. e) (λ begin part e. refl) bytes tag

module _ (c : Call) (t : Told) where
  refused_by : ℕ → Answer Told
  refused_by n = record { state = t; reply = replied n (lent c) (pos 0) }

  by_number {ℓ} : {X : Type ℓ} → (first (refusals c t) ≡ 0 → by_rules c t ≡ does c t → X)
      → (first (refusals c t) ≢ 0 → by_rules c t ≡ refused_by (first (refusals c t)) → X) → X
  unfolding refused_by
  by_number f g =
      by_cases (first (refusals c t) is 0)
      (λ e. f (eqb-true (first (refusals c t)) 0 e) (rw e))
      (λ e. g (eqb-false (first (refusals c t)) 0 e) (rw e))

  number_is : (by_rules c t).reply.number ≡ first (refusals c t)
  unfolding refused_by
  number_is =
      by_number
      (λ z e. ap (λ (a : Answer Told). a.reply.number) e ∙ done_is_zero c t z ∙ sym z)
      (λ n e. ap (λ (a : Answer Told). a.reply.number) e)

  refused_is : (by_rules c t).reply.number ≢ 0 → ((by_rules c t).state ≡ t) × ((by_rules c t).reply ≡ replied (by_rules c t).reply.number (lent c) (pos 0))
  unfolding refused_by
  refused_is h =
      by_number
      (λ z e. absurd (h (number_is ∙ z)))
      (λ n e. (ap (λ (a : Answer Told). a.state) e, rw e))

  done_is : (by_rules c t).reply.number ≡ 0 → ((by_rules c t).state ≡ (does c t).state) × ((by_rules c t).reply ≡ (does c t).reply)
  done_is h =
      by_number
      (λ z e. (ap (λ (a : Answer Told). a.state) e, ap (λ (a : Answer Told). a.reply) e))
      (λ n e. absurd (n (sym number_is ∙ h)))

pub consistent : Promises paper
consistent = record { fresh = refl; number = number_is; refused = refused_is; done = done_is }
