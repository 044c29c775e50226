-- The records that `as_chunks` gives are those of the definitions.
use mathlib.Core.List.{List, []}
use mathlib.Core.Path.{◌≡◌, refl, ap, ◌∙◌}
use Prim.Native.Nat.{ℕ, zero, suc, ◌+◌, ◌*◌, ◌<◌}
use native.Mathlib.Numerals.{add-one}
use native.Mathlib.Omega.{arith}
use lib.ListN.{take, drop, get_or}
use Rattle.std.specs.Simd.{first_chunks}
use Rattle.std.proofs.lemmas.List.{drop-drop}
use Rattle.judging.specs.Judging.{case_at, judged_case, judged}
use Rattle.judging.specs.declared.Tally.{Tally}

pub chunk_at : (n k : ℕ) (bytes : List ℕ) → k < n → get_or (first_chunks 16 n bytes) k [] ≡ case_at bytes k
chunk_at zero k bytes h = absurd (omega arith)
chunk_at (suc n) zero bytes h = refl
chunk_at (suc n) (suc k) bytes h =
    let next : 16 + 16 * k ≡ 16 * suc k = omega arith in
    chunk_at n k (drop 16 bytes) (omega arith) ∙ ap (take 16) (drop-drop (16 * k) 16 bytes ∙ ap (λ place. drop place bytes) next)

-- one record more
pub judged_next : (k : ℕ) (bytes case : List ℕ) (t before after : Tally) → case ≡ case_at bytes k → before ≡ judged k bytes t → after ≡ judged_case case before → after ≡ judged (k + 1) bytes t
unfolding judged
judged_next k bytes case t before after e b a = rw (add-one, ← e, ← b) a
