-- Eight bytes that are each the same are the same list, which is what `==` tests.
use mathlib.Core.List.{List}
use mathlib.Core.Path.{◌≡◌, refl, sym, ap, ◌∙◌}
use mathlib.Core.Bool.{Bool, true, false}
use Prim.Native.Nat.{ℕ}
use native.Mathlib.Omega.{arith}
use lib.ListN.{length}
use Rattle.std.specs.Str.{bytes_eq}
use Rattle.std.proofs.lemmas.Bool.{eqb-true, eq-eqb}
use Rattle.std.proofs.lemmas.List.{ext_get_or}
use Rattle.std.proofs.lemmas.Slice.Eq.{bytes_eq-Decides}
use Rattle.integers.proofs.Each.{each_at, each_all}
use Rattle.coding.specs.Bytes.{byte_at}
use Rattle.judging.specs.Judging.{same}

-- tests that hold together are equal
alike : (a b : Bool) → (a ≡ true → b ≡ true) → (b ≡ true → a ≡ true) → a ≡ b
alike true b p q = sym (p refl)
alike false true p q = q refl
alike false false p q = refl

pub eq_same : (a b : List ℕ) → length a ≡ 8 → length b ≡ 8 → bytes_eq a b ≡ same a b
unfolding same
eq_same a b la lb =
    let decides = bytes_eq-Decides a b in
    alike (bytes_eq a b) (same a b)
    (λ e. each_all 8 _ (λ k h. eq-eqb _ _ (ap (λ l. byte_at l k) (decides.0 e))))
    (λ e. decides.1 (ext_get_or 0 a b (la ∙ sym lb) (λ k h. eqb-true _ _ (each_at 8 _ k e (omega arith)))))
