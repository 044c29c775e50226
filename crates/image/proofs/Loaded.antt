-- What the loop of `settings_in` has read: the values in the fields of the places that it passed. Each stands at its place.
use mathlib.Core.Path.{◌≡◌, refl, sym, ap, ◌∙◌}
use mathlib.Core.List.{List, [], ◌∷◌}
use Prim.Native.Nat.{ℕ, zero, suc, ◌+◌, ◌<◌}
use native.Mathlib.Omega.{arith}
use lib.IntN.{ℤ, pos}
use lib.ListN.{length, take, length-append, get_or-append}
use lib.Seq.{take_all, get_or-append-add}
use Rattle.integers.proofs.Cases.{by_less}
use Rattle.objects.specs.Places.{SETTINGS}
use Rattle.block.specs.Block.{at}
use Rattle.image.specs.Load.{value_in_image, values_in, settings_in}

-- the first k of the settings are those in an image
pub record Loaded (image : List ℕ) (k : ℕ) (settings : List ℤ) : Type 0 where
  pub long : length settings ≡ SETTINGS
  pub so_far : take k settings ≡ values_in k image

-- after the last turn all are read
pub settings_from_loaded : {image : List ℕ} {l : List ℤ} → Loaded image SETTINGS l → l ≡ settings_in image
unfolding settings_in
settings_from_loaded {l} s = sym (take_all SETTINGS l (omega arith)) ∙ s.so_far

-- ---- the values, as a list

pub values_length : (n : ℕ) (image : List ℕ) → length (values_in n image) ≡ n
unfolding values_in
values_length zero image = refl
values_length (suc n) image = let a = values_length n image in rw length-append (omega arith)

pub value_at_lem : (n k : ℕ) (image : List ℕ) → k < n → at (values_in n image) k ≡ value_in_image image k
unfolding values_in
value_at_lem zero k image h = absurd (omega arith)
value_at_lem (suc n) k image h =
    let long = values_length n image in
    by_less k n
    (λ l. get_or-append (values_in n image) (value_in_image image n ∷ []) (pos 0) k (omega arith) ∙ value_at_lem n k image l)
    (λ l. let e : k ≡ length (values_in n image) + 0 = omega arith in rw (e, get_or-append-add) (ap (value_in_image image) (omega arith)))
