-- What begins with the first n fields of some settings begins with fewer of them too. So each field stands where it starts, whatever comes after it.
use mathlib.Core.Path.{◌≡◌, sym, subst, ◌∙◌}
use mathlib.Core.List.{List, [], ◌++◌, append-nil, append_assoc}
use mathlib.Core.Logic.{⊎_elim}
use Prim.Native.Nat.{ℕ, zero, suc, ◌+◌, ◌≤◌, ◌<◌}
use native.Mathlib.Nat.{add-zero, eq-or-lt_of_le}
use native.Mathlib.Omega.{arith}
use lib.IntN.{ℤ}
use lib.ListN.{length, take, drop, length-append}
use lib.Seq.{get_or-drop, drop-drop, drop_at, take_at}
use Rattle.objects.specs.Places.{SETTINGS}
use Rattle.coding.specs.Bytes.{byte_at, two_bytes}
use Rattle.coding.proofs.Bytes.{two_back}
use Rattle.block.specs.Block.{at}
use Rattle.image.specs.Fields.{HEADER, tag_of, size_at, start, value_bytes, field_of, fields, image_of}
use Rattle.image.specs.Load.{length_at}
use Rattle.image.proofs.Lengths.{sized, size_most, length_value, length_fields}

pub record Begins (image : List ℕ) (settings : List ℤ) (n : ℕ) : Type 0 where
  pub rest : List ℕ
  pub same : image ≡ fields n settings ++ rest

begins_with_fewer : {image : List ℕ} {settings : List ℤ} (k n : ℕ) → k ≤ n → Begins image settings n → Begins image settings k
unfolding fields
begins_with_fewer k zero h b = subst (Begins _ _) (omega arith) b
begins_with_fewer {settings} k (suc n) h b =
    ⊎_elim (λ (e : k ≡ suc n). subst (Begins _ _) (sym e) b)
    (λ (l : k < suc n). begins_with_fewer k n (omega arith) (record { rest = field_of n (at settings n) ++ b.rest; same = b.same ∙ simp append_assoc }))
    (eq-or-lt_of_le h)

-- an image begins with the field of a setting and those before it
pub image_begins : (settings : List ℤ) (place : ℕ) → place < SETTINGS → Begins (image_of settings) settings (suc place)
unfolding image_of
image_begins settings place h = begins_with_fewer (suc place) SETTINGS h (record { rest = []; same = sym (append-nil _) })

-- ---- the field of a setting, in what begins with it and those before it
module _ {image : List ℕ} {settings : List ℤ} {place : ℕ} (b : Begins image settings (suc place)) where
  pub without_last : Begins image settings place
  without_last = begins_with_fewer place (suc place) (omega arith) b

  pub next_within : start (suc place) ≤ length image
  next_within = rw (b.same, length-append) (omega (arith, length_fields (suc place) settings))

  from_start : drop (start place) image ≡ field_of place (at settings place) ++ b.rest
  unfolding fields
  from_start = rw (b.same, append_assoc) (drop_at (fields place settings) _ (start place) (length_fields place settings))

  byte_in : (j : ℕ) → byte_at image (start place + j) ≡ byte_at (field_of place (at settings place) ++ b.rest) j
  byte_in j = rw (← get_or-drop (start place) image j 0, from_start)

  pub tag_in : byte_at image (start place) ≡ tag_of place
  unfolding field_of
  tag_in = rw (← add-zero (start place)) (byte_in 0)

  pub length_in : length_at image (start place) ≡ size_at place
  unfolding field_of two_bytes
  length_in = rw (byte_in 1, byte_in 2) (two_back {n = size_at place} (omega (arith, size_most (sized place))))

  pub value_in : take (size_at place) (drop (start place + HEADER) image) ≡ value_bytes place (at settings place)
  unfolding field_of two_bytes
  value_in =
      rw (← drop-drop HEADER (start place) image, from_start)
      (take_at (value_bytes place (at settings place)) b.rest (size_at place) (length_value place (at settings place)))
