-- The walk from the start, seen from a place that it has reached: each of the five ends of a turn. A field has a header, so the fuel never runs out.
use Rattle.std.specs.Prelude.{if◌then◌else◌, Ok, Err}
use mathlib.Core.Path.{◌≡◌, refl, ap, ◌∙◌}
use mathlib.Core.List.{List}
use Prim.Native.Nat.{ℕ, zero, suc, ◌+◌, ◌-◌, ◌≤◌, ◌<◌}
use native.Mathlib.Omega.{arith}
use borrow.Author.Tests.{lt-ltb, le-ltb, eq-eqb, ne_eqb}
use lib.IntN.{ℤ}
use lib.ListN.{length}
use Rattle.integers.specs.Words.{◌is◌, ◌below◌}
use Rattle.objects.specs.Places.{SETTINGS}
use Rattle.coding.specs.Bytes.{byte_at}
use Rattle.block.specs.Block.{at}
use Rattle.image.specs.declared.Miss.TheVariants.{Cut, Ended}
use Rattle.image.specs.Fields.{HEADER, tag_of, size_at, field_length, start, value_bytes, image_of}
use Rattle.image.specs.Walk.{end_at, walk_from, walk, part_of}
use Rattle.image.proofs.Split.{Begins, image_begins, without_last, next_within, tag_in, length_in, value_in}

-- a place that the walk has reached: from there on it is the walk from the start, with more fuel than bytes are left
pub record Reached (image : List ℕ) (tag k : ℕ) : Type 0 where
  pub within : k ≤ length image
  pub fuel : ℕ
  pub left : length image ≤ fuel + k
  pub same : walk image tag ≡ walk_from (suc fuel) image tag k

pub reached_first : (image : List ℕ) (tag : ℕ) → Reached image tag 0
unfolding walk
reached_first image tag = record { within = omega arith; fuel = length image; left = omega arith; same = refl }

module _ {image : List ℕ} {tag k : ℕ} (r : Reached image tag k) where
  pub walk_ends : length image ≤ k → walk image tag ≡ Err Ended
  unfolding walk_from
  walk_ends h = r.same ∙ simp (lt-ltb (length image) (k + 1) (omega arith))

  pub header_cut : k < length image → length image < k + HEADER → walk image tag ≡ Err Cut
  unfolding walk_from
  header_cut h j = r.same ∙ simp (le-ltb (length image) (k + 1) (omega arith), lt-ltb (length image) (k + HEADER) j)

  -- a whole header: the value is cut short, or the field is so tagged, or the walk goes on after it
  header_whole :
      let end = end_at image k in
      k + HEADER ≤ length image
      → walk image tag ≡ if length image below end then Err Cut else if byte_at image k is tag then Ok (record { start = k + HEADER; end = end }) else walk_from r.fuel image tag end
  unfolding walk_from
  header_whole h = r.same ∙ simp (le-ltb (length image) (k + 1) (omega arith), le-ltb (length image) (k + HEADER) h)

  pub value_cut : k + HEADER ≤ length image → length image < end_at image k → walk image tag ≡ Err Cut
  value_cut h j = header_whole h ∙ simp (lt-ltb (length image) (end_at image k) j)

  module _ (h : end_at image k ≤ length image) where
    pub tag_met : byte_at image k ≡ tag → walk image tag ≡ Ok (record { start = k + HEADER; end = end_at image k })
    tag_met e = header_whole (omega arith) ∙ simp (le-ltb (length image) (end_at image k) h, eq-eqb (byte_at image k) tag e)

    pub reached_next : (byte_at image k ≡ tag → ⊥) → Reached image tag (end_at image k)
    reached_next e =
        let more : r.fuel ≡ suc (r.fuel - 1) = omega arith in
        record {
          within = h;
          fuel = r.fuel - 1;
          left = omega arith;
          same =
              header_whole (omega arith)
              ∙ simp (le-ltb (length image) (end_at image k) h, ne_eqb (byte_at image k) tag e) (ap (λ (f : ℕ). walk_from f image tag (end_at image k)) more);
        }

-- ---- a stored image

-- the walk to a tag reaches the fields of the tags up to it
reached_place : {image : List ℕ} {settings : List ℤ} (place n : ℕ) → n ≤ place → Begins image settings n → Reached image (tag_of place) (start n)
unfolding start
reached_place place zero h b = reached_first _ _
reached_place {image} place (suc n) h b =
    let e : end_at image (start n) ≡ start n + field_length n = omega (arith, length_in b) in
    let r = reached_place place n (omega arith) (without_last b) in
    rw e at (reached_next r (omega (arith, next_within b)) (λ t. omega (arith, tag_in b)))

module _ (settings : List ℤ) (place : ℕ) (h : place < SETTINGS) where
  -- each tag's value is found in the image of any settings
  pub stored_tag_found : walk (image_of settings) (tag_of place) ≡ Ok (record { start = start place + HEADER; end = start place + HEADER + size_at place })
  unfolding start
  stored_tag_found =
      let b = image_begins settings place h in
      let r = reached_place place place (omega arith) (without_last b) in
      rw (length_in b) at (tag_met r (omega (arith, next_within b, length_in b)) (tag_in b))

  -- and the bytes so found are the value's
  pub stored_value_found : part_of (image_of settings) (walk (image_of settings) (tag_of place)) ≡ value_bytes place (at settings place)
  stored_value_found =
      let size : start place + HEADER + size_at place - (start place + HEADER) ≡ size_at place = omega arith in
      rw (stored_tag_found, size) (value_in (image_begins settings place h))
