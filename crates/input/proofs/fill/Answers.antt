-- A read puts its bytes after those that stand in the room already.
use Rattle.std.proofs.Common.{◌≡◌, ℕ, ◌+◌, ◌-◌, ◌≤◌, List, ◌++◌, length, take, drop, rules, sym, ap, ◌∙◌, subst, drop_at, length-take-le, take-add}
use Rattle.std.proofs.lemmas.List.{take-append-le}
use Rattle.std.proofs.lemmas.Slice.{take-put_mid_below}
use Rattle.std.proofs.KnownBytes.{Consumes-trans}
use Rattle.std.specs.Io.KnownBytes.{Consumes}
use borrow.Rule.Slice.PartMut.{put_mid, post_of}
use Rattle.input.proofs.fill.Goals as goal

-- the first n bytes of the room, and so many of what was put after them
more_read : (n more k : ℕ) (room part : List ℕ) → n ≤ length room → more ≤ length part → take n room ++ take more part ≡ take (n + more) (put_mid n k room part)
more_read n more k room part within fits =
    let after = put_mid n k room part in
    let front : take n after ≡ take n room = take-put_mid_below n k room part n (search rules) within in
    let put : drop n after ≡ part ++ post_of n k room = drop_at (take n room) (part ++ post_of n k room) n (length-take-le n room within) in
    let back : take more (drop n after) ≡ take more part = ap (take more) put ∙ take-append-le more part (post_of n k room) fits in
    sym (take-add n more after ∙ ap (λ l. l ++ take more (drop n after)) front ∙ ap (λ l. take n room ++ l) back)

pub loop-n-preserved : goal.loop-n-preserved
loop-n-preserved g c =
    let n = c.loop-n.n in
    let read = c.in_ok-more.ensures in
    let joined = more_read n c.in_ok-more.more (length c.loop-n.room - n) c.loop-n.room c.read.new.buf c.loop-n.invariant.0 read.bound.0 in
    (search rules, subst (Consumes _ _) joined (Consumes-trans _ _ _ _ _ c.loop-n.invariant.1 read.bytes.0))
