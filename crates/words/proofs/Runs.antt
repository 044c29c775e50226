-- A run of words: read or stored one after the other.
use mathlib.Core.List.{List, [], ◌∷◌, ◌++◌}
use mathlib.Core.Path.{◌≡◌}
use Prim.Native.Nat.{ℕ, suc, ◌+◌, ◌<◌}
use native.Mathlib.Nat.{add-zero}
use native.Mathlib.Numerals.{add-one}
use native.Mathlib.Omega.{arith}
use lib.IntN.{ℤ, pos}
use lib.ListN.{length, get_or, set, take}
use lib.Seq.{sets, take-suc, take-suc-set, length-take-le}
use Rattle.words.specs.Words.{word, run}

-- one more is stored after the others
stored_last : (l : List ℤ) (i : ℕ) (vs : List ℤ) (v : ℤ) → sets l i (vs ++ (v ∷ [])) ≡ set (sets l i vs) (i + length vs) v
stored_last l i [] v = rw (add-zero i)
stored_last l i (u ∷ vs) v =
    let e : suc i + length vs ≡ i + suc (length vs) = omega arith in
    rw (← e) (stored_last (set l i u) (suc i) vs v)

pub stored_more : (l : List ℤ) (i : ℕ) (vs : List ℤ) (k : ℕ) → k < length vs → set (sets l i (take k vs)) (i + k) (get_or vs k (pos 0)) ≡ sets l i (take (k + 1) vs)
stored_more l i vs k h =
    let long : length (take k vs) ≡ k = length-take-le k vs (omega arith) in
    rw (add-one, take-suc vs k (pos 0), stored_last l i (take k vs) (get_or vs k (pos 0)), long)

-- one more is read after the others
pub read_more : (words read : List ℤ) (from k : ℕ) → k < length read → take k read ≡ run words from k → take (k + 1) (set read k (word words (from + k))) ≡ run words from (k + 1)
unfolding run
read_more words read from k h e = rw (add-one, take-suc-set read k (word words (from + k)), e)
