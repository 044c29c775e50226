-- A move of p toward g by m. From below it adds the smaller of m and the distance, and from above it takes that away: all else is linear.
use mathlib.Core.Bool.{true, false}
use mathlib.Core.Logic.{◌≢◌}
use mathlib.Core.Path.{◌≡◌, sym, ◌∙◌}
use Prim.Native.Nat.{ℕ, ◌+◌, ◌-◌, ◌≤◌, ◌<◌, min}
use native.Mathlib.Omega.{arith}
use borrow.Author.Tests.{lt-ltb, le-ltb}
use lib.IntN.{ℤ, pos, ◌+ℤ◌, ◌-ℤ◌}
use lib.Signed.{lt_z, ◌≤ℤ◌}
use Rattle.integers.proofs.Linear.{ints, up, dn, add_nat, sub_nat, abs_nat}
use Rattle.integers.proofs.Cases.{by_test, by_less, by_less_ℤ}
use Rattle.ramp.specs.Ramp.{distance, toward, moved}

-- p is below g, at it, or above it
by_way {ℓ} : (p g : ℤ) {X : Type ℓ} → (p ≤ℤ g → X) → (g ≤ℤ p → X) → X
by_way p g f h = by_less_ℤ p g (λ l. f (omega (arith, ints))) h

-- ---- the distance

pub gap_up : (p g : ℤ) → p ≤ℤ g → up p + (dn g + distance p g) ≡ dn p + up g
unfolding distance
gap_up p g h = omega (arith, ints, sub_nat p g, abs_nat (p -ℤ g))

pub gap_down : (p g : ℤ) → g ≤ℤ p → dn p + (up g + distance p g) ≡ up p + dn g
unfolding distance
gap_down p g h = omega (arith, ints, sub_nat p g, abs_nat (p -ℤ g))

pub distance_self : (g : ℤ) → distance g g ≡ 0
unfolding distance
distance_self g = omega (arith, sub_nat g g, abs_nat (g -ℤ g))

pub distance_zero : (p g : ℤ) → distance p g ≡ 0 → p ≡ g
unfolding distance
distance_zero p g h = omega (arith, ints, sub_nat p g, abs_nat (p -ℤ g))

-- ---- the move

pub arrives : (g : ℤ) (m : ℕ) (p : ℤ) → distance p g ≤ m → moved g m p ≡ g
unfolding moved
arrives g m p h = rw (le-ltb m (distance p g) h)

pub on_the_way : (g : ℤ) (m : ℕ) (p : ℤ) → m < distance p g → moved g m p ≡ toward g m p
unfolding moved
on_the_way g m p h = rw (lt-ltb m (distance p g) h)

pub toward_none : (g p : ℤ) → toward g 0 p ≡ p
unfolding toward
toward_none g p = by_test (λ q. q ≡ p) (lt_z p g) (λ e. omega (arith, ints, add_nat p (pos 0))) (λ e. omega (arith, ints, sub_nat p (pos 0)))

pub moved_up : (g : ℤ) (m : ℕ) (p : ℤ) → p ≤ℤ g → moved g m p ≡ p +ℤ pos (min m (distance p g))
unfolding toward
moved_up g m p h =
    by_less m (distance p g)
    (λ l. let e : lt_z p g ≡ true = omega (arith, ints, gap_up p g h) in
    let s : min m (distance p g) ≡ m = omega arith in
    on_the_way g m p l ∙ rw (e, s))
    (λ l. arrives g m p l ∙ omega (arith, ints, gap_up p g h, add_nat p (pos (min m (distance p g)))))

pub moved_down : (g : ℤ) (m : ℕ) (p : ℤ) → g ≤ℤ p → moved g m p ≡ p -ℤ pos (min m (distance p g))
unfolding toward
moved_down g m p h =
    by_less m (distance p g)
    (λ l. let e : lt_z p g ≡ false = omega (arith, ints) in
    let s : min m (distance p g) ≡ m = omega arith in
    on_the_way g m p l ∙ rw (e, s))
    (λ l. arrives g m p l ∙ omega (arith, ints, gap_down p g h, sub_nat p (pos (min m (distance p g)))))

-- where a move ends, as linear facts: `Up` from below, `Down` from above
pub record Up (g : ℤ) (m : ℕ) (p : ℤ) : Type 0 where
  pub below : p ≤ℤ g
  pub ends : up (moved g m p) + dn p ≡ dn (moved g m p) + (up p + min m (distance p g))
  pub gap : up p + (dn g + distance p g) ≡ dn p + up g

pub record Down (g : ℤ) (m : ℕ) (p : ℤ) : Type 0 where
  pub above : g ≤ℤ p
  pub ends : up (moved g m p) + (dn p + min m (distance p g)) ≡ dn (moved g m p) + up p
  pub gap : dn p + (up g + distance p g) ≡ up p + dn g

module _ (g : ℤ) (m : ℕ) (p : ℤ) where
  pub goes_up : p ≤ℤ g → Up g m p
  goes_up h = record { below = h; ends = omega (arith, ints, moved_up g m p h, add_nat p (pos (min m (distance p g)))); gap = gap_up p g h }

  pub goes_down : g ≤ℤ p → Down g m p
  goes_down h = record { above = h; ends = omega (arith, ints, moved_down g m p h, sub_nat p (pos (min m (distance p g)))); gap = gap_down p g h }

  pub by_move {ℓ} : {X : Type ℓ} → (Up g m p → X) → (Down g m p → X) → X
  by_move f h = by_way p g (λ l. f (goes_up l)) (λ l. h (goes_down l))

-- ---- moves compose, and the distance closes by m

pub moved_none : (g p : ℤ) → moved g 0 p ≡ p
moved_none g p = by_move g 0 p (λ w. omega (arith, ints)) (λ w. omega (arith, ints))

pub moved_distance : (g : ℤ) (m : ℕ) (p : ℤ) → distance (moved g m p) g ≡ distance p g - m
moved_distance g m p =
    by_move g m p
    (λ w. let h : moved g m p ≤ℤ g = omega (arith, ints) in omega (arith, gap_up (moved g m p) g h))
    (λ w. let h : g ≤ℤ moved g m p = omega (arith, ints) in omega (arith, gap_down (moved g m p) g h))

pub moved_again : (g : ℤ) (a b : ℕ) (p : ℤ) → moved g a (moved g b p) ≡ moved g (b + a) p
moved_again g a b p =
    let q = moved g b p in
    by_move g b p
    (λ w. let h : q ≤ℤ g = omega (arith, ints) in
    let v = goes_up g a q h in let z = goes_up g (b + a) p w.below in let d = moved_distance g b p in omega (arith, ints))
    (λ w. let h : g ≤ℤ q = omega (arith, ints) in
    let v = goes_down g a q h in let z = goes_down g (b + a) p w.above in let d = moved_distance g b p in omega (arith, ints))

pub short_of : (g : ℤ) (m : ℕ) (p : ℤ) → m < distance p g → moved g m p ≢ g
short_of g m p h e = let z : distance p g - m ≡ 0 = sym (moved_distance g m p) ∙ rw e (distance_self g) in omega arith
