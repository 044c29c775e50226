-- A distance d over a step s, rounded up, is the least n of which n steps are enough.
use Prim.Native.Nat.{ℕ, suc, ◌+◌, ◌-◌, ◌*◌, ◌/◌, ◌≤◌, ◌<◌}
use native.Mathlib.Nat.{div-lt_iff_lt-mul}
use native.Mathlib.Omega.{arith}
use Rattle.integers.proofs.Cases.{by_less}
use Rattle.ramp.specs.Ramp.{rounded_up}

module _ (d : ℕ) {s : ℕ} (h : 0 < s) where
  pub enough : (n : ℕ) → rounded_up d s ≤ n → d ≤ n * s
  unfolding rounded_up
  enough n k =
      let l : (d + (s - 1)) / s < suc n = omega arith in
      let m : d + (s - 1) < suc n * s = (div-lt_iff_lt-mul h).0 l in
      omega arith

  pub least : (n : ℕ) → d ≤ n * s → rounded_up d s ≤ n
  unfolding rounded_up
  least n k =
      let l : (d + (s - 1)) / s < suc n = (div-lt_iff_lt-mul h).1 (omega arith) in
      omega arith

  pub too_few : (n : ℕ) → n < rounded_up d s → n * s < d
  too_few n k = by_less (n * s) d (λ l. l) (λ l. let m = least n l in absurd (omega arith))
