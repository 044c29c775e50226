-- A value of a type and the number of its bytes stand for each other. Of a span it is used only that it is even, more than zero, and no more than four bytes have.
use mathlib.Core.Path.{◌≡◌, sym, ◌∙◌}
use mathlib.Core.Bool.{Bool, true, false}
use Prim.Native.Nat.{ℕ, ◌+◌, ◌/◌, ◌%◌, ◌≤◌, ◌<◌}
use native.Mathlib.Nat.{mod-lt, mod-mod, mod-eq_of_lt}
use native.Mathlib.Omega.{arith}
use borrow.Author.Tests.{lt-ltb, le-ltb}
use lib.IntN.{ℤ, pos, ◌+ℤ◌, ◌-ℤ◌}
use Rattle.integers.specs.Words.{◌is◌, minus, ◌<?◌}
use Rattle.integers.proofs.Linear.{ints, up, dn, add_nat, sub_nat, abs_nat}
use Rattle.integers.proofs.Cases.{by_cases, by_test, by_less}
use Rattle.coding.specs.Coding.{span, in_span, value_of, number_of, Held, Typed}

-- all that is used of a span
pub record Span (limit : ℕ) : Type 0 where
  pub some : 0 < limit
  pub most : limit ≤ 4294967296
  pub even : limit ≡ limit / 2 + limit / 2
  -- which number minus the half is, for `omega`
  pub half : dn (minus (limit / 2)) ≡ up (minus (limit / 2)) + limit / 2

pub a_span : (size : ℕ) → Span (span size)
unfolding span
a_span size = by_test Span (size is 1) (λ e. omega arith) (λ e. by_test Span (size is 2) (λ f. omega arith) (λ f. omega arith))

-- low bytes are a number below the span
low_below : (size number : ℕ) → number % span size < span size
low_below size number = mod-lt number (a_span size).some

-- a signed value, by the half in which its number lies
module _ (limit low : ℕ) where
  lower : low < limit / 2 → in_span limit true low ≡ pos low
  unfolding in_span
  lower h = simp (lt-ltb low (limit / 2) h)

  upper : limit / 2 ≤ low → in_span limit true low ≡ pos low -ℤ pos limit
  unfolding in_span
  upper h = simp (le-ltb low (limit / 2) h)

-- the bytes of a type hold its values
pub held : {size : ℕ} {signed : Bool} {value : ℤ} → Typed size signed value → Held size value
held {size} {signed = true} t = let s = a_span size in omega (arith, ints)
held {size} {signed = false} t = let s = a_span size in omega (arith, ints)

-- a value below zero and the span together are its number, and another value is its number itself
module _ {size : ℕ} {value : ℤ} (h : Held size value) where
  pub below_zero : (value <? pos 0) ≡ true → pos (span size) +ℤ value ≡ pos (number_of size value)
  unfolding number_of
  below_zero e = let s = a_span size in rw e (omega (arith, ints, abs_nat value, add_nat (pos (span size)) value))

  pub from_zero : (value <? pos 0) ≡ false → value ≡ pos (number_of size value)
  unfolding number_of
  from_zero e = rw e (omega (arith, ints, abs_nat value))

  -- a value's number is one of so many bytes
  pub number_below : number_of size value < span size
  number_below =
      let s = a_span size in
      by_cases (value <? pos 0)
      (λ e. omega (arith, ints, below_zero e, add_nat (pos (span size)) value))
      (λ e. omega (arith, ints, from_zero e))

-- a value's number stands for the value
pub there_and_back : {size : ℕ} {signed : Bool} {value : ℤ} → Typed size signed value → value_of size signed (number_of size value) ≡ value
unfolding value_of in_span
there_and_back {size} {signed = true} {value} t =
    let s = a_span size in
    rw (mod-eq_of_lt (number_below (held t)))
    (by_cases (value <? pos 0)
    (λ e.
    let n = below_zero (held t) e in
    let a = add_nat (pos (span size)) value in
    upper (span size) (number_of size value) (omega (arith, ints)) ∙ omega (arith, ints, sub_nat (pos (number_of size value)) (pos (span size))))
    (λ e. let n = from_zero (held t) e in lower (span size) (number_of size value) (omega (arith, ints)) ∙ sym n))
there_and_back {signed = false} t = rw (mod-eq_of_lt (number_below (held t))) (sym (from_zero (held t) (omega (arith, ints))))

-- what a number stands for is a value of the type
pub value_typed : (size : ℕ) (signed : Bool) (number : ℕ) → Typed size signed (value_of size signed number)
unfolding value_of in_span
value_typed size true number =
    let s = a_span size in
    let low = number % span size in
    let l = low_below size number in
    by_less low (span size / 2)
    (λ h. let e = lower (span size) low h in omega (arith, ints))
    (λ h. let e = upper (span size) low h in omega (arith, ints, sub_nat (pos low) (pos (span size))))
value_typed size false number = let l = low_below size number in omega (arith, ints)

-- the number of what a number stands for is its low bytes
pub back_and_there : (size : ℕ) (signed : Bool) (number : ℕ) → number_of size (value_of size signed number) ≡ number % span size
unfolding value_of in_span
back_and_there size true number =
    let low = number % span size in
    let t = held (value_typed size true number) in
    by_less low (span size / 2)
    (λ h. let e = lower (span size) low h in omega (arith, ints, from_zero t (omega (arith, ints))))
    (λ h.
    let e = upper (span size) low h in
    let d = sub_nat (pos low) (pos (span size)) in
    let l = low_below size number in
    omega (arith, ints, below_zero t (omega (arith, ints)), add_nat (pos (span size)) (value_of size true number)))
back_and_there size false number = omega (arith, ints, from_zero (held (value_typed size false number)) (omega (arith, ints)))

-- bytes beyond the size do not count
pub low_bytes : (size : ℕ) (signed : Bool) (number : ℕ) → value_of size signed (number % span size) ≡ value_of size signed number
unfolding value_of
low_bytes size signed number = rw mod-mod
