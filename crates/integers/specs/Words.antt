-- The words in which every definition is written. Each is a short name of a function of the language's library, but for `◌=?◌`, `◌among◌` and `each`.
use Rattle.std.specs.Prelude.{Bool, true, false, ◌&&◌, ◌||◌, List, [], ◌∷◌, ℕ, zero, suc, eqb, ltb, ℤ, pos, negsuc, neg_ℤ}
use Rattle.std.specs.Int.Signed.{lt_z, le_z, quot_z}

infixl 7 ◌over◌
infix 50 ◌<?◌ ◌≤?◌ ◌=?◌ ◌is◌ ◌below◌ ◌among◌
-- the number below zero
abbrev pub minus : ℕ → ℤ
minus n = neg_ℤ (pos n)

-- divided by n toward zero: the fraction is dropped on both signs
abbrev pub ◌over◌ : ℤ → ℕ → ℤ
z over n = quot_z z (pos n)

-- tests of whole numbers
abbrev pub ◌<?◌ : ℤ → ℤ → Bool
a <? b = lt_z a b

abbrev pub ◌≤?◌ : ℤ → ℤ → Bool
a ≤? b = le_z a b

abbrev pub ◌=?◌ : ℤ → ℤ → Bool
pos a =? pos b = eqb a b
pos a =? negsuc b = false
negsuc a =? pos b = false
negsuc a =? negsuc b = eqb a b

-- tests of numbers from zero up
abbrev pub ◌is◌ : ℕ → ℕ → Bool
a is b = eqb a b

abbrev pub ◌below◌ : ℕ → ℕ → Bool
a below b = ltb a b

-- the number is one of a list
abbrev pub ◌among◌ : ℕ → List ℕ → Bool
n among [] = false
n among (m ∷ list) = n is m || n among list

-- the test holds of each number below n
unfoldable pub each : ℕ → (ℕ → Bool) → Bool
each zero test = true
each (suc n) test = each n test && test n
