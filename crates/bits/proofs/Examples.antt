-- Each definition computed on literals, so that a reader sees which way round it counts. Assumes nothing.
use mathlib.Core.Path.{◌≡◌, refl}
use mathlib.Core.Bool.{true, false}
use mathlib.Core.List.{[], ◌∷◌}
use Prim.Native.Nat.{◌*◌, ◌^◌}
use lib.Dec.{eqb, ltb}
use mathlib.Core.Logic.{inl, inr}
use native.Mathlib.Omega.{arith}
use Rattle.bits.specs.First.{◌when◌, First, rising}
use Rattle.bits.proofs.FirstLaws.{hit, miss}
use Rattle.bits.specs.Bits.{some, first, sum, list, has, word, words, at, bytes, number, digits}

some_below : (some 4 (λ k. eqb k 3) ≡ true) × (some 3 (λ k. eqb k 3) ≡ false) × (some 0 (λ k. true) ≡ false)
unfolding some
some_below = (refl, refl, refl)

-- of several the first, and the last alone; 0 where all pass; the bound where none does
first_of_some : (first 5 (ltb 2) ≡ 3) × (first 5 (eqb 4) ≡ 4) × (first 5 (λ k. true) ≡ 0) × (first 5 (ltb 7) ≡ 5) × (first 0 (λ k. true) ≡ 0)
unfolding first
first_of_some = (refl, refl, refl, refl, refl)

sum_below : (sum 4 (λ k. k * k) ≡ 14) × (sum 0 (λ k. 7) ≡ 0)
unfolding sum
sum_below = (refl, refl)

list_of_three : list 3 (λ k. k * 10) ≡ 0 ∷ 10 ∷ 20 ∷ []
unfolding list
list_of_three = refl

-- 12 is 1100 in binary
bits_of_twelve : (has 12 0 ≡ false) × (has 12 1 ≡ false) × (has 12 2 ≡ true) × (has 12 3 ≡ true) × (has 12 4 ≡ false) × (has (2 ^ 63) 63 ≡ true)
unfolding has
bits_of_twelve = (refl, refl, refl, refl, refl, refl)

word_of_bits : (word 4 (ltb 1) ≡ 12) × (word 2 (ltb 1) ≡ 0) × (word 64 (λ _. true) ≡ 18446744073709551615)
unfolding word
word_of_bits = (refl, refl, refl)

-- row i of three holds the column i
words_of_bits : words 3 3 eqb ≡ 1 ∷ 2 ∷ 4 ∷ []
unfolding words word list
words_of_bits = refl

-- bit 9 is bit 1 of the second byte; past the end no bit is set
bits_of_bytes : (at (0 ∷ 2 ∷ []) 9 ≡ true) × (at (0 ∷ 2 ∷ []) 8 ≡ false) × (at (0 ∷ 2 ∷ []) 1 ≡ false) × (at (0 ∷ 2 ∷ []) 16 ≡ false)
unfolding at has
bits_of_bytes = (refl, refl, refl, refl)

bytes_of_bits : bytes 2 (eqb 9) ≡ 0 ∷ 2 ∷ []
unfolding bytes words word list
bytes_of_bits = refl

-- 258 is 2 and then 1 to the base 256, and 2, 0, 0, 0, 1 to the base 4
digits_of_258 : (digits 256 2 258 ≡ 2 ∷ 1 ∷ []) × (digits 4 5 258 ≡ 2 ∷ 0 ∷ 0 ∷ 0 ∷ 1 ∷ []) × (digits 256 1 258 ≡ 2 ∷ [])
unfolding digits
digits_of_258 = (refl, refl, refl)

number_of_digits : (number 256 (2 ∷ 1 ∷ []) ≡ 258) × (number 4 (2 ∷ 0 ∷ 0 ∷ 0 ∷ 1 ∷ []) ≡ 258) × (number 4 [] ≡ 0)
unfolding number
number_of_digits = (refl, refl, refl)

-- of lines in the order 9, 2, 8, of which the last two apply, 2 is the first; in the order 9, 8, 2 it is not, though it is lower; where none applies, 0
first_of_lines : First ((9 when ⊥) ∷ (2 when Unit {0}) ∷ (8 when Unit {0}) ∷ []) 2 × (First ((9 when ⊥) ∷ (8 when Unit {0}) ∷ (2 when Unit {0}) ∷ []) 2 → ⊥) × First ((9 when ⊥) ∷ []) 0
first_of_lines = (record { found = inr (λ h. h, inl (tt, refl)) }, λ r. omega (arith, hit (miss r (λ h. h)) tt), record { found = inr (λ h. h, refl) })

-- numbers rise from above 0, and none is as great as the one before
rising_lines : (rising 0 ((1 when ⊥) ∷ (2 when ⊥) ∷ (9 when ⊥) ∷ []) ≡ true) × (rising 0 ((1 when ⊥) ∷ (9 when ⊥) ∷ (2 when ⊥) ∷ []) ≡ false)
    × (rising 0 ((2 when ⊥) ∷ (2 when ⊥) ∷ []) ≡ false) × (rising 0 ((0 when ⊥) ∷ []) ≡ false)
rising_lines = (refl, refl, refl, refl)
