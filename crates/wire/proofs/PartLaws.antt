-- Laws of the first elements of a list. Assumes nothing.
use mathlib.Core.Path.{◌≡◌, sym, ◌∙◌}
use mathlib.Core.List.{List}
use Prim.Native.Nat.{ℕ, min}
use native.Mathlib.Omega.{arith}
use native.Mathlib.Decide.{dec_lt}
use lib.ListN.{length, take}
use lib.Seq.{take_all}

-- as many of them as there are
pub take_least : (xs : List ℕ) (k n : ℕ) → n ≡ min k (length xs) → take n xs ≡ take k xs
take_least xs k n e =
    elim (dec_lt (length xs) k) [
      | yes l ↦ take_all n xs (omega arith) ∙ sym (take_all k xs (omega arith))
      | no l ↦ let h : n ≡ k = omega arith in rw h
    ]
