-- Of two numbers of refusals the first that is not 0 is the answer. Assumes nothing.
use mathlib.Core.Path.{◌≡◌, refl, sym, ap, ◌∙◌}
use Prim.Native.Nat.{ℕ, zero, suc, ◌<◌}
use native.Mathlib.Omega.{arith}
use Rattle.refusals.specs.Numbers.{number}
use Rattle.refusals.proofs.NumberLaws.{number_some}
use Rattle.refusals.specs.declared.Refusal.{Refusal}
use Rattle.pointer_promises.specs.Pointer.{or_else}

first_number : (j k : ℕ) → 0 < j → or_else j k ≡ j
first_number zero k h = absurd (omega arith)
first_number (suc j) k h = refl

-- a refusal by the first number, or by the second where the first is 0
pub at_first : (e : Refusal) (j k : ℕ) → number e ≡ j → number e ≡ or_else j k
at_first e j k h = h ∙ sym (first_number j k (let p : 0 < number e = number_some e in omega arith))

pub at_second : (l j k : ℕ) → 0 ≡ j → l ≡ k → l ≡ or_else j k
at_second l j k z h = h ∙ ap (λ x. or_else x k) z
