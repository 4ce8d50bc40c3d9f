-- What the proofs of a read, a plan and a store share: numbers, lengths and words that were judged. Assumes nothing.
use Prim.Native.Nat.{ℕ, ◌^◌}
use mathlib.Core.Path.{◌≡◌, refl, sym, ◌∙◌}
use mathlib.Core.Bool.{Bool, true, false, not, cond, ◌||◌}
use mathlib.Core.List.{List}
use mathlib.Core.Logic.{◌≢◌}
use native.Mathlib.Omega.{arith}
use Rattle.bits.specs.Bits.{Below}
use Rattle.bits.proofs.TestLaws.{clash}
use Rattle.refusals.proofs.NumberLaws.{number_some, no_index}
use Rattle.refusals.specs.Numbers.{number, index}
use Rattle.refusals.specs.declared.Refusal.{Refusal}
use Rattle.grid_promises.specs.Calls.{past, plan_past}
use Rattle.grid_promises.proofs.RefusalLaws.{within}
use Rattle.grid_levels.specs.Steps.{block_of}

-- ---- numbers and lengths

-- by whether numbers are in range and lengths right: a refusal stands, whatever else would be judged; and none lets the call go on
stands : (r s : Bool) (y : ℕ) → (cond {A = ℕ} (not r) 1 (cond s 0 2) ≡ 0 → ⊥) → cond {A = ℕ} (not r) 1 (cond s 0 2) ≡ cond (not r) 1 (cond (not s) 2 y)
stands true true y h = absurd (h refl)
stands true false y h = refl
stands false s y h = refl

pub passes : (r s : Bool) → cond {A = ℕ} (not r) 1 (cond s 0 2) ≡ 0 → (r ≡ true) × (s ≡ true)
passes true true h = (refl, refl)
passes true false h = absurd (omega arith)
passes false s h = absurd (omega arith)

-- a refusal of numbers and lengths is not 4
not_four : (r s : Bool) → cond {A = ℕ} (not r) 1 (cond s 0 2) ≢ 4
not_four true true h = omega arith
not_four true false h = omega arith
not_four false s h = omega arith

-- ---- refusals

-- a refusal of numbers and lengths is one of the call, whatever else would be judged, and has no index
pub judged_refusal : (r s : Bool) (y : ℕ) (e : Refusal) → number e ≡ cond (not r) 1 (cond s 0 2) → (number e ≡ cond (not r) 1 (cond (not s) 2 y)) × (number e ≢ 4) × (index e ≡ 0)
judged_refusal r s y e h =
    let other : number e ≢ 4 = λ z. not_four r s (sym h ∙ z) in
    (h ∙ stands r s y (λ z. omega (arith, number_some e, h ∙ z)), other, no_index e other)

-- ---- words within the columns

pub none_of : (a b c : Bool) → a || (b || c) ≡ false → (a ≡ false) × (b ≡ false) × (c ≡ false)
none_of true b c h = clash refl h
none_of false true c h = clash refl h
none_of false false c h = (refl, refl, h)

pub mask_inside : (n : ℕ) (d mask values : List ℕ) → plan_past (block_of n d mask values) ≡ false → Below (2 ^ n) mask
mask_inside n d mask values h = (within n mask).0 (none_of (past n d) (past n mask) (past n values) h).1
