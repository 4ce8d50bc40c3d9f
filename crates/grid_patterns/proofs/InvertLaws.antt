-- Laws of the promise: which sizes there are, and no second outcome. Assumes nothing.
use Prim.Native.Nat.{ℕ, ◌≤◌}
use mathlib.Core.Path.{◌≡◌, refl, sym, ◌∙◌}
use mathlib.Core.Bool.{Bool, true, false}
use borrow.Author.Tests.{leb-true, eqb-true, le-leb, eq-eqb}
use lib.Dec.{leb}
use lib.ListN.{length}
use Rattle.bits.proofs.TestLaws.{and_left, and_right}
use Rattle.grid_patterns.specs.Promises.{invertible, OneInvert}

pub sizes : (used from into : ℕ) → invertible used from into ≡ true → (used ≤ 8) × (from ≤ 64) × (into ≡ from)
unfolding invertible
sizes used from into h =
    let h₁ = and_right (leb from 64) _ h in
    (leb-true used 8 (and_left _ _ h₁), leb-true from 64 (and_left _ _ h), eqb-true into from (and_right (leb used 8) _ h₁))

pub can_invert : (used from into : ℕ) → used ≤ 8 → from ≤ 64 → into ≡ from → invertible used from into ≡ true
unfolding invertible
can_invert used from into h k e = rw (le-leb from 64 k, le-leb used 8 h) (eq-eqb into from e)

pub one_invert : OneInvert
one_invert rows columns used from before after after' p q = by (invertible used (length from) (length before)) refl
  where
    by : (t : Bool) → invertible used (length from) (length before) ≡ t → after ≡ after'
    by true e = p.inverted e ∙ sym (q.inverted e)
    by false e = p.untouched e ∙ sym (q.untouched e)
