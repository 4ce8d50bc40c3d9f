-- The lowest 1 of a word is taken in one way. Assumes nothing.
use Prim.Native.Nat.{ℕ, ◌^◌, ◌<◌}
use mathlib.Core.Path.{◌≡◌, refl, sym, ap, ◌∙◌}
use mathlib.Core.Bool.{not, ◌&&◌}
use mathlib.Core.Logic.{⊎_elim}
use native.Mathlib.Omega.{arith}
use lib.Dec.{eqb}
use Rattle.std.specs.Prelude.{Some, None}
use Rattle.bits.specs.Bits.{has}
use Rattle.bits.proofs.TestLaws.{clash, lt_or_le}
use Rattle.bits.proofs.BitLaws.{has_zero, has_ext}
use Rattle.words.specs.SetBits.{TakesLowest, OneNext}

module _ (x i i' y y' : ℕ) (t : TakesLowest x i y) (t' : TakesLowest x i' y') where
  same_place : i ≡ i'
  same_place = ⊎_elim (λ l. clash t.set (t'.lowest i l)) (λ l. ⊎_elim (λ m. clash t'.set (t.lowest i' m)) (λ m. omega arith) (lt_or_le i' i)) (lt_or_le i i')

  same_rest : x < 2 ^ 64 → y ≡ y'
  same_rest l =
      has_ext 64 y y' (omega (arith, t.fewer)) (omega (arith, t'.fewer))
      (λ j _. t.others j ∙ ap (λ p. has x j && not (eqb j p)) same_place ∙ sym (t'.others j))

-- a word without a 1 has no lowest
none_taken : {A : Type 0} (x i y : ℕ) → x ≡ 0 → TakesLowest x i y → A
none_taken x i y e t = clash t.set (ap (λ v. has v i) e ∙ has_zero i)

pub one_next : OneNext
one_next x None None y y' l (_, e) (_, e') = (refl, e ∙ sym e')
one_next x None (Some i) y y' l (e, _) t = none_taken x i y' e t
one_next x (Some i) None y y' l t (e, _) = none_taken x i y e t
one_next x (Some i) (Some i') y y' l t t' = (ap Some (same_place x i i' y y' t t'), same_rest x i i' y y' t t' l)
