-- Laws of the columns' bits after the rows'. Assumes nothing.
use Prim.Native.Nat.{ℕ, ◌+◌, ◌-◌, ◌/◌, ◌^◌, ◌≤◌, ◌<◌}
use mathlib.Core.Path.{◌≡◌, sym, ap, ◌∙◌}
use mathlib.Core.Bool.{Bool, false}
use mathlib.Core.Logic.{⊎_elim}
use native.Mathlib.Nat.{lt_of_le_of_lt, div-le_self}
use native.Mathlib.Omega.{arith}
use lib.Pow.{pow_pos}
use Rattle.bits.specs.Bits.{has, word}
use Rattle.bits.proofs.TestLaws.{lt_or_le}
use Rattle.bits.proofs.BitLaws.{has_zero, has_high, has_shr, has_word, word_lt, is_word}

module _ (b at : ℕ) (f : ℕ → Bool) (e : b ≡ word 64 (λ i. f (at + i))) where
  after : (i t : ℕ) → i < 64 → at + i ≡ t → has b i ≡ f t
  after i t l h = ap (λ x. has x i) e ∙ has_word 64 (λ i. f (at + i)) i l ∙ ap f h

  few : b < 2 ^ 64
  few = rw e (word_lt 64 _)

  module _ (past : (t : ℕ) → at + 64 ≤ t → f t ≡ false) where
    pub back_none : at ≡ 0 → 0 ≡ word 64 (λ i. f (64 + i))
    back_none z = is_word 64 0 (λ i. f (64 + i)) (pow_pos 64) (λ i _. has_zero i ∙ sym (past (64 + i) (omega arith)))

    pub back_some : 0 < at → at ≤ 64 → b / 2 ^ (64 - at) ≡ word 64 (λ i. f (64 + i))
    back_some z h =
        is_word 64 (b / 2 ^ (64 - at)) (λ i. f (64 + i)) (lt_of_le_of_lt (div-le_self b (2 ^ (64 - at))) few)
        (λ i l. has_shr b (64 - at) i
        ∙ ⊎_elim (λ k. after (64 - at + i) (64 + i) (omega arith) (omega arith)) (λ k. has_high 64 b (64 - at + i) few (omega arith) ∙ sym (past (64 + i) (omega arith))) (lt_or_le i at))
