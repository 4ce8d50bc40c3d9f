-- A word that is stored leaves no second list. Assumes nothing.
use Prim.Native.Nat.{ℕ, ◌+◌, ◌-◌, ◌*◌, ◌<◌}
use mathlib.Core.Path.{◌≡◌, sym, ap, ◌∙◌}
use mathlib.Core.Bool.{Bool, cond}
use mathlib.Core.List.{List}
use mathlib.Core.Logic.{⊎_elim}
use native.Mathlib.Omega.{arith}
use borrow.Author.Tests.{lt-ltb, le-ltb}
use lib.Dec.{ltb}
use lib.ListN.{get_or}
use lib.Seq.{ext_get_or}
use Rattle.bits.specs.Bits.{has, at, Below}
use Rattle.bits.proofs.TestLaws.{lt_or_le}
use Rattle.bits.proofs.BitLaws.{is_word}
use Rattle.bits.proofs.ByteLaws.{at_byte}
use Rattle.words.specs.Stored.{Filled, OneStored}

-- the bits of the first q bytes, and then those of v
module _ (q v : ℕ) (bs : List ℕ) where
  abbrev bits : ℕ → Bool
  bits p = cond (ltb p (8 * q)) (at bs p) (has v (p - 8 * q))

  first_bytes : Below 256 bs → Filled q bits bs
  first_bytes h t l _ =
      is_word 8 (get_or bs t 0) (λ k. bits (8 * t + k)) (h t)
      (λ k j. sym (at_byte bs t k j) ∙ sym (ap (λ b. cond b (at bs (8 * t + k)) (has v (8 * t + k - 8 * q))) (lt-ltb (8 * t + k) (8 * q) (omega arith))))

  then_word : (i : ℕ) → has v i ≡ bits (8 * q + i)
  then_word i =
      let there : i ≡ 8 * q + i - 8 * q = omega arith in
      ap (has v) there ∙ sym (ap (λ b. cond b (at bs (8 * q + i)) (has v (8 * q + i - 8 * q))) (le-ltb (8 * q + i) (8 * q) (omega arith)))

pub one_stored : OneStored
one_stored q n v before after after' h l l' s s' =
    let f = bits q v before in
    let start = first_bytes q v before h in
    let rest : (i : ℕ) → i < 8 * n → has v i ≡ f (8 * q + i) = λ i _. then_word q v before i in
    ext_get_or 0 after after' (l ∙ sym l') (λ t k. ⊎_elim
    (λ j. s.fills f start rest t j k ∙ sym (s'.fills f start rest t j (omega arith)))
    (λ j. s.keeps t j ∙ sym (s'.keeps t j)) (lt_or_le t (q + n)))
