-- Laws of all pairs of sets: the words are copied, and then each pair inverts some. Assumes nothing.
use Prim.Native.Nat.{ℕ, zero, suc, ◌+◌, ◌%◌, ◌^◌, ◌≤◌, ◌<◌, min}
use mathlib.Core.Path.{◌≡◌, refl, sym, ap, ap₂, ◌∙◌}
use mathlib.Core.Bool.{Bool, true, false, not, xor, ◌&&◌, and-true}
use mathlib.Core.List.{List}
use native.Mathlib.Nat.{lt_of_le_of_lt}
use native.Mathlib.Numerals.{add-one}
use native.Mathlib.Omega.{arith}
use lib.Bits.{bit_and, and_le_r}
use lib.Dec.{eqb}
use lib.ListN.{length, get_or}
use Rattle.bits.specs.Bits.{num, sum, has, word, words, Below}
use Rattle.bits.proofs.TestLaws.{xor_true, xor_false, xor_assoc}
use Rattle.bits.proofs.BitLaws.{has_and}
use Rattle.bits.proofs.ByteLaws.{has_words, is_words, length_words, words_below, words_ext}
use Rattle.words.proofs.LowBitsLaws.{low_lt, low_has}
use Rattle.rdis.specs.Block.{bit}
use Rattle.grid_sets.specs.Sets.{crossings, odd}
use Rattle.grid_patterns.specs.Promises.{inverted_by}

pub none_inverted : (rows columns from : List ℕ) → Below (2 ^ 64) from → from ≡ words (length from) 64 (inverted_by rows columns 0 from)
unfolding inverted_by odd crossings sum bit
none_inverted rows columns from h = is_words (length from) 64 (inverted_by rows columns 0 from) from refl (λ i _. h i) (λ i j _ _. sym (xor_false (bit from i j)))

-- ---- one pair more

odd_next : (n d : ℕ) → n % 2 ≡ d → not (eqb (n % 2) 1) ≡ eqb ((1 + n) % 2) 1
odd_next n zero e = let q : (1 + n) % 2 ≡ 1 = omega arith in rw (e, q)
odd_next n (suc zero) e = let q : (1 + n) % 2 ≡ 0 = omega arith in rw (e, q)
odd_next n (suc (suc d)) e = absurd (omega arith)

odd_more : (a : Bool) (n : ℕ) → xor a (eqb (n % 2) 1) ≡ eqb ((num a + n) % 2) 1
odd_more true n = xor_true (eqb (n % 2) 1) ∙ odd_next n (n % 2) refl
odd_more false n = let e : 0 + n ≡ n = omega arith in xor_false (eqb (n % 2) 1) ∙ rw e

-- whether a pair more has both changes whether their number is odd
odd_suc : (rows columns : List ℕ) (m i j : ℕ) → xor (has (get_or rows m 0) i && has (get_or columns m 0) j) (odd rows columns m i j) ≡ odd rows columns (m + 1) i j
unfolding odd crossings sum
odd_suc rows columns m i j = odd_more (has (get_or rows m 0) i && has (get_or columns m 0) j) (crossings rows columns m i j) ∙ rw add-one

inverted_suc : (rows columns from : List ℕ) (m i j : ℕ)
    → xor (has (get_or rows m 0) i && has (get_or columns m 0) j) (inverted_by rows columns m from i j) ≡ inverted_by rows columns (m + 1) from i j
unfolding inverted_by
inverted_suc rows columns from m i j =
    xor_assoc (has (get_or rows m 0) i && has (get_or columns m 0) j) (odd rows columns m i j) (bit from i j) ∙ ap (λ t. xor t (bit from i j)) (odd_suc rows columns m i j)

module _ (rows columns from : List ℕ) (n inside : ℕ) (size : n ≤ 64) (low : inside ≡ word (min n 64) (λ _. true)) where
  -- what a flip asks: the rows of a set are among the words, and those fit
  pub can_flip : (m : ℕ) (into : List ℕ) → into ≡ words n 64 (inverted_by rows columns m from)
      → (length into ≤ 64) × (bit_and (get_or rows m 0) inside < 2 ^ length into) × Below (2 ^ 64) into
  can_flip m into e =
      rw (e, length_words n 64 (inverted_by rows columns m from))
      (size, lt_of_le_of_lt (and_le_r (get_or rows m 0) inside) (low_lt n inside size low), words_below n 64 (inverted_by rows columns m from))

  has_inside : (x i : ℕ) → i < n → has (bit_and x inside) i ≡ has x i
  has_inside x i l = has_and x inside i ∙ ap (λ t. has x i && t) (low_has n inside size low i l) ∙ and-true (has x i)

  pub invert_more : (m : ℕ) (into out : List ℕ) → into ≡ words n 64 (inverted_by rows columns m from)
      → out ≡ words (length into) 64 (λ i j. xor (has (bit_and (get_or rows m 0) inside) i && has (get_or columns m 0) j) (bit into i j))
      → out ≡ words n 64 (inverted_by rows columns (m + 1) from)
  unfolding bit
  invert_more m into out e h =
      let f : ℕ → ℕ → Bool = λ i j. xor (has (bit_and (get_or rows m 0) inside) i && has (get_or columns m 0) j) (bit into i j) in
      h ∙ ap (λ k. words k 64 f) (ap length e ∙ length_words n 64 (inverted_by rows columns m from))
      ∙ words_ext n 64 f (inverted_by rows columns (m + 1) from)
      (λ i j p q.
      ap₂ (λ x y. xor (x && has (get_or columns m 0) j) y) (has_inside (get_or rows m 0) i p)
      (ap (λ ws. bit ws i j) e ∙ has_words n 64 (inverted_by rows columns m from) i j p q)
      ∙ inverted_suc rows columns from m i j)
