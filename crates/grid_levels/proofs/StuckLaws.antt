-- Laws of the stuck cells of rows, as bits of words. Assumes nothing.
use Prim.Native.Nat.{ℕ, zero, suc, ◌+◌, ◌-◌, ◌*◌, ◌^◌, ◌≤◌, ◌<◌}
use mathlib.Core.Path.{◌≡◌, refl, sym, ap, ap₂, subst, ◌∙◌}
use mathlib.Core.Bool.{Bool, true, false, not, xor, cond, ◌&&◌}
use mathlib.Core.List.{List}
use native.Mathlib.Nat.{lt_of_lt_of_le, pow-suc, add-mul, mul_assoc, mul_comm}
use native.Mathlib.Omega.{arith}
use borrow.Author.Tests.{le-leb}
use lib.Bits.{bit_and, bit_or, bit_xor}
use lib.Dec.{eqb, leb}
use lib.ListN.{length, get_or}
use lib.Pow.{pow-add, pow_mono}
use Rattle.bits.specs.Bits.{num, has, word}
use Rattle.bits.proofs.TestLaws.{num_lt}
use Rattle.bits.proofs.BitLaws.{word_lt, word_ext, word_more, has_and, has_xor}

-- ---- the cells of one kind

-- stuck cells of one kind: all, and those that differ or the others
kind : (m d : Bool) → xor m (m && d) ≡ m && not d
unfolding xor
kind true true = refl
kind true false = refl
kind false d = refl

pub wrong_bits : (want mask value j : ℕ) → has (bit_and mask (bit_xor want value)) j ≡ has mask j && xor (has want j) (has value j)
wrong_bits want mask value j = has_and mask (bit_xor want value) j ∙ ap (λ t. has mask j && t) (has_xor want value j)

pub right_bits : (want mask value j : ℕ) → has (bit_xor mask (bit_and mask (bit_xor want value))) j ≡ has mask j && not (xor (has want j) (has value j))
right_bits want mask value j = has_xor mask (bit_and mask (bit_xor want value)) j ∙ ap (xor (has mask j)) (wrong_bits want mask value j) ∙ kind (has mask j) (xor (has want j) (has value j))

-- ---- the rows that hold a stuck cell, from the last to the first

lowest_bit : (t : Bool) (p x b : ℕ) → num t * (p * 2) + (x * 2 + b) ≡ (num t * p + x) * 2 + b
lowest_bit true p x b = omega arith
lowest_bit false p x b = omega arith

only_bit : (t : Bool) → num t * 1 + 0 ≡ 0 * 2 + num t
only_bit true = refl
only_bit false = refl

-- the lowest bit apart from the others
word_front : (n : ℕ) (f : ℕ → Bool) → word (suc n) f ≡ word n (λ k. f (suc k)) * 2 + num (f 0)
unfolding word
word_front zero f = only_bit (f 0)
word_front (suc n) f =
    ap₂ (λ p w. num (f (suc n)) * p + w) (pow-suc 2 n) (word_front n f) ∙ lowest_bit (f (suc n)) (2 ^ n) (word n (λ k. f (suc k))) (num (f 0))

-- the a lowest bits apart from the others
split_step : (t : Bool) (p q x y : ℕ) → num t * (p * q) + (x * p + y) ≡ (num t * q + x) * p + y
split_step t p q x y =
    let e : num t * q * p ≡ num t * (p * q) = mul_assoc (num t) q p ∙ ap (λ z. num t * z) (mul_comm q p) in
    omega (arith, e, add-mul (num t * q) x p)

word_split : (a n : ℕ) (f : ℕ → Bool) → word (a + n) f ≡ word n (λ k. f (a + k)) * 2 ^ a + word a f
unfolding word
word_split a zero f = let e : a + 0 ≡ a = omega arith in ap (λ x. word x f) e ∙ omega arith
word_split a (suc n) f =
    let e : a + suc n ≡ suc (a + n) = omega arith in
    ap (λ x. word x f) e ∙ ap₂ (λ p w. num (f (a + n)) * p + w) (pow-add 2 a n) (word_split a n f) ∙ split_step (f (a + n)) (2 ^ a) (2 ^ n) (word n (λ k. f (a + k))) (word a f)

-- the rows from i on, as bits of a word
abbrev pub From : ℕ → (ℕ → Bool) → ℕ → ℕ → Type 0
From m f i rows = rows ≡ word (m - i) (λ k. f (i + k))

pub mark_few : (t : Bool) (mark : ℕ) → mark ≡ num t * 2 ^ 0 → mark < 2
mark_few t mark e = omega (arith, e, num_lt t)

module _ (m : ℕ) (f : ℕ → Bool) where
  pub from_end : From m f m 0
  unfolding word
  from_end = let e : m - m ≡ 0 = omega arith in rw e

  pub from_few : (i rows : ℕ) → m ≤ 64 → 0 < i → From m f i rows → rows < 2 ^ 63
  from_few i rows l p e = let q : m - i ≤ 63 = omega arith in rw e (lt_of_lt_of_le (word_lt (m - i) _) (pow_mono q))

  before : (i rows mark : ℕ) → i < m → mark ≡ num (f i) * 2 ^ 0 → From m f (suc i) rows → From m f i (rows * 2 + mark)
  before i rows mark l h e =
      let n : m - i ≡ suc (m - suc i) = omega arith in
      let first : i ≡ i + 0 = omega arith in
      let one : mark ≡ num (f i) = omega (arith, h) in
      ap₂ (λ x y. x * 2 + y) (e ∙ word_ext (m - suc i) _ _ (λ k _. ap f (omega arith))) (one ∙ ap (λ x. num (f x)) first)
      ∙ sym (word_front (m - suc i) (λ k. f (i + k))) ∙ ap (λ x. word x (λ k. f (i + k))) (sym n)

  pub from_more : (i rows mark : ℕ) → 0 < i → i ≤ m → mark ≡ num (f (i - 1)) * 2 ^ 0 → From m f i rows → From m f (i - 1) (rows * 2 + mark)
  from_more i rows mark p l h e = let q : i ≡ suc (i - 1) = omega arith in before (i - 1) rows mark (omega arith) h (subst (λ x. From m f x rows) q e)

  -- eight more at a time
  pub from_room : (e rows : ℕ) → m ≤ 64 → 0 < e → From m f (8 * e) rows → rows < 2 ^ 56
  from_room e rows l p h = let q : m - 8 * e ≤ 56 = omega arith in rw h (lt_of_lt_of_le (word_lt (m - 8 * e) _) (pow_mono q))

  eight : (i rows high low : ℕ) → i + 8 ≤ m → high ≡ word 4 (λ k. f (i + 4 + k)) → low ≡ word 4 (λ k. f (i + k)) → From m f (i + 8) rows → From m f i (rows * 256 + (high * 16 + low))
  eight i rows high low l h w e =
      let n : 8 + (m - (i + 8)) ≡ m - i = omega arith in
      let g : ℕ → Bool = λ k. f (i + k) in
      ap₂ (λ x y. x * 256 + y)
      (e ∙ word_ext (m - (i + 8)) _ (λ k. g (8 + k)) (λ k _. ap f (omega arith)))
      (ap₂ (λ x y. x * 16 + y) (h ∙ word_ext 4 _ (λ k. g (4 + k)) (λ k _. ap f (omega arith))) w ∙ sym (word_split 4 4 g))
      ∙ sym (word_split 8 (m - (i + 8)) g) ∙ ap (λ x. word x g) n

  pub from_eight : (e rows high low : ℕ) → 0 < e → 8 * e ≤ m → high ≡ word 4 (λ k. f (8 * (e - 1) + 4 + k)) → low ≡ word 4 (λ k. f (8 * (e - 1) + k)) → From m f (8 * e) rows
      → From m f (8 * (e - 1)) (rows * 256 + (high * 16 + low))
  from_eight e rows high low p l h w s =
      let q : 8 * e ≡ 8 * (e - 1) + 8 = omega arith in
      eight (8 * (e - 1)) rows high low (omega arith) h w (subst (λ x. From m f x rows) q s)

  pub from_start : (i rows : ℕ) → i ≡ 0 → From m f i rows → rows ≡ word m f
  from_start i rows z e = let n : m - i ≡ m = omega arith in e ∙ ap (λ x. word x (λ k. f (i + k))) n ∙ word_ext m _ f (λ k _. ap f (omega arith))

pub four_few : (x : ℕ) (f : ℕ → Bool) → x ≡ word 4 f → x < 16
four_few x f e = rw e (word_lt 4 f)

-- which of four words pass, each put before the others
pub four_bits : (f : ℕ → Bool) (a b c d : ℕ) → a ≡ num (f 3) * 2 ^ 3 → b ≡ num (f 2) * 2 ^ 2 → c ≡ num (f 1) * 2 ^ 1 → d ≡ num (f 0) * 2 ^ 0
    → bit_or a (bit_or b (bit_or c d)) ≡ word 4 f
unfolding word
four_bits f a b c d p q r s =
    let one : d ≡ word 1 f = omega (arith, s) in
    ap₂ bit_or p (ap₂ bit_or q (ap₂ bit_or r one ∙ word_more 1 f (f 1) refl) ∙ word_more 2 f (f 2) refl) ∙ word_more 3 f (f 3) refl

-- of no more rows than a block has
pub rows_few : (mask : List ℕ) (r : ℕ) → length mask ≤ 64 → r ≡ cond (leb (length mask) 64) (word (length mask) (λ i. not (eqb (get_or mask i 0) 0))) 0
    → r ≡ word (length mask) (λ i. not (eqb (get_or mask i 0) 0))
rows_few mask r l e = e ∙ rw (le-leb (length mask) 64 l)
