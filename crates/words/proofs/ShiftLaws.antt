-- Laws of the bits of words that are moved up, masked or joined. Assumes nothing.
use Prim.Native.Nat.{ℕ, suc, ◌+◌, ◌-◌, ◌*◌, ◌/◌, ◌%◌, ◌^◌, ◌≤◌, ◌<◌, min}
use mathlib.Core.Path.{◌≡◌, sym, ap, ap₂, ◌∙◌}
use mathlib.Core.Bool.{Bool, true, false, ◌&&◌, ◌||◌, or-false}
use mathlib.Core.Logic.{⊎_elim}
use native.Mathlib.Nat.{mul_assoc, mod-lt, lt_of_le_of_lt, lt_of_lt_of_le}
use native.Mathlib.Omega.{arith}
use lib.Bits.{bit_and, bit_or, and_le_l, or_lt, shifted_even}
use lib.Dec.{eqb}
use lib.Pow.{pow_pos, pow_mono, pow-add, shl-shr, shr_lt}
use Rattle.bits.specs.Bits.{has, word}
use Rattle.bits.proofs.TestLaws.{lt_or_le}
use Rattle.bits.proofs.BitLaws.{has_and, has_or, has_low, has_high, has_shr, has_word, word_lt, is_word, none_high}
use Rattle.words.proofs.LowBitsLaws.{low_lt, low_has}

-- a word moved up by k has 0 below, and its bits above
pub moved_low : (x k i : ℕ) → i < k → i < 64 → has (x * 2 ^ k % 2 ^ 64) i ≡ false
unfolding has
moved_low x k i h l =
    let e : k ≡ suc (k - suc i) + i = omega arith in
    let split : x * 2 ^ k ≡ x * 2 ^ suc (k - suc i) * 2 ^ i = ap (λ y. x * 2 ^ y) e ∙ ap (λ y. x * y) (pow-add 2 (suc (k - suc i)) i) ∙ sym (mul_assoc x (2 ^ suc (k - suc i)) (2 ^ i)) in
    has_low 64 (x * 2 ^ k) i l ∙ ap (λ y. eqb (y / 2 ^ i % 2) 1) split ∙ ap (λ y. eqb (y % 2) 1) (shl-shr (x * 2 ^ suc (k - suc i)) i) ∙ ap (λ y. eqb y 1) (shifted_even x (k - suc i))

pub moved_high : (x k i : ℕ) → k ≤ i → i < 64 → has (x * 2 ^ k % 2 ^ 64) i ≡ has x (i - k)
moved_high x k i h l =
    let e : i ≡ k + (i - k) = omega arith in
    has_low 64 (x * 2 ^ k) i l ∙ ap (has (x * 2 ^ k)) e ∙ sym (has_shr (x * 2 ^ k) k (i - k)) ∙ ap (λ y. has y (i - k)) (shl-shr x k)

-- the mask of the n lowest bits lets through what stands below n
pub masked_word : (n mask x : ℕ) → n ≤ 64 → mask ≡ word (min n 64) (λ _. true) → (f : ℕ → Bool) → ((i : ℕ) → i < n → has x i ≡ f i) → bit_and mask x ≡ word n f
masked_word n mask x few m f h =
    is_word n (bit_and mask x) f (lt_of_le_of_lt (and_le_l mask x) (low_lt n mask few m)) (λ i l. has_and mask x i ∙ ap₂ ◌&&◌ (low_has n mask few m i l) (h i l))

-- k bits after the `at` bits of another word
module _ (at k a b : ℕ) (f : ℕ → Bool) (ea : a ≡ word at f) (eb : b ≡ word k (λ i. f (at + i))) (i : ℕ) (l : i < 64) where
  joined_in : i < at + k → has (bit_or (b * 2 ^ at % 2 ^ 64) a) i ≡ f i
  joined_in h =
      has_or (b * 2 ^ at % 2 ^ 64) a i
      ∙ ⊎_elim (λ q. ap₂ ◌||◌ (moved_low b at i q l) (ap (λ x. has x i) ea ∙ has_word at f i q))
      (λ q. let there : at + (i - at) ≡ i = omega arith in
      ap₂ ◌||◌ (moved_high b at i q l ∙ ap (λ x. has x (i - at)) eb ∙ has_word k (λ i. f (at + i)) (i - at) (omega arith) ∙ ap f there)
      (ap (λ x. has x i) ea ∙ has_high at (word at f) i (word_lt at f) q) ∙ or-false (f i)) (lt_or_le i at)

  joined_past : at + k ≤ i → has (bit_or (b * 2 ^ at % 2 ^ 64) a) i ≡ false
  joined_past h =
      has_or (b * 2 ^ at % 2 ^ 64) a i
      ∙ ap₂ ◌||◌ (moved_high b at i (omega arith) l ∙ ap (λ x. has x (i - at)) eb ∙ has_high k (word k (λ i. f (at + i))) (i - at) (word_lt k _) (omega arith))
      (ap (λ x. has x i) ea ∙ has_high at (word at f) i (word_lt at f) (omega arith))

joined_lt : (at k a b : ℕ) (f : ℕ → Bool) → at ≤ 64 → a ≡ word at f → bit_or (b * 2 ^ at % 2 ^ 64) a < 2 ^ 64
joined_lt at k a b f h ea = or_lt 64 (b * 2 ^ at % 2 ^ 64) a (mod-lt _ (pow_pos 64)) (rw ea (lt_of_lt_of_le (word_lt at f) (pow_mono {j = 64} h)))

-- they fill a word, or not
pub joined : (at k a b : ℕ) (f : ℕ → Bool) → at < 64 → 64 ≤ at + k → a ≡ word at f → b ≡ word k (λ i. f (at + i)) → bit_or (b * 2 ^ at % 2 ^ 64) a ≡ word 64 f
joined at k a b f h room ea eb =
    is_word 64 (bit_or (b * 2 ^ at % 2 ^ 64) a) f (joined_lt at k a b f (omega arith) ea) (λ i l. joined_in at k a b f ea eb i l (omega arith))

pub joined_short : (at k a b : ℕ) (f : ℕ → Bool) → at + k ≤ 64 → a ≡ word at f → b ≡ word k (λ i. f (at + i)) → bit_or (b * 2 ^ at % 2 ^ 64) a ≡ word (at + k) f
joined_short at k a b f room ea eb =
    let x = bit_or (b * 2 ^ at % 2 ^ 64) a in
    let less = joined_lt at k a b f (omega arith) ea in
    is_word (at + k) x f
    (none_high 64 (at + k) x less (λ i h. ⊎_elim (λ l. joined_past at k a b f ea eb i l h) (has_high 64 x i less) (lt_or_le i 64)))
    (λ i l. joined_in at k a b f ea eb i (omega arith) l)

-- the bits from bit s on
pub from_bit : (s k x : ℕ) (f : ℕ → Bool) → x ≡ word (k + s) f → x / 2 ^ s ≡ word k (λ i. f (s + i))
from_bit s k x f e =
    is_word k (x / 2 ^ s) _ (shr_lt k s (rw e (word_lt (k + s) f))) (λ i l. has_shr x s i ∙ ap (λ y. has y (s + i)) e ∙ has_word (k + s) f (s + i) (omega arith))
