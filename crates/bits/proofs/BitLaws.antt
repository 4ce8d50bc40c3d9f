-- Laws of the bits of numbers and of words made of bits, and of the machine's operations on words. Assumes nothing.
use mathlib.Core.Path.{◌≡◌, refl, sym, ap, ap₂, subst, ◌∙◌}
use mathlib.Core.Bool.{Bool, true, false, not, xor, ◌&&◌, ◌||◌, and-true, and_self}
use mathlib.Core.Logic.{◌↔◌, ◌≢◌, ⊎_elim}
use Prim.Native.Nat.compare
use Prim.Native.Nat.{ℕ, zero, suc, ◌+◌, ◌-◌, ◌*◌, ◌/◌, ◌%◌, ◌^◌, ◌≤◌, ◌<◌, min, max}
use native.Mathlib.Nat.{mod-lt, mod-one, mod-eq_of_lt, div-one, div-eq_of_lt, lt_of_lt_of_le, pow-suc}
use native.Mathlib.Numerals.{one-add, add-one}
use native.Mathlib.Omega.{arith}
use native.Mathlib.Decide.{ℕ_discrete, dec_le}
use borrow.Author.Tests.{eqb-true, lt-ltb, le-ltb}
use lib.Arith.{lt-one, lt_of_le-ne}
use lib.Bits.{bit_and, bit_or, bit_xor, differ, and_step, or_step, xor_step, and_shr, or_shr, xor_shr, or_shifted, and_le_r}
use lib.Count.{ones, ones_step, under, count_trailing_zeros}
use lib.Dec.{eqb, leb, ltb}
use lib.Pow.{pow_pos, pow_mono, pow-lt, field, mod-mod-pow, mod-pow-add, high, low, shl_exact, shr-shr, ones_lt}
use Rattle.bits.specs.Bits.{num, has, word, some, sum}
use Rattle.bits.proofs.TestLaws.{clash, false_when, lt_or_le, leb_iff, iff_false, and_iff, num_lt, eqb_num, num_eqb, eqb_same}
use Rattle.bits.proofs.BoundLaws.{some_in, some_out, some_iff, sum_ext, sum_front}

-- ---- where a number has bits

-- above its n bits a number has none
pub has_high : (n x j : ℕ) → x < 2 ^ n → n ≤ j → has x j ≡ false
unfolding has
has_high n x j h l = ap (λ y. eqb (y % 2) 1) (div-eq_of_lt (lt_of_lt_of_le h (pow_mono l)))

-- a bit below n is a bit of the n lowest
pub has_low : (n x j : ℕ) → j < n → has (x % 2 ^ n) j ≡ has x j
unfolding has
has_low n x j h =
    let e : (n - (1 + j)) + (1 + j) ≡ n = omega arith in
    ap (λ y. eqb y 1)
    (sym (field (x % 2 ^ n) 1 j) ∙ ap (λ y. y / 2 ^ j) (subst (λ m. x % 2 ^ m % 2 ^ (1 + j) ≡ x % 2 ^ (1 + j)) e (mod-mod-pow x (n - (1 + j)) (1 + j))) ∙ field x 1 j)

pub has_zero : (j : ℕ) → has 0 j ≡ false
has_zero j = has_high 0 0 j (pow_pos 0) (omega arith)

-- bit i of what stands from bit j on
pub has_shr : (x j i : ℕ) → has (x / 2 ^ j) i ≡ has x (j + i)
unfolding has
has_shr x j i = ap (λ y. eqb (y % 2) 1) (shr-shr x j i)

-- ---- words

top_lt : (n w : ℕ) (b : Bool) → w < 2 ^ n → num b * 2 ^ n + w < 2 ^ suc n
top_lt n w true h = rw pow-suc (omega arith)
top_lt n w false h = rw pow-suc (omega arith)

pub word_lt : (n : ℕ) (f : ℕ → Bool) → word n f < 2 ^ n
unfolding word
word_lt zero f = pow_pos 0
word_lt (suc n) f = top_lt n (word n f) (f n) (word_lt n f)

has_top : (n x : ℕ) (b : Bool) → x < 2 ^ n → has (num b * 2 ^ n + x) n ≡ b
unfolding has
has_top n x b l = ap (λ y. eqb (y % 2) 1) (high (num b) n l) ∙ ap (λ y. eqb y 1) (mod-eq_of_lt (num_lt b)) ∙ eqb_num b

pub has_word : (n : ℕ) (f : ℕ → Bool) (j : ℕ) → j < n → has (word n f) j ≡ f j
unfolding word
has_word zero f j h = absurd (omega arith)
has_word (suc n) f j h =
    ⊎_elim
    (λ l. sym (has_low n (num (f n) * 2 ^ n + word n f) j l) ∙ ap (λ x. has x j) (low (num (f n)) n (word_lt n f)) ∙ has_word n f j l)
    (λ l. let e : n ≡ j = omega arith in rw (← e) (has_top n (word n f) (f n) (word_lt n f)))
    (lt_or_le j n)

-- a bit that a word has is one of its n, and of those that it is made of
pub word_out : (n : ℕ) (f : ℕ → Bool) (j : ℕ) → has (word n f) j ≡ true → (j < n) × (f j ≡ true)
word_out n f j h = ⊎_elim (λ l. (l, sym (has_word n f j l) ∙ h)) (λ l. clash h (has_high n (word n f) j (word_lt n f) l)) (lt_or_le j n)

pub word_ext : (n : ℕ) (f g : ℕ → Bool) → ((j : ℕ) → j < n → f j ≡ g j) → word n f ≡ word n g
unfolding word
word_ext zero f g e = refl
word_ext (suc n) f g e = ap₂ (λ b x. num b * 2 ^ n + x) (e n (omega arith)) (word_ext n f g (λ j h. e j (omega arith)))

-- the word of a number's bits is what its n lowest bits make
pub word_has : (n x : ℕ) → word n (has x) ≡ x % 2 ^ n
unfolding word has
word_has zero x = sym (mod-one x)
word_has (suc n) x =
    ap₂ (λ a b. a * 2 ^ n + b) (num_eqb (x / 2 ^ n % 2) (omega arith)) (word_has n x)
    ∙ sym (mod-pow-add x 1 n) ∙ ap (λ m. x % 2 ^ m) (one-add n)

-- a number of n bits is the word of what its bits are
pub is_word : (n x : ℕ) (f : ℕ → Bool) → x < 2 ^ n → ((j : ℕ) → j < n → has x j ≡ f j) → x ≡ word n f
is_word n x f h e = sym (mod-eq_of_lt h) ∙ sym (word_has n x) ∙ word_ext n (has x) f e

-- equal bits, equal numbers
pub has_ext : (n x y : ℕ) → x < 2 ^ n → y < 2 ^ n → ((j : ℕ) → j < n → has x j ≡ has y j) → x ≡ y
has_ext n x y h k e = is_word n x (has y) h e ∙ word_has n y ∙ mod-eq_of_lt k

-- a number with no bit from bit n on has n bits
pub none_high : (m n x : ℕ) → x < 2 ^ m → ((j : ℕ) → n ≤ j → has x j ≡ false) → x < 2 ^ n
none_high m n x h f =
    let l : x % 2 ^ n < 2 ^ n = mod-lt x (pow_pos n) in
    let e : x ≡ x % 2 ^ n =
    has_ext (m + n) x (x % 2 ^ n) (lt_of_lt_of_le h (pow_mono (omega arith))) (lt_of_lt_of_le l (pow_mono (omega arith)))
    (λ j _. ⊎_elim (λ k. sym (has_low n x j k)) (λ k. f j k ∙ sym (has_high n (x % 2 ^ n) j l k)) (lt_or_le j n)) in
    omega arith

lt_pow : (x : ℕ) → x < 2 ^ x
lt_pow zero = pow_pos 0
lt_pow (suc x) = omega (arith, lt_pow x, pow-suc 2 x)

-- a number has a bit from bit n on exactly if it is none of n bits
pub high_bit : (n x : ℕ) → (2 ^ n ≤ x) ↔ ((j : ℕ) × (n ≤ j) × (has x j ≡ true))
high_bit n x = (λ h. go h (some x (λ j. leb n j && has x j)) refl, λ (j, l, p). ⊎_elim (λ h. clash p (has_high n x j h l)) (λ h. h) (lt_or_le x (2 ^ n)))
  where
    found : (some x (λ j. leb n j && has x j) ≡ true) ↔ ((j : ℕ) × (j < x) × ((n ≤ j) × (has x j ≡ true)))
    found = some_iff x _ _ (λ j. and_iff (leb n j) (leb_iff n j) (has x j) (λ h. h, λ h. h))

    go : 2 ^ n ≤ x → (t : Bool) → some x (λ j. leb n j && has x j) ≡ t → (j : ℕ) × (n ≤ j) × (has x j ≡ true)
    go h true e = let (j, k, (p, q)) = found.0 e in (j, p, q)
    go h false e =
        let low : x < 2 ^ n = none_high x n x (lt_pow x) (λ j p. ⊎_elim (λ q. false_when _ (λ y. iff_false _ found e (j, q, (p, y)))) (has_high x x j (lt_pow x)) (lt_or_le j x)) in
        absurd (omega arith)

-- a word of m bits, none of them from n on, is one of n bits
pub word_narrow : (n m : ℕ) (f g : ℕ → Bool) → n ≤ m → ((j : ℕ) → j < n → f j ≡ g j) → ((j : ℕ) → n ≤ j → j < m → f j ≡ false) → word m f ≡ word n g
word_narrow n m f g l e z =
    is_word n (word m f) g
    (none_high m n (word m f) (word_lt m f) (λ j p. ⊎_elim (λ q. has_word m f j q ∙ z j p q) (λ q. has_high m (word m f) j (word_lt m f) q) (lt_or_le j m)))
    (λ j p. has_word m f j (omega arith) ∙ e j p)

-- a number of n bits is 0 exactly when none of them is set
pub some_has : (n x : ℕ) → x < 2 ^ n → (some n (has x) ≡ true) ↔ (x ≢ 0)
some_has n x l = (
  λ h e. let (i, k, p) = some_out n (has x) h in clash p (ap (λ y. has y i) e ∙ has_zero i),
  λ h. go h (some n (has x)) refl,
)
  where
    go : x ≢ 0 → (t : Bool) → some n (has x) ≡ t → t ≡ true
    go h true e = refl
    go h false e = absurd (h (has_ext n x 0 l (pow_pos n) (λ i k. false_when (has x i) (λ p. clash (some_in n (has x) i k p) e) ∙ sym (has_zero i))))

-- ---- and, or, exclusive or, as the machine computes them

last : (z v : ℕ) (t : Bool) → v ≡ num t → eqb ((z * 2 + v) % 2) 1 ≡ t
last z v true e = let q : (z * 2 + v) % 2 ≡ 1 = omega arith in rw q
last z v false e = let q : (z * 2 + v) % 2 ≡ 0 = omega arith in rw q

-- an operation f on the last digits is the operation g on tests
module _ (f : ℕ → ℕ → ℕ) (g : Bool → Bool → Bool)
    (h : (f 0 0 ≡ num (g false false)) × (f 0 1 ≡ num (g false true)) × (f 1 0 ≡ num (g true false)) × (f 1 1 ≡ num (g true true))) where
  last_digit : (x y z : ℕ) → x < 2 → y < 2 → eqb ((z * 2 + f x y) % 2) 1 ≡ g (eqb x 1) (eqb y 1)
  last_digit zero zero z l k = last z (f 0 0) (g false false) h.0
  last_digit zero (suc zero) z l k = last z (f 0 1) (g false true) h.1
  last_digit (suc zero) zero z l k = last z (f 1 0) (g true false) h.2
  last_digit (suc zero) (suc zero) z l k = last z (f 1 1) (g true true) h.3
  last_digit zero (suc (suc y)) z l k = absurd (omega arith)
  last_digit (suc zero) (suc (suc y)) z l k = absurd (omega arith)
  last_digit (suc (suc x)) y z l k = absurd (omega arith)

pub has_and : (a b j : ℕ) → has (bit_and a b) j ≡ has a j && has b j
unfolding has
has_and a b j =
    ap (λ x. eqb (x % 2) 1) (and_shr a b j ∙ and_step (a / 2 ^ j) (b / 2 ^ j))
    ∙ last_digit min ◌&&◌ (refl, refl, refl, refl) (a / 2 ^ j % 2) (b / 2 ^ j % 2) (bit_and (a / 2 ^ j / 2) (b / 2 ^ j / 2)) (omega arith) (omega arith)

pub has_or : (a b j : ℕ) → has (bit_or a b) j ≡ has a j || has b j
unfolding has
has_or a b j =
    ap (λ x. eqb (x % 2) 1) (or_shr a b j ∙ or_step (a / 2 ^ j) (b / 2 ^ j))
    ∙ last_digit max ◌||◌ (refl, refl, refl, refl) (a / 2 ^ j % 2) (b / 2 ^ j % 2) (bit_or (a / 2 ^ j / 2) (b / 2 ^ j / 2)) (omega arith) (omega arith)

pub has_xor : (a b j : ℕ) → has (bit_xor a b) j ≡ xor (has a j) (has b j)
unfolding has xor
has_xor a b j =
    ap (λ x. eqb (x % 2) 1) (xor_shr a b j ∙ xor_step (a / 2 ^ j) (b / 2 ^ j))
    ∙ last_digit differ xor (refl, refl, refl, refl) (a / 2 ^ j % 2) (b / 2 ^ j % 2) (bit_xor (a / 2 ^ j / 2) (b / 2 ^ j / 2)) (omega arith) (omega arith)

-- ---- words that code builds

-- the one bit k
pub has_one : (k j : ℕ) → has (2 ^ k) j ≡ eqb k j
unfolding has
has_one k j = go (ℕ_discrete k j) (dec_le k j)
  where
    whole : 1 * 2 ^ k + 0 ≡ 2 ^ k
    whole = omega arith

    go : Dec (k ≡ j) → Dec (k ≤ j) → has (2 ^ k) j ≡ eqb k j
    go (yes p) d =
        ap (λ y. eqb (y % 2) 1) (subst (λ y. 2 ^ k / 2 ^ y ≡ 1) p (ap (λ y. y / 2 ^ k) (sym whole) ∙ high 1 k (pow_pos k))) ∙ sym (subst (λ y. eqb k y ≡ true) p (eqb_same k))
    go (no p) (yes d) = has_high j (2 ^ k) j (pow-lt (lt_of_le-ne d p)) (omega arith) ∙ sym (false_when (eqb k j) (λ e. p (eqb-true k j e)))
    go (no p) (no d) =
        sym (has_low k (2 ^ k) j (omega arith)) ∙ ap (λ y. has y j) (ap (λ y. y % 2 ^ k) (sym whole) ∙ low 1 k (pow_pos k)) ∙ has_zero j
        ∙ sym (false_when (eqb k j) (λ e. p (eqb-true k j e)))

-- `1 << k` in w bits
pub one_shl_in : (w k : ℕ) → k < w → 1 * 2 ^ k % 2 ^ w ≡ 2 ^ k
one_shl_in w k h = shl_exact {a = 1} 1 k w (pow-lt {i = 0} {j = 1} (omega arith)) (omega arith) ∙ omega arith

pub one_shl : (k : ℕ) → k < 64 → 1 * 2 ^ k % 2 ^ 64 ≡ 2 ^ k
one_shl k h = one_shl_in 64 k h

-- one more bit at the top: `(t << n) | w`
pub word_more : (n : ℕ) (f : ℕ → Bool) (t : Bool) → t ≡ f n → bit_or (num t * 2 ^ n) (word n f) ≡ word (n + 1) f
unfolding word
word_more n f t e = or_shifted (num t) n (word n f) (word_lt n f) ∙ rw (add-one, e)

-- all of n bits
pub word_ones : (n : ℕ) → word n (λ _. true) ≡ 2 ^ n - 1
unfolding word
word_ones zero = refl
word_ones (suc n) = rw (word_ones n, pow-suc) (omega (arith, pow_pos n))

-- `(1 << a) - 1` has its a lowest bits set
pub has_ones : (a j : ℕ) → has (2 ^ a - 1) j ≡ ltb j a
has_ones a j =
    ⊎_elim
    (λ h. ap (λ x. has x j) (sym (word_ones a)) ∙ has_word a (λ _. true) j h ∙ sym (lt-ltb j a h))
    (λ h. has_high a (2 ^ a - 1) j (ones_lt a) h ∙ sym (le-ltb j a h))
    (lt_or_le j a)

-- ---- the ones that the machine counts are the set bits

has_half : (x j : ℕ) → has x (suc j) ≡ has (x / 2) j
unfolding has
has_half x j = ap (λ y. eqb (y % 2) 1) (subst (λ y. x / 2 ^ y ≡ x / 2 / 2 ^ j) (omega arith) (sym (shr-shr x 1 j)))

has_first : (x : ℕ) → x % 2 ≡ num (has x 0)
unfolding has
has_first x = sym (num_eqb (x % 2) (omega arith)) ∙ ap (λ y. num (eqb (y % 2) 1)) (sym (div-one x))

pub ones_bits : (n x : ℕ) → x < 2 ^ n → ones x ≡ sum n (λ j. num (has x j))
unfolding ones sum
ones_bits zero x l = ap ones (lt-one l)
ones_bits (suc n) x l =
    let e : 2 ^ suc n ≡ 2 ^ n * 2 = pow-suc 2 n in
    let h : x / 2 < 2 ^ n = omega arith in
    ones_step x
    ∙ ap₂ ◌+◌ (has_first x) (ones_bits n (x / 2) h ∙ sum_ext n (λ j. num (has (x / 2) j)) (λ j. num (has x (suc j))) (λ j _. ap num (sym (has_half x j))))
    ∙ sym (sum_front n (λ j. num (has x j)))

-- of the bits below n there are at most so many, whatever the number
pub bits_ones : (n x : ℕ) → sum n (λ j. num (has x j)) ≤ ones x
unfolding sum
bits_ones zero x = omega arith
bits_ones (suc n) x =
    let e : sum n (λ j. num (has (x / 2) j)) ≡ sum n (λ j. num (has x (suc j))) = sum_ext n (λ j. num (has (x / 2) j)) (λ j. num (has x (suc j))) (λ j _. ap num (sym (has_half x j))) in
    omega (arith, bits_ones n (x / 2), has_first x, ones_step x, sum_front n (λ j. num (has x j)))

-- ---- the lowest set bit, which the machine finds by counting the zeros below it

pub lowest_set : (k x : ℕ) → x < 2 ^ k → x ≢ 0 → has x (count_trailing_zeros k x) ≡ true
unfolding count_trailing_zeros
lowest_set zero x l h = absurd (h (lt-one l))
lowest_set (suc k) x l h =
    let e : 2 ^ suc k ≡ 2 ^ k * 2 = pow-suc 2 k in
    go (has x 0) refl (lowest_set k (x / 2) (omega arith))
  where
    go : (t : Bool) → has x 0 ≡ t → (x / 2 ≢ 0 → has (x / 2) (count_trailing_zeros k (x / 2)) ≡ true) → has x (under (x % 2) (count_trailing_zeros k (x / 2))) ≡ true
    go true e r = let o : x % 2 ≡ 1 = has_first x ∙ ap num e in rw o e
    go false e r = let o : x % 2 ≡ 0 = has_first x ∙ ap num e in rw (o, has_half x) (r (omega arith))

-- it is one of the bits that the number has room for
pub lowest_below : (n k x : ℕ) → n ≤ k → x < 2 ^ n → x ≢ 0 → count_trailing_zeros k x < n
lowest_below n k x l h some =
    ⊎_elim (λ q. q) (λ q. clash (lowest_set k x (lt_of_lt_of_le h (pow_mono l)) some) (has_high n x (count_trailing_zeros k x) h q)) (lt_or_le (count_trailing_zeros k x) n)

pub below_lowest : (k x j : ℕ) → j < count_trailing_zeros k x → has x j ≡ false
unfolding count_trailing_zeros
below_lowest zero x j h = absurd (omega arith)
below_lowest (suc k) x j h = go (has x 0) refl (below_lowest k (x / 2)) j h
  where
    go : (t : Bool) → has x 0 ≡ t → ((i : ℕ) → i < count_trailing_zeros k (x / 2) → has (x / 2) i ≡ false) → (i : ℕ) → i < under (x % 2) (count_trailing_zeros k (x / 2)) → has x i ≡ false
    go true e r i l = let o : x % 2 ≡ 1 = has_first x ∙ ap num e in absurd (omega (arith, rw o at l))
    go false e r zero l = e
    go false e r (suc i) l = let o : x % 2 ≡ 0 = has_first x ∙ ap num e in has_half x i ∙ r i (omega (arith, rw o at l))

has_even : (x : ℕ) → x % 2 ≡ 0 → has x 0 ≡ false
has_even x e = sym (eqb_num (has x 0)) ∙ ap (λ y. eqb y 1) (sym (has_first x) ∙ e)

without_lowest : (k x : ℕ) → x < 2 ^ k → x ≢ 0 → (j : ℕ) → has x j && has (x - 1) j ≡ has x j && not (eqb j (count_trailing_zeros k x))
unfolding count_trailing_zeros
without_lowest zero x l h j = absurd (h (lt-one l))
without_lowest (suc k) x l h j =
    let e : 2 ^ suc k ≡ 2 ^ k * 2 = pow-suc 2 k in
    go (has x 0) refl (without_lowest k (x / 2) (omega arith)) j
  where
    go : (t : Bool) → has x 0 ≡ t → (x / 2 ≢ 0 → (i : ℕ) → has (x / 2) i && has (x / 2 - 1) i ≡ has (x / 2) i && not (eqb i (count_trailing_zeros k (x / 2))))
        → (i : ℕ) → has x i && has (x - 1) i ≡ has x i && not (eqb i (under (x % 2) (count_trailing_zeros k (x / 2))))
    go true e r zero = let o : x % 2 ≡ 1 = has_first x ∙ ap num e in rw (o, has_even (x - 1) (omega arith))
    go true e r (suc i) =
        let o : x % 2 ≡ 1 = has_first x ∙ ap num e in
        let d : (x - 1) / 2 ≡ x / 2 = omega arith in
        rw (o, has_half x, has_half (x - 1), d, compare.suc-zero) (and_self (has (x / 2) i) ∙ sym (and-true (has (x / 2) i)))
    go false e r zero = rw e
    go false e r (suc i) =
        let o : x % 2 ≡ 0 = has_first x ∙ ap num e in
        let d : (x - 1) / 2 ≡ x / 2 - 1 = omega arith in
        rw (o, has_half x, has_half (x - 1), d, compare.suc-suc) (r (omega arith) i)

-- `x & (x - 1)` is x without it
pub clear_lowest : (k x j : ℕ) → x < 2 ^ k → x ≢ 0 → has (bit_and x (x - 1)) j ≡ has x j && not (eqb j (count_trailing_zeros k x))
clear_lowest k x j l h = has_and x (x - 1) j ∙ without_lowest k x l h j

pub clear_less : (x : ℕ) → x ≢ 0 → bit_and x (x - 1) < x
clear_less x h = omega (arith, and_le_r x (x - 1))
