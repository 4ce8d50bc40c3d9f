-- Laws of lists of words and of bytes made of given bits. Assumes nothing.
use mathlib.Core.Path.{◌≡◌, refl, sym, ap, ◌∙◌}
use mathlib.Core.Bool.{Bool, false}
use mathlib.Core.List.{List, [], ◌∷◌}
use mathlib.Core.Logic.{⊎_elim}
use Prim.Native.Nat.{ℕ, zero, suc, ◌+◌, ◌*◌, ◌/◌, ◌%◌, ◌^◌, ◌≤◌, ◌<◌}
use native.Mathlib.Omega.{arith}
use lib.ListN.{length, get_or, take, set, replicate, get_or-eq_default}
use lib.Pow.{pow_pos}
use Rattle.bits.specs.Bits.{has, word, words, at, bytes, Below}
use Rattle.bits.proofs.TestLaws.{lt_or_le}
use Rattle.bits.proofs.BoundLaws.{length_list, get_or_list, list_ext, list_get_or, list_more, list_done}
use Rattle.bits.proofs.BitLaws.{has_zero, has_word, word_lt, word_ext, word_narrow, is_word}

-- past the end a list of numbers shows 0
pub past_end : (xs : List ℕ) (i : ℕ) → length xs ≤ i → get_or xs i 0 ≡ 0
past_end xs i h = get_or-eq_default xs 0 h

-- what is cut off at the end does not count before it
pub get_or_take : (n : ℕ) (xs : List ℕ) (i : ℕ) → i < n → get_or (take n xs) i 0 ≡ get_or xs i 0
get_or_take zero xs i l = absurd (omega arith)
get_or_take (suc n) [] i l = refl
get_or_take (suc n) (x ∷ xs) zero l = refl
get_or_take (suc n) (x ∷ xs) (suc i) l = get_or_take n xs i (omega arith)

-- elements of a list of m are below b where those that it has are
pub below_all : (m b : ℕ) (xs : List ℕ) → 0 < b → length xs ≡ m → ((i : ℕ) → i < m → get_or xs i 0 < b) → Below b xs
below_all m b xs p l h i = ⊎_elim (λ k. h i k) (λ k. rw (past_end xs i (omega arith)) p) (lt_or_le i m)

-- an element is replaced
pub below_set : (b : ℕ) (xs : List ℕ) (i v : ℕ) → Below b xs → v < b → Below b (set xs i v)
below_set b [] i v h l k = h k
below_set b (x ∷ xs) zero v h l zero = l
below_set b (x ∷ xs) zero v h l (suc k) = h (suc k)
below_set b (x ∷ xs) (suc i) v h l zero = h 0
below_set b (x ∷ xs) (suc i) v h l (suc k) = below_set b xs i v (λ j. h (suc j)) l k

-- ---- words

pub length_words : (m n : ℕ) (f : ℕ → ℕ → Bool) → length (words m n f) ≡ m
unfolding words
length_words m n f = length_list m (λ i. word n (f i))

pub get_or_words : (m n : ℕ) (f : ℕ → ℕ → Bool) (i : ℕ) → i < m → get_or (words m n f) i 0 ≡ word n (f i)
unfolding words
get_or_words m n f i h = get_or_list m (λ i. word n (f i)) 0 i h

pub words_below : (m n : ℕ) (f : ℕ → ℕ → Bool) → Below (2 ^ n) (words m n f)
words_below m n f = below_all m (2 ^ n) (words m n f) (pow_pos n) (length_words m n f) (λ i h. rw (get_or_words m n f i h) (word_lt n (f i)))

-- bit j of word i
pub has_words : (m n : ℕ) (f : ℕ → ℕ → Bool) (i j : ℕ) → i < m → j < n → has (get_or (words m n f) i 0) j ≡ f i j
has_words m n f i j h l = rw (get_or_words m n f i h) (has_word n (f i) j l)

pub words_ext : (m n : ℕ) (f g : ℕ → ℕ → Bool) → ((i j : ℕ) → i < m → j < n → f i j ≡ g i j) → words m n f ≡ words m n g
unfolding words
words_ext m n f g e = list_ext m (λ i. word n (f i)) (λ i. word n (g i)) (λ i h. word_ext n (f i) (g i) (λ j l. e i j h l))

-- words of m bits, none of them from n on, are words of n bits
pub words_narrow : (h n m : ℕ) (f g : ℕ → ℕ → Bool) → n ≤ m → ((i j : ℕ) → i < h → j < n → f i j ≡ g i j) → ((i j : ℕ) → i < h → n ≤ j → j < m → f i j ≡ false)
    → words h m f ≡ words h n g
unfolding words
words_narrow h n m f g l e z = list_ext h (λ i. word m (f i)) (λ i. word n (g i)) (λ i k. word_narrow n m (f i) (g i) l (λ j p. e i j k p) (λ j p q. z i j k p q))

-- a list of m words of n bits is made of its bits
pub is_words : (m n : ℕ) (f : ℕ → ℕ → Bool) (xs : List ℕ) → length xs ≡ m → ((i : ℕ) → i < m → get_or xs i 0 < 2 ^ n)
    → ((i j : ℕ) → i < m → j < n → has (get_or xs i 0) j ≡ f i j) → xs ≡ words m n f
unfolding words
is_words m n f xs l b e = list_get_or m (λ i. word n (f i)) 0 xs l (λ i h. is_word n (get_or xs i 0) (f i) (b i h) (λ j k. e i j h k))

-- a loop that fills a list of words from the front: one word more, and all of them
pub words_more : (i n : ℕ) (f : ℕ → ℕ → Bool) (v : ℕ) (xs : List ℕ) → i < length xs → take i xs ≡ words i n f → v ≡ word n (f i)
    → take (i + 1) (set xs i v) ≡ words (i + 1) n f
unfolding words
words_more i n f v xs l h e = list_more i (λ i. word n (f i)) v xs l h e

pub words_done : (i m n : ℕ) (f : ℕ → ℕ → Bool) (xs : List ℕ) → length xs ≡ m → i ≡ m → take i xs ≡ words i n f → xs ≡ words m n f
unfolding words
words_done i m n f xs l e h = list_done i m (λ i. word n (f i)) xs l e h

-- ---- bytes: words of eight bits, whose bits are numbered through

-- bit k of byte i
pub at_byte : (bs : List ℕ) (i k : ℕ) → k < 8 → at bs (8 * i + k) ≡ has (get_or bs i 0) k
unfolding at
at_byte bs i k h =
    let d : (8 * i + k) / 8 ≡ i = omega arith in
    let r : (8 * i + k) % 8 ≡ k = omega arith in
    rw (d, r)

pub at_past : (bs : List ℕ) (p : ℕ) → 8 * length bs ≤ p → at bs p ≡ false
unfolding at
at_past bs p h = rw (past_end bs (p / 8) (omega arith)) (has_zero (p % 8))

-- zeros have no bit set
pub get_or_zeros : (k i : ℕ) → get_or {A = ℕ} (replicate k 0) i 0 ≡ 0
get_or_zeros zero i = refl
get_or_zeros (suc k) zero = refl
get_or_zeros (suc k) (suc i) = get_or_zeros k i

pub at_zeros : (k p : ℕ) → at (replicate k 0) p ≡ false
unfolding at
at_zeros k p = rw (get_or_zeros k (p / 8)) (has_zero (p % 8))

pub at_bytes : (m : ℕ) (f : ℕ → Bool) (p : ℕ) → p < 8 * m → at (bytes m f) p ≡ f p
unfolding at bytes
at_bytes m f p h =
    let e : 8 * (p / 8) + p % 8 ≡ p = omega arith in
    has_words m 8 (λ i k. f (8 * i + k)) (p / 8) (p % 8) (omega arith) (omega arith) ∙ ap f e

pub length_bytes : (m : ℕ) (f : ℕ → Bool) → length (bytes m f) ≡ m
unfolding bytes
length_bytes m f = length_words m 8 (λ i k. f (8 * i + k))

pub bytes_ext : (m : ℕ) (f g : ℕ → Bool) → ((p : ℕ) → p < 8 * m → f p ≡ g p) → bytes m f ≡ bytes m g
unfolding bytes
bytes_ext m f g e = words_ext m 8 (λ i k. f (8 * i + k)) (λ i k. g (8 * i + k)) (λ i k h l. e (8 * i + k) (omega arith))

-- a list of m bytes is made of its bits
pub is_bytes : (m : ℕ) (f : ℕ → Bool) (bs : List ℕ) → length bs ≡ m → Below 256 bs → ((p : ℕ) → p < 8 * m → at bs p ≡ f p) → bs ≡ bytes m f
unfolding bytes
is_bytes m f bs l b e = is_words m 8 (λ i k. f (8 * i + k)) bs l (λ i h. b i) (λ i k h q. sym (at_byte bs i k q) ∙ e (8 * i + k) (omega arith))

pub bytes_more : (i : ℕ) (f : ℕ → Bool) (v : ℕ) (bs : List ℕ) → i < length bs → take i bs ≡ bytes i f → v ≡ word 8 (λ k. f (8 * i + k))
    → take (i + 1) (set bs i v) ≡ bytes (i + 1) f
unfolding bytes
bytes_more i f v bs l h e = words_more i 8 (λ i k. f (8 * i + k)) v bs l h e

pub bytes_done : (i m : ℕ) (f : ℕ → Bool) (bs : List ℕ) → length bs ≡ m → i ≡ m → take i bs ≡ bytes i f → bs ≡ bytes m f
unfolding bytes
bytes_done i m f bs l e h = words_done i m 8 (λ i k. f (8 * i + k)) bs l e h
