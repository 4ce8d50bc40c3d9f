-- Laws of the sets of counters: which lines they have, how often they have a line, where two of them cross, and how many have a line at all. Assumes nothing.
use Prim.Native.Nat.{ℕ, zero, suc, ◌+◌, ◌%◌, ◌^◌, ◌≤◌, ◌<◌, min, max}
use mathlib.Core.Path.{◌≡◌, refl, sym, ap, ap₂, ◌∙◌}
use mathlib.Core.Bool.{Bool, true, false, not, cond, ◌&&◌, ◌||◌, and-false}
use mathlib.Core.List.{List}
use mathlib.Core.Logic.{◌≢◌, ⊎_elim}
use native.Mathlib.Numerals.{add-one}
use native.Mathlib.Nat.{lt_of_lt_of_le}
use native.Mathlib.Omega.{arith}
use native.Mathlib.Decide.{ℕ_discrete}
use borrow.Author.Tests.{lt-ltb, le-ltb, ltb-true, eq-eqb, ne_eqb, not-true}
use lib.Count.{count_trailing_zeros}
use lib.Dec.{eqb, ltb}
use lib.ListN.{get_or}
use lib.Pow.{pow_mono}
use Rattle.bits.specs.Bits.{num, some, first, sum, most, has, word, words}
use Rattle.bits.proofs.TestLaws.{clash, same_test, lt_or_le, and_in, and_left, and_right}
use Rattle.bits.proofs.BoundLaws.{some_ext, some_join, IsFirst, first_is, first_in_front, first_behind, sum_ext, sum_below}
use Rattle.bits.proofs.BitLaws.{has_high, has_zero, has_word, word_lt, some_has, lowest_set, lowest_below, below_lowest}
use Rattle.bits.proofs.ByteLaws.{get_or_words, has_words, words_below, words_ext}
use Rattle.rdis.specs.Cells.{flips}
use Rattle.grid_sets.specs.Sets.{sets_of, times, crossings, odd, some_line, first_line, filled}

-- ---- the lines of a set

-- set s has the lines whose counter is above s, and no line past the last
pub set_has : (n s i : ℕ) (f : ℕ → ℕ) → s < 8 → i < n → has (get_or (sets_of n f) s 0) i ≡ ltb s (f i)
unfolding sets_of
set_has n s i f h l = has_words 8 n (λ s i. ltb s (f i)) s i h l

pub set_past : (n s i : ℕ) (f : ℕ → ℕ) → n ≤ i → has (get_or (sets_of n f) s 0) i ≡ false
unfolding sets_of
set_past n s i f h = has_high n (get_or (words 8 n (λ s i. ltb s (f i))) s 0) i (words_below 8 n (λ s i. ltb s (f i)) s) h

-- equal counters have equal sets
pub sets_ext : (n : ℕ) (f g : ℕ → ℕ) → ((i : ℕ) → i < n → f i ≡ g i) → sets_of n f ≡ sets_of n g
unfolding sets_of
sets_ext n f g e = words_ext 8 n (λ s i. ltb s (f i)) (λ s i. ltb s (g i)) (λ s i _ l. ap (ltb s) (e i l))

word_some : (n : ℕ) (g : ℕ → Bool) → not (eqb (word n g) 0) ≡ some n g
word_some n g =
    let e : some n (has (word n g)) ≡ some n g = some_ext n (has (word n g)) g (λ j l. has_word n g j l) in
    same_test (not (eqb (word n g) 0)) (some n g)
    (λ h. sym e ∙ (some_has n (word n g) (word_lt n g)).1 (λ q. clash (eq-eqb (word n g) 0 q) (not-true (eqb (word n g) 0) h)))
    (λ h. ap not (ne_eqb (word n g) 0 ((some_has n (word n g) (word_lt n g)).0 (e ∙ h))))

-- set s has a line exactly if some counter is above s
pub set_some : (n s : ℕ) (f : ℕ → ℕ) → s < 8 → not (eqb (get_or (sets_of n f) s 0) 0) ≡ some n (λ i. ltb s (f i))
unfolding sets_of
set_some n s f h = ap (λ x. not (eqb x 0)) (get_or_words 8 n (λ s i. ltb s (f i)) s h) ∙ word_some n (λ i. ltb s (f i))

neither : (x y : Bool) → not (x && y) ≡ not y || not x
neither true true = refl
neither true false = refl
neither false true = refl
neither false false = refl

-- and so of two kinds of lines, whose counters stand one after the other
pub some_line_lem : (m n s : ℕ) (f : ℕ → ℕ) → s < 8 → some_line (sets_of m f) (sets_of n (λ j. f (m + j))) s ≡ some (m + n) (λ t. ltb s (f t))
some_line_lem m n s f h =
    neither (eqb (get_or (sets_of m f) s 0) 0) (eqb (get_or (sets_of n (λ j. f (m + j))) s 0) 0)
    ∙ ap₂ ◌||◌ (set_some n s (λ j. f (m + j)) h) (set_some m s f h) ∙ sym (some_join m n (λ t. ltb s (f t)))

-- ---- the first line that sets have

-- the lowest line of set s is the first whose counter is above s
module _ (n s : ℕ) (f : ℕ → ℕ) (h : s < 8) (l : n ≤ 64) (some : get_or (sets_of n f) s 0 ≢ 0) where
  set_below : get_or (sets_of n f) s 0 < 2 ^ n
  unfolding sets_of
  set_below = words_below 8 n (λ s i. ltb s (f i)) s

  lowest_inside : count_trailing_zeros 64 (get_or (sets_of n f) s 0) < n
  lowest_inside = lowest_below n 64 (get_or (sets_of n f) s 0) l set_below some

  lowest_first : IsFirst n (λ i. ltb s (f i)) (count_trailing_zeros 64 (get_or (sets_of n f) s 0))
  lowest_first = record {
    inside = lowest_inside;
    passes = sym (set_has n s _ f h lowest_inside) ∙ lowest_set 64 (get_or (sets_of n f) s 0) (lt_of_lt_of_le set_below (pow_mono l)) some;
    before = λ k p. sym (set_has n s k f h (omega (arith, lowest_inside))) ∙ below_lowest 64 (get_or (sets_of n f) s 0) k p;
  }

-- of two kinds of lines, whose counters stand one after the other, where some counter is above s
pub first_line_lem : (m n s : ℕ) (f : ℕ → ℕ) → s < 8 → m ≤ 64 → n ≤ 64 → some (m + n) (λ t. ltb s (f t)) ≡ true
    → first_line (sets_of m f) (sets_of n (λ j. f (m + j))) m s ≡ first (m + n) (λ t. ltb s (f t))
unfolding first_line
first_line_lem m n s f h lm ln p =
    let R = get_or (sets_of m f) s 0 in
    let C = get_or (sets_of n (λ j. f (m + j))) s 0 in
    elim (ℕ_discrete R 0) [
      | yes e ↦
          let none : (k : ℕ) → k < m → ltb s (f k) ≡ false = λ k l. sym (set_has m s k f h l) ∙ ap (λ x. has x k) e ∙ has_zero k in
          let line : C ≢ 0 = λ z. clash (some_line_lem m n s f h ∙ p) (rw (eq-eqb R 0 e, eq-eqb C 0 z)) in
          ap (λ t. cond t (m + count_trailing_zeros 64 C) (count_trailing_zeros 64 R)) (eq-eqb R 0 e) ∙ sym (first_is (m + n) _ _ (first_behind m n _ _ none (lowest_first n s (λ j. f (m + j)) h ln line)))
      | no e ↦ ap (λ t. cond t (m + count_trailing_zeros 64 C) (count_trailing_zeros 64 R)) (ne_eqb R 0 e) ∙ sym (first_is (m + n) _ _ (first_in_front m n _ _ (lowest_first m s f h lm e)))
    ]

-- ---- how many sets have a line, or two

-- a counter is how many sets have its line
pub times_sets : (n u i : ℕ) (f : ℕ → ℕ) → u ≤ 8 → i < n → times (sets_of n f) u i ≡ min u (f i)
unfolding times
times_sets n u i f h l = sum_ext u _ (λ s. num (ltb s (f i))) (λ s k. ap num (set_has n s i f (omega arith) l)) ∙ sum_below u (f i)

both_above : (s x y : ℕ) → ltb s x && ltb s y ≡ ltb s (min x y)
both_above s x y =
    same_test (ltb s x && ltb s y) (ltb s (min x y))
    (λ h. let p = ltb-true s x (and_left _ _ h) in let q = ltb-true s y (and_right (ltb s x) _ h) in lt-ltb s (min x y) (omega arith))
    (λ h. let p = ltb-true s (min x y) h in and_in (lt-ltb s x (omega arith)) (lt-ltb s y (omega arith)))

-- the smaller of two counters is how many pairs of sets have both lines
pub crossings_sets : (m n u i j : ℕ) (r c : ℕ → ℕ) → u ≤ 8 → i < m → j < n → crossings (sets_of m r) (sets_of n c) u i j ≡ min u (min (r i) (c j))
unfolding crossings
crossings_sets m n u i j r c h p q =
    sum_ext u _ (λ s. num (ltb s (min (r i) (c j)))) (λ s k. ap num (ap₂ ◌&&◌ (set_has m s i r (omega arith) p) (set_has n s j c (omega arith) q) ∙ both_above s (r i) (c j)))
    ∙ sum_below u (min (r i) (c j))

none_counted : (u : ℕ) (f : ℕ → Bool) → ((s : ℕ) → f s ≡ false) → sum u (λ s. num (f s)) ≡ 0
none_counted u f h = sum_ext u (λ s. num (f s)) (λ s. num (ltb s 0)) (λ s _. ap num (h s ∙ sym (le-ltb s 0 (omega arith)))) ∙ sum_below u 0 ∙ omega arith

-- and past the last column no pair has both
pub crossings_past : (rows : List ℕ) (n u i j : ℕ) (c : ℕ → ℕ) → n ≤ j → crossings rows (sets_of n c) u i j ≡ 0
unfolding crossings
crossings_past rows n u i j c h = none_counted u _ (λ s. ap (λ t. has (get_or rows s 0) i && t) (set_past n s j c h) ∙ and-false (has (get_or rows s 0) i))

-- ---- the pattern of a row

-- where no counter of a row is above u, the first u pairs of sets have a cell in the pattern exactly where its counters invert it
pub odd_flips : (m n u i j : ℕ) (r c : ℕ → ℕ) → u ≤ 8 → r i ≤ u → i < m → j < n → odd (sets_of m r) (sets_of n c) u i j ≡ flips r c i j
unfolding odd flips
odd_flips m n u i j r c h k p q =
    let few : min u (min (r i) (c j)) ≡ min (r i) (c j) = omega arith in
    ap (λ x. eqb (x % 2) 1) (crossings_sets m n u i j r c h p q ∙ few)

pub odd_past : (rows : List ℕ) (n u i j : ℕ) (c : ℕ → ℕ) → n ≤ j → odd rows (sets_of n c) u i j ≡ false
unfolding odd
odd_past rows n u i j c h = rw (crossings_past rows n u i j c h)

-- ---- how many pairs of sets have a line

some_above : (s a b : ℕ) → ltb s a || ltb s b ≡ ltb s (max a b)
some_above s a b = ⊎_elim
    (λ l. rw (lt-ltb s a l) (sym (lt-ltb s (max a b) (omega arith))))
    (λ l. rw (le-ltb s a l) (⊎_elim (λ k. lt-ltb s b k ∙ sym (lt-ltb s (max a b) (omega arith))) (λ k. le-ltb s b k ∙ sym (le-ltb s (max a b) (omega arith))) (lt_or_le s b)))
    (lt_or_le s a)

-- some counter is above s exactly if the greatest is
some_most : (n s : ℕ) (f : ℕ → ℕ) → some n (λ t. ltb s (f t)) ≡ ltb s (most n f)
unfolding some most
some_most zero s f = sym (le-ltb s 0 (omega arith))
some_most (suc n) s f = ap (λ t. ltb s (f n) || t) (some_most n s f) ∙ some_above s (f n) (most n f)

-- the greatest of counters that are at most u is how many of the first u pairs have a line
pub filled_most : (m n u : ℕ) (f : ℕ → ℕ) → u ≤ 8 → most (m + n) f ≤ u → filled (sets_of m f) (sets_of n (λ j. f (m + j))) u ≡ most (m + n) f
unfolding filled
filled_most m n u f h l =
    sum_ext u _ (λ s. num (ltb s (most (m + n) f))) (λ s k. ap num (some_line_lem m n s f (omega arith) ∙ some_most (m + n) s f)) ∙ sum_below u (most (m + n) f) ∙ omega arith

-- ---- pair by pair

pub filled_none : (rows columns : List ℕ) → 0 ≡ filled rows columns 0
unfolding filled sum
filled_none rows columns = refl

pub filled_more : (rows columns : List ℕ) (s n : ℕ) → n ≡ filled rows columns s → n + num (some_line rows columns s) ≡ filled rows columns (s + 1)
unfolding filled sum
filled_more rows columns s n e = rw add-one (omega (arith, e))
