-- Laws of what is said of all indices below a bound: some, first, sum, most, list. Assumes nothing.
use mathlib.Core.Path.{◌≡◌, refl, sym, ap, ap₂, subst, ◌∙◌}
use mathlib.Core.Bool.{Bool, true, false, cond, ◌||◌, or_assoc}
use mathlib.Core.List.{List, [], ◌∷◌, ◌++◌}
use mathlib.Core.Logic.{◌↔◌, ◌≢◌, ⊎_elim}
use Prim.Native.Nat.{ℕ, zero, suc, ◌+◌, ◌-◌, ◌≤◌, ◌<◌, min}
use native.Mathlib.Numerals.{add-one}
use native.Mathlib.Omega.{arith}
use native.Mathlib.Decide.{ℕ_discrete}
use borrow.Author.Tests.{lt-ltb, le-ltb}
use lib.Dec.{ltb}
use lib.ListN.{length, get_or, take, set, length-append, get_or-append}
use lib.Seq.{get_or_at, take-suc-set, take-length, ext_get_or}
use Rattle.bits.specs.Bits.{num, some, first, sum, most, list}
use Rattle.bits.proofs.TestLaws.{clash, false_when, lt_or_le, num_lt}

-- ---- some

pub some_in : (n : ℕ) (f : ℕ → Bool) (k : ℕ) → k < n → f k ≡ true → some n f ≡ true
unfolding some
some_in zero f k l h = absurd (omega arith)
some_in (suc n) f k l h = go (f n) refl (ℕ_discrete k n) (λ l'. some_in n f k l' h)
  where
    go : (x : Bool) → f n ≡ x → Dec (k ≡ n) → (k < n → some n f ≡ true) → x || some n f ≡ true
    go true e d r = refl
    go false e (yes p) r = clash h (ap f p ∙ e)
    go false e (no p) r = r (omega arith)

pub some_out : (n : ℕ) (f : ℕ → Bool) → some n f ≡ true → (k : ℕ) × (k < n) × (f k ≡ true)
unfolding some
some_out zero f h = clash h refl
some_out (suc n) f h = go (f n) refl h (some_out n f)
  where
    go : (x : Bool) → f n ≡ x → x || some n f ≡ true → (some n f ≡ true → (k : ℕ) × (k < n) × (f k ≡ true)) → (k : ℕ) × (k < suc n) × (f k ≡ true)
    go true e q r = (n, omega arith, e)
    go false e q r = let (k, l, p) = r q in (k, omega arith, p)

pub none_below : (n : ℕ) (f : ℕ → Bool) → some n f ≡ false → (k : ℕ) → k < n → f k ≡ false
none_below n f h k l = false_when (f k) (λ p. clash (some_in n f k l p) h)

pub some_none : (n : ℕ) (f : ℕ → Bool) → ((k : ℕ) → k < n → f k ≡ false) → some n f ≡ false
some_none n f h = false_when (some n f) (λ p. let (k, l, q) = some_out n f p in clash q (h k l))

pub some_ext : (n : ℕ) (f g : ℕ → Bool) → ((k : ℕ) → k < n → f k ≡ g k) → some n f ≡ some n g
unfolding some
some_ext zero f g e = refl
some_ext (suc n) f g e = ap₂ ◌||◌ (e n (omega arith)) (some_ext n f g (λ k l. e k (omega arith)))

-- what is below m + n is below m, or m and something below n
pub some_join : (m n : ℕ) (f : ℕ → Bool) → some (m + n) f ≡ some n (λ k. f (m + k)) || some m f
unfolding some
some_join m zero f = let e : m + 0 ≡ m = omega arith in rw e
some_join m (suc n) f = let e : m + suc n ≡ suc (m + n) = omega arith in rw e (ap (λ t. f (m + n) || t) (some_join m n f) ∙ sym (or_assoc (f (m + n)) (some n (λ k. f (m + k))) (some m f)))

-- some index passes exactly where the fact that is tested holds of one
pub some_iff : (n : ℕ) (f : ℕ → Bool) (A : ℕ → Type 0) → ((k : ℕ) → (f k ≡ true) ↔ A k) → (some n f ≡ true) ↔ ((k : ℕ) × (k < n) × A k)
some_iff n f A g = (λ h. let (k, l, p) = some_out n f h in (k, l, (g k).0 p), λ (k, l, x). some_in n f k l ((g k).1 x))

-- ---- first

-- t is the first of n indices that passes f
pub record IsFirst (n : ℕ) (f : ℕ → Bool) (t : ℕ) : Type 0 where
  pub inside : t < n
  pub passes : f t ≡ true
  pub before : (k : ℕ) → k < t → f k ≡ false

-- that of all indices but 0, where 0 does not pass
first_later : (n : ℕ) (f : ℕ → Bool) (t : ℕ) → f 0 ≡ false → IsFirst n (λ k. f (suc k)) t → IsFirst (suc n) f (suc t)
first_later n f t e h = record { inside = omega (arith, h.inside); passes = h.passes; before = go }
  where
    go : (k : ℕ) → k < suc t → f k ≡ false
    go zero l = e
    go (suc k) l = h.before k (omega arith)

pub first_found : (n : ℕ) (f : ℕ → Bool) (k : ℕ) → k < n → f k ≡ true → IsFirst n f (first n f)
unfolding first
first_found zero f k l p = absurd (omega arith)
first_found (suc n) f k l p = go (f 0) refl k l p (λ i. first_found n (λ k. f (suc k)) i)
  where
    go : (t : Bool) → f 0 ≡ t → (i : ℕ) → i < suc n → f i ≡ true → ((i : ℕ) → i < n → f (suc i) ≡ true → IsFirst n (λ k. f (suc k)) (first n (λ k. f (suc k))))
        → IsFirst (suc n) f (cond t 0 (suc (first n (λ k. f (suc k)))))
    go true e i l p r = record { inside = omega arith; passes = e; before = λ k h. absurd (omega arith) }
    go false e zero l p r = clash p e
    go false e (suc i) l p r = first_later n f _ e (r i (omega arith) p)

pub first_is : (n : ℕ) (f : ℕ → Bool) (t : ℕ) → IsFirst n f t → first n f ≡ t
unfolding first
first_is zero f t h = absurd (omega (arith, h.inside))
first_is (suc n) f zero h = rw h.passes
first_is (suc n) f (suc t) h =
    rw (h.before 0 (omega arith))
    (ap suc (first_is n (λ k. f (suc k)) t (record { inside = omega (arith, h.inside); passes = h.passes; before = λ k l. h.before (suc k) (omega arith) })))

-- the first of all indices, where it is among the first m; and where it is after them, and none of them passes
pub first_in_front : (m n : ℕ) (g : ℕ → Bool) (t : ℕ) → IsFirst m g t → IsFirst (m + n) g t
first_in_front m n g t h = record { inside = omega (arith, h.inside); passes = h.passes; before = h.before }

pub first_behind : (m n : ℕ) (g : ℕ → Bool) (t : ℕ) → ((k : ℕ) → k < m → g k ≡ false) → IsFirst n (λ k. g (m + k)) t → IsFirst (m + n) g (m + t)
first_behind m n g t none h = record {
  inside = omega (arith, h.inside);
  passes = h.passes;
  before = λ k l. ⊎_elim (none k) (λ p. let e : m + (k - m) ≡ k = omega arith in sym (ap g e) ∙ h.before (k - m) (omega arith)) (lt_or_le k m);
}

-- ---- sum

-- the first apart from the others
pub sum_front : (n : ℕ) (f : ℕ → ℕ) → sum (suc n) f ≡ f 0 + sum n (λ k. f (suc k))
unfolding sum
sum_front zero f = refl
sum_front (suc n) f = let e : sum (suc n) f ≡ f 0 + sum n (λ k. f (suc k)) = sum_front n f in omega arith

pub sum_ext : (n : ℕ) (f g : ℕ → ℕ) → ((k : ℕ) → k < n → f k ≡ g k) → sum n f ≡ sum n g
unfolding sum
sum_ext zero f g h = refl
sum_ext (suc n) f g h = ap₂ ◌+◌ (h n (omega arith)) (sum_ext n f g (λ k l. h k (omega arith)))

pub sum_le : (n : ℕ) (f g : ℕ → ℕ) → ((k : ℕ) → k < n → f k ≤ g k) → sum n f ≤ sum n g
unfolding sum
sum_le zero f g h = omega arith
sum_le (suc n) f g h = omega (arith, h n (omega arith), sum_le n f g (λ k l. h k (omega arith)))

pub sum_none : (n : ℕ) (f : ℕ → ℕ) → ((k : ℕ) → k < n → f k ≡ 0) → sum n f ≡ 0
unfolding sum
sum_none zero f h = refl
sum_none (suc n) f h = omega (arith, h n (omega arith), sum_none n f (λ k l. h k (omega arith)))

pub sum_add : (n : ℕ) (f g : ℕ → ℕ) → sum n (λ k. f k + g k) ≡ sum n f + sum n g
unfolding sum
sum_add zero f g = refl
sum_add (suc n) f g = omega (arith, sum_add n f g)

-- x more at one place
pub sum_raise : (n : ℕ) (f g : ℕ → ℕ) (a x : ℕ) → a < n → f a ≡ x + g a → ((k : ℕ) → k ≢ a → f k ≡ g k) → sum n f ≡ x + sum n g
unfolding sum
sum_raise zero f g a x l e h = absurd (omega arith)
sum_raise (suc n) f g a x l e h = go (ℕ_discrete n a) (λ k. sum_raise n f g a x k e h)
  where
    go : Dec (n ≡ a) → (a < n → sum n f ≡ x + sum n g) → f n + sum n f ≡ x + (g n + sum n g)
    go (yes p) r =
        let y : f n ≡ x + g n = subst (λ z. f z ≡ x + g z) (sym p) e in
        let z : sum n f ≡ sum n g = sum_ext n f g (λ k l. h k (λ q. absurd (omega arith))) in
        omega arith
    go (no p) r = omega (arith, h n p, r (omega arith))

-- of n tests at most n pass
pub sum_num_le : (n : ℕ) (f : ℕ → Bool) → sum n (λ k. num (f k)) ≤ n
unfolding sum
sum_num_le zero f = omega arith
sum_num_le (suc n) f = omega (arith, num_lt (f n), sum_num_le n f)

-- u rising numbers below n that pass are at most as many as pass
pub sum_rising : (n u : ℕ) (f : ℕ → Bool) (p : ℕ → ℕ) → ((i : ℕ) → i < u → (p i < n) × (f (p i) ≡ true)) → ((i j : ℕ) → i < j → j < u → p i < p j)
    → u ≤ sum n (λ k. num (f k))
unfolding sum
sum_rising zero zero f p h r = omega arith
sum_rising zero (suc u) f p h r = absurd (omega (arith, (h 0 (omega arith)).0))
sum_rising (suc n) zero f p h r = omega arith
sum_rising (suc n) (suc u) f p h r = go (ℕ_discrete (p u) n) (λ v. sum_rising n v f p)
  where
    before : (i : ℕ) → i < u → p i < n
    before i l = omega (arith, r i u l (omega arith), (h u (omega arith)).0)

    all : p u < n → (i : ℕ) → i < suc u → p i < n
    all k i l = ⊎_elim (before i) (λ g. let q : i ≡ u = omega arith in subst (λ x. p x < n) (sym q) k) (lt_or_le i u)

    go : Dec (p u ≡ n) → ((v : ℕ) → ((i : ℕ) → i < v → (p i < n) × (f (p i) ≡ true)) → ((i j : ℕ) → i < j → j < v → p i < p j) → v ≤ sum n (λ k. num (f k)))
        → suc u ≤ num (f n) + sum n (λ k. num (f k))
    go (yes e) s =
        let t : num (f n) ≡ 1 = ap num (ap f (sym e) ∙ (h u (omega arith)).1) in
        omega (arith, s u (λ i l. (before i l, (h i (omega arith)).1)) (λ i j d l. r i j d (omega arith)))
    go (no e) s = omega (arith, s (suc u) (λ i l. (all (omega (arith, (h u (omega arith)).0)) i l, (h i l).1)) r)

-- how many of the numbers below n are below a
pub sum_below : (n a : ℕ) → sum n (λ k. num (ltb k a)) ≡ min n a
unfolding sum
sum_below zero a = omega arith
sum_below (suc n) a = let e : sum n (λ k. num (ltb k a)) ≡ min n a = sum_below n a in ⊎_elim (λ h. rw (lt-ltb n a h) (omega arith)) (λ h. rw (le-ltb n a h) (omega arith)) (lt_or_le n a)

-- ---- most

-- none is greater, and some index has it
pub most_le : (n : ℕ) (f : ℕ → ℕ) (i : ℕ) → i < n → f i ≤ most n f
unfolding most
most_le zero f i l = absurd (omega arith)
most_le (suc n) f i l = ⊎_elim (λ k. omega (arith, most_le n f i k)) (λ k. let e : i ≡ n = omega arith in rw e (omega arith)) (lt_or_le i n)

pub most_at : (n : ℕ) (f : ℕ → ℕ) → 0 < n → (i : ℕ) × (i < n) × (f i ≡ most n f)
unfolding most
most_at zero f l = absurd (omega arith)
most_at (suc zero) f l = (0, omega arith, omega arith)
most_at (suc (suc n)) f l =
    let (i, p, q) = most_at (suc n) f (omega arith) in
    ⊎_elim (λ k. (i, omega arith, omega (arith, q))) (λ k. (suc n, omega arith, omega arith)) (lt_or_le (f (suc n)) (most (suc n) f))

-- ---- list

pub length_list : {A : Type 0} (n : ℕ) (f : ℕ → A) → length (list n f) ≡ n
unfolding list
length_list zero f = refl
length_list (suc n) f = rw (length-append, length_list n f) (omega arith)

pub get_or_list : {A : Type 0} (n : ℕ) (f : ℕ → A) (d : A) (i : ℕ) → i < n → get_or (list n f) i d ≡ f i
unfolding list
get_or_list zero f d i h = absurd (omega arith)
get_or_list (suc n) f d i h =
    ⊎_elim
    (λ l. get_or-append (list n f) (f n ∷ []) d i (rw length_list l) ∙ get_or_list n f d i l)
    (λ l. let e : i ≡ n = omega arith in rw e (get_or_at (list n f) (f n) [] d n (length_list n f)))
    (lt_or_le i n)

pub list_ext : {A : Type 0} (n : ℕ) (f g : ℕ → A) → ((k : ℕ) → k < n → f k ≡ g k) → list n f ≡ list n g
unfolding list
list_ext zero f g e = refl
list_ext (suc n) f g e = ap₂ (λ l a. l ++ (a ∷ [])) (list_ext n f g (λ k l. e k (omega arith))) (e n (omega arith))

-- a list of n elements is the list of its elements
pub list_get_or : {A : Type 0} (n : ℕ) (f : ℕ → A) (d : A) (xs : List A) → length xs ≡ n → ((i : ℕ) → i < n → get_or xs i d ≡ f i) → xs ≡ list n f
list_get_or n f d xs e h = ext_get_or d xs (list n f) (e ∙ sym (length_list n f)) (λ i l. let k : i < n = omega arith in h i k ∙ sym (get_or_list n f d i k))

-- a loop that fills a list from the front: one element more, and all of them
pub list_more : {A : Type 0} (i : ℕ) (f : ℕ → A) (a : A) (xs : List A) → i < length xs → take i xs ≡ list i f → a ≡ f i → take (i + 1) (set xs i a) ≡ list (i + 1) f
unfolding list
list_more i f a xs l h e = rw (add-one, take-suc-set xs i a l, h, e)

pub list_done : {A : Type 0} (i n : ℕ) (f : ℕ → A) (xs : List A) → length xs ≡ n → i ≡ n → take i xs ≡ list i f → xs ≡ list n f
list_done i n f xs l e h = sym (take-length xs) ∙ rw (l, ← e) h
