-- Laws of tests: what true and false exclude, and the Boolean operations. Assumes nothing.
use mathlib.Core.Path.{◌≡◌, refl, sym, ap, ◌∙◌}
use mathlib.Core.Bool.{Bool, true, false, not, xor, ◌&&◌, ◌||◌, or-true}
use mathlib.Core.Logic.{◌↔◌, ◌⊎◌, inl, inr, ⊎_elim}
use Prim.Native.Nat.{ℕ, zero, suc, ◌<◌, ◌≤◌}
use native.Mathlib.Omega.{arith}
use native.Mathlib.Decide.{dec_lt}
use lib.Dec.{eqb, leb, ltb}
use borrow.Author.Tests.{eqb-true, eq-eqb, leb-true, le-leb, lt-leb, ltb-true, lt-ltb, le-ltb, not-true}
use Rattle.bits.specs.Bits.{num}

-- no test is both
pub clash : {A : Type 0} {a : Bool} → a ≡ true → a ≡ false → A
clash p q = let z : ◌≡◌ {A = ℕ} 0 1 = cc in absurd (omega arith)

pub true_or_false : (a : Bool) → (a ≡ true) ⊎ (a ≡ false)
true_or_false true = inl refl
true_or_false false = inr refl

pub false_when : (a : Bool) → (a ≡ true → ⊥) → a ≡ false
false_when true f = absurd (f refl)
false_when false f = refl

-- two tests that imply each other are equal
pub same_test : (a b : Bool) → (a ≡ true → b ≡ true) → (b ≡ true → a ≡ true) → a ≡ b
same_test true b f g = sym (f refl)
same_test false true f g = g refl
same_test false false f g = refl

pub lt_or_le : (a b : ℕ) → (a < b) ⊎ (b ≤ a)
lt_or_le a b = elim (dec_lt a b) [ yes h ↦ inl h | no h ↦ inr (omega arith) ]

-- ---- and

pub and_in : {a b : Bool} → a ≡ true → b ≡ true → a && b ≡ true
and_in p q = rw (p, q)

pub and_left : (a b : Bool) → a && b ≡ true → a ≡ true
and_left true b h = refl
and_left false b h = h

pub and_right : (a b : Bool) → a && b ≡ true → b ≡ true
and_right true b h = h
and_right false b h = clash h refl

-- ---- or

pub or_out : (a b : Bool) → a || b ≡ true → (a ≡ true) ⊎ (b ≡ true)
or_out true b h = inl refl
or_out false b h = inr h

pub or_neither : (a b : Bool) → a || b ≡ false → (a ≡ false) × (b ≡ false)
or_neither true b h = clash refl h
or_neither false b h = (refl, h)

-- ---- exclusive or

pub xor_false : (b : Bool) → xor false b ≡ b
unfolding xor
xor_false true = refl
xor_false false = refl

pub xor_true : (b : Bool) → xor true b ≡ not b
unfolding xor
xor_true true = refl
xor_true false = refl

-- twice the same changes nothing
pub xor_twice : (a b : Bool) → xor a (xor a b) ≡ b
unfolding xor
xor_twice true true = refl
xor_twice true false = refl
xor_twice false true = refl
xor_twice false false = refl

pub xor_back : (a b : Bool) → xor (xor a b) b ≡ a
unfolding xor
xor_back true true = refl
xor_back true false = refl
xor_back false true = refl
xor_back false false = refl

pub xor_assoc : (a b c : Bool) → xor a (xor b c) ≡ xor (xor a b) c
unfolding xor
xor_assoc true true c = xor_twice true c ∙ sym (xor_false c)
xor_assoc true false c = ap (xor true) (xor_false c)
xor_assoc false b c = xor_false (xor b c) ∙ ap (λ t. xor t c) (sym (xor_false b))

pub xor_none : (a b : Bool) → (xor a b ≡ false) ↔ (b ≡ a)
unfolding xor
xor_none true true = (λ _. refl, λ _. refl)
xor_none true false = (λ h. sym h, λ h. sym h)
xor_none false true = (λ h. h, λ h. h)
xor_none false false = (λ _. refl, λ _. refl)

pub xor_iff : (a b : Bool) → (xor a b ≡ true) ↔ (b ≡ not a)
unfolding xor
xor_iff true true = (λ h. sym h, λ h. sym h)
xor_iff true false = (λ h. refl, λ h. refl)
xor_iff false true = (λ h. refl, λ h. refl)
xor_iff false false = (λ h. h, λ h. h)

-- ---- a test as a number

pub num_lt : (a : Bool) → num a < 2
num_lt true = omega arith
num_lt false = omega arith

pub eqb_num : (a : Bool) → eqb (num a) 1 ≡ a
eqb_num true = refl
eqb_num false = refl

pub num_eqb : (x : ℕ) → x < 2 → num (eqb x 1) ≡ x
num_eqb zero h = refl
num_eqb (suc zero) h = refl
num_eqb (suc (suc x)) h = absurd (omega arith)

pub eqb_same : (x : ℕ) → eqb x x ≡ true
eqb_same x = eq-eqb x x refl

pub ltb_not : (x y : ℕ) → ltb x y ≡ not (leb y x)
ltb_not x y = ⊎_elim (λ h. rw (lt-leb y x h) (lt-ltb x y h)) (λ h. rw (le-leb y x h) (le-ltb x y h)) (lt_or_le x y)

-- ---- a test and the fact that it tests

pub leb_iff : (x y : ℕ) → (leb x y ≡ true) ↔ (x ≤ y)
leb_iff x y = (leb-true x y, le-leb x y)

pub ltb_iff : (x y : ℕ) → (ltb x y ≡ true) ↔ (x < y)
ltb_iff x y = (ltb-true x y, lt-ltb x y)

pub eqb_iff : (x y : ℕ) → (eqb x y ≡ true) ↔ (x ≡ y)
eqb_iff x y = (eqb-true x y, eq-eqb x y)

module _ {A : Type 0} (a : Bool) (f : (a ≡ true) ↔ A) where
  pub iff_false : a ≡ false → A → ⊥
  iff_false e x = clash (f.1 x) e

  pub false_iff : (A → ⊥) → a ≡ false
  false_iff n = false_when a (λ h. n (f.0 h))

  -- what is tested is so if it is not false
  pub iff_stable : ((A → ⊥) → ⊥) → A
  iff_stable n = ⊎_elim (λ h. f.0 h) (λ e. absurd (n (iff_false e))) (true_or_false a)

  pub not_iff : (not a ≡ true) ↔ (A → ⊥)
  not_iff = (λ h. iff_false (not-true a h), λ n. rw (false_iff n))

  module _ {B : Type 0} (b : Bool) (g : (b ≡ true) ↔ B) where
    pub and_iff : (a && b ≡ true) ↔ (A × B)
    and_iff = (λ h. (f.0 (and_left a b h), g.0 (and_right a b h)), λ (x, y). and_in (f.1 x) (g.1 y))

    pub or_iff : (a || b ≡ true) ↔ (A ⊎ B)
    or_iff = (λ h. ⊎_elim (λ p. inl (f.0 p)) (λ p. inr (g.0 p)) (or_out a b h), ⊎_elim (λ x. rw (f.1 x)) (λ y. rw (g.1 y) (or-true a)))
