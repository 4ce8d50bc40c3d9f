-- How calls end: with an answer, and with what a lent buffer then holds. Assumes nothing.
use Rattle.std.specs.Prelude.{ℕ, ◌≡◌, List, length}

-- a call that ends as P allows and one that ends as Q allows end the same
abbrev pub Alike : {A : Type 0} → (A → List ℕ → Type 0) → (A → List ℕ → Type 0) → Type 0
Alike {A} P Q = (a a' : A) (x x' : List ℕ) → P a x → Q a' x' → (a ≡ a') × (x ≡ x')

-- P allows no second end
abbrev pub One : {A : Type 0} → (A → List ℕ → Type 0) → Type 0
One P = Alike P P

-- of what the buffer held before only the length counts: the answer is the same and, with number 0, what is left
abbrev pub Measured : {A : Type 0} → (A → ℕ) → (List ℕ → A → List ℕ → Type 0) → Type 0
Measured {A} number P =
    (old old' : List ℕ) (a a' : A) (x x' : List ℕ) → length old ≡ length old' → P old a x → P old' a' x' → (a ≡ a') × (number a ≡ 0 → x ≡ x')
