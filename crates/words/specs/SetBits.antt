-- What it is to take the lowest 1 out of a word. Assumes nothing.
use Rattle.std.specs.Prelude.{ℕ, ◌^◌, ◌<◌, ◌≡◌, true, false, not, ◌&&◌, Option, MatchOption, eqb}
use Rattle.bits.specs.Bits.{has}

-- i is the place of the lowest 1 of x, and y has all others
pub record TakesLowest (x i y : ℕ) : Type 0 where
  pub set : has x i ≡ true
  pub lowest : (j : ℕ) → j < i → has x j ≡ false
  pub others : (j : ℕ) → has y j ≡ has x j && not (eqb j i)
  -- so there is an end
  pub fewer : y < x

-- the next place of a 1 of x, after which y is left, or none where x has no 1
abbrev pub NextPlace : ℕ → Option ℕ → ℕ → Type 0
NextPlace x next y = MatchOption next ((x ≡ 0) × (y ≡ 0)) (λ i. TakesLowest x i y)

-- of a word no second place comes next, and no second word is left
abbrev pub OneNext : Type 0
OneNext =
    (x : ℕ) (next next' : Option ℕ) (y y' : ℕ) → x < 2 ^ 64 → NextPlace x next y → NextPlace x next' y' → (next ≡ next') × (y ≡ y')
