-- The answer of a call that may be refused for several reasons: a list of lines, and the first of it that applies. Their order need not be that of the
-- numbers. Assumes nothing.
use Rattle.std.specs.Prelude.{ℕ, ◌≡◌, Bool, true, ◌&&◌, List, [], ◌∷◌, ◌↔◌, ◌⊎◌, ltb}
use Rattle.bits.specs.Lowest.{Lowest}

-- a line: a number, and when it applies
pub data Refusal : Type 1 where
  ◌when◌ : ℕ → Type 0 → Refusal

infix 5 ◌when◌
-- x is the number of the first line that applies, or 0 where none does
abbrev pub Found : List Refusal → ℕ → Type 0
Found [] x = x ≡ 0
Found ((o when P) ∷ rs) x = (P × (x ≡ o)) ⊎ ((P → ⊥) × Found rs x)

pub record First (rs : List Refusal) (x : ℕ) : Type 0 where
  pub found : Found rs x

-- ---- where the numbers rise

-- a line with the number y applies
abbrev pub Applies : List Refusal → ℕ → Type 0
Applies [] y = ⊥
Applies ((o when P) ∷ rs) y = (P × (y ≡ o)) ⊎ Applies rs y

-- the numbers rise, and the first of them is above b
abbrev pub rising : ℕ → List Refusal → Bool
rising b [] = true
rising b ((o when P) ∷ rs) = ltb b o && rising o rs

-- then the number of the first line that applies is the lowest that applies, and the other way round
abbrev pub RisingLowest : Type 1
RisingLowest = (rs : List Refusal) (x : ℕ) → rising 0 rs ≡ true → First rs x ↔ Lowest (Applies rs) x
