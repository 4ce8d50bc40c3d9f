-- What document 01 says of the chains of two cases, which no table of lines can say. Assumes nothing.
use Rattle.std.specs.Prelude.{ℕ, suc, ◌≡◌, true, false}
use Rattle.rdis.specs.Levels.{plan, unmaskable}
use Rattle.rdis.specs.Chains.{Cell, by_row, by_column, Step, Is, HasChain}
use Rattle.cases.specs.Table.{G5, G8}

abbrev pub cell : ℕ → ℕ → Cell
cell i j = record { row = i; column = j }

-- ---- G5: four cells, yet a chain of any length

abbrev pub AnyLength : Type 0
AnyLength = (n : ℕ) → HasChain G5 (suc n)

-- so it is refused at every K
abbrev pub NeverMasked : Type 0
NeverMasked = (k : ℕ) → plan G5 k ≡ unmaskable

-- ---- G8: three alternating cells, but the ends are right

-- right, wrong, right, by row and then by column
abbrev pub Alternating : Type 0
Alternating = Is G8 false (cell 0 0) × Is G8 true (cell 0 1) × Is G8 false (cell 1 1) × Step by_row (cell 0 0) (cell 0 1) × Step by_column (cell 0 1) (cell 1 1)

-- they are no chain, nor are any other three cells
abbrev pub NoChain : Type 0
NoChain = HasChain G8 3 → ⊥
