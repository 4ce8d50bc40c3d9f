-- Chains of stuck cells. They know nothing of levels, counters and subgrids. Assumes nothing.
use Rattle.std.specs.Prelude.{ℕ, ◌<◌, ◌≡◌, Bool, true, not, List, [], ◌∷◌, ◌⊎◌, length}
use Rattle.rdis.specs.Block.{Block, faulty}

-- a cell, by its row and its column
pub record Cell : Type 0 where
  pub row : ℕ
  pub column : ℕ

-- the two ways to step, and the other one of them
pub data Way : Type 0 where
  by_row by_column : Way

abbrev pub turn : Way → Way
turn by_row = by_column
turn by_column = by_row

-- the line of a cell that a step keeps
abbrev pub line : Way → Cell → ℕ
line by_row c = c.row
line by_column c = c.column

-- a step by row keeps the row, a step by column keeps the column
abbrev pub Step : Way → Cell → Cell → Type 0
Step d c e = line d c ≡ line d e

-- how a chain goes on after a cell c of colour w that is left by way d. P says which cells are of a colour
abbrev pub Rest : (Bool → Cell → Type 0) → Bool → Way → Cell → List Cell → Type 0
Rest P w d c [] = Unit {0}
Rest P w d c (e ∷ es) = Step d c e × P (not w) e × Rest P (not w) (turn d) e es

-- a chain: its first cell is of the colour true and colours alternate; ways alternate too, and the first step is of either. A cell may come again
abbrev pub Chain : (Bool → Cell → Type 0) → List Cell → Type 0
Chain P [] = ⊥
Chain P (c ∷ cs) = P true c × (Rest P true by_row c cs ⊎ Rest P true by_column c cs)

-- the colours of a block: its wrong stuck cells are true, its right ones false
abbrev pub Is : Block → Bool → Cell → Type 0
Is b w c = (c.row < b.rows) × (c.column < b.columns) × (faulty b w c.row c.column ≡ true)

-- the cells are a chain of the block
abbrev pub IsChain : Block → List Cell → Type 0
IsChain b cs = Chain (Is b) cs

-- the block has a chain of n cells
unfoldable pub HasChain : Block → ℕ → Type 0
HasChain b n = (cs : List Cell) × (length cs ≡ n) × IsChain b cs

-- some cell of the block is wrong
abbrev pub SomeWrong : Block → Type 0
SomeWrong b = (c : Cell) × Is b true c
