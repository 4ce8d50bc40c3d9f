-- What the cells hold after a write, and what reading them gives. Assumes nothing.
use Rattle.std.specs.Prelude.{ℕ, ◌%◌, min, Bool, cond, ◌&&◌, List, eqb}
use Rattle.std.specs.Bool.{xor}
use Rattle.bits.specs.Bits.{some, words}
use Rattle.rdis.specs.Block.{Block, bit, stuck}

-- the cell (i, j) is inverted: the smaller of the counters r of its row and c of its column is odd
unfoldable pub flips : (ℕ → ℕ) → (ℕ → ℕ) → ℕ → ℕ → Bool
flips r c i j = eqb (min (r i) (c j) % 2) 1

-- what a cell holds: its stuck value, or if it is sound its data bit, inverted where the counters say so
unfoldable pub holds : Block → (ℕ → ℕ) → (ℕ → ℕ) → ℕ → ℕ → Bool
holds b r c i j = cond (stuck b i j) (bit b.values i j) (xor (flips r c i j) (bit b.data· i j))

-- the cells of a store, a word a row
unfoldable pub stored : Block → (ℕ → ℕ) → (ℕ → ℕ) → List ℕ
stored b r c = words b.rows b.columns (holds b r c)

-- what reading cells of m rows and n columns gives
unfoldable pub reading : ℕ → ℕ → (ℕ → ℕ) → (ℕ → ℕ) → List ℕ → List ℕ
reading m n r c cells = words m n (λ i j. xor (flips r c i j) (bit cells i j))

-- the cell (i, j) is stuck and reads wrong: its stuck value, inverted where the counters say so, is not its data bit
abbrev pub misread : Block → (ℕ → ℕ) → (ℕ → ℕ) → ℕ → ℕ → Bool
misread b r c i j = stuck b i j && xor (xor (flips r c i j) (bit b.values i j)) (bit b.data· i j)

-- some cell does
unfoldable pub misreads : Block → (ℕ → ℕ) → (ℕ → ℕ) → Bool
misreads b r c = some b.rows (λ i. some b.columns (misread b r c i))
