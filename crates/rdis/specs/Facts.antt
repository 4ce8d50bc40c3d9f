-- L and the counters as facts of the block: nobody who reads them needs to run the levels. Assumes nothing.
use Rattle.std.specs.Prelude.{ℕ, ◌-◌, ◌*◌, ◌%◌, ◌<◌, ◌≤◌, ◌≡◌, true, ◌↔◌, eqb}
use Rattle.rdis.specs.Block.{Block, faulty}
use Rattle.rdis.specs.Chains.{HasChain, SomeWrong}

-- l is at most k; it is 0 exactly if no cell is wrong; else it is the greatest number with a chain of 2l - 1 cells
pub record LevelsUsed (b : Block) (k l : ℕ) : Type 0 where
  pub most : l ≤ k
  pub none : (l ≡ 0) ↔ (SomeWrong b → ⊥)
  pub reached : 1 ≤ l → HasChain b (2 * l - 1)
  pub greatest : (m : ℕ) → 1 ≤ m → HasChain b (2 * m - 1) → m ≤ l

-- r and c count the levels that took a line: level t, from 0, took it exactly if all levels before it did, and it holds a stuck cell whose line across
-- they all took too, and which is wrong if t is even and right if t is odd
pub record CountsLevels (b : Block) (r c : ℕ → ℕ) : Type 0 where
  pub rows : (i t : ℕ) → i < b.rows → (t < r i) ↔ ((t ≤ r i) × ((j : ℕ) × (j < b.columns) × (t ≤ c j) × (faulty b (eqb (t % 2) 0) i j ≡ true)))
  pub columns : (j t : ℕ) → j < b.columns → (t < c j) ↔ ((t ≤ c j) × ((i : ℕ) × (i < b.rows) × (t ≤ r i) × (faulty b (eqb (t % 2) 0) i j ≡ true)))
