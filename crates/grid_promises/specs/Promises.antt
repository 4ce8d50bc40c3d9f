-- What a read, a plan and a store promise (a conversion: Conversion.antt): how a call ends exactly, by equations that fix its answer and its buffer, and what is
-- demanded of it. Assumes nothing.
use Rattle.std.specs.Prelude.{ℕ, ◌+◌, ◌<◌, ◌≡◌, List, length}
use Rattle.bits.specs.Bits.{most}
use Rattle.rdis.specs.Block.{Block, faults}
use Rattle.rdis.specs.Levels.{plan}
use Rattle.rdis.specs.Cells.{stored, reading}
use Rattle.rdis.specs.Packing.{width, in_order, packed, counter, row_counter, column_counter}
use Rattle.grid_promises.specs.Calls.{read_number, plan_number, store_number, used, rows_of, columns_of, bad_index}
use Rattle.grid_promises.specs.Demands.{Untouched, CountsKinds, ReadDemands, PlanDemands, StoreDemands}
use Rattle.grid_promises.specs.declared.ReadAnswer.{ReadAnswer}
use Rattle.grid_promises.specs.declared.Answer.{Answer}

-- ---- a read of m rows and n columns at K = k: lent `out`, which holds `after` at the end

pub record ReadExactly (m n k : ℕ) (cells counters out : List ℕ) (answer : ReadAnswer) (after : List ℕ) : Type 0 where
  -- the number, computed
  pub number : answer.number ≡ read_number m n k cells counters (length out)
  -- the index that goes with it
  pub index_is : answer.index ≡ bad_index k (m + n) counters answer.number
  -- a refusal leaves the output as it was
  pub untouched : 0 < answer.number → after ≡ out
  -- accepted: every cell, inverted where its counters say so, and 0 past the last column
  pub shown : answer.number ≡ 0 → after ≡ reading m n (row_counter (width k) counters) (column_counter (width k) m counters) cells

pub record Read (m n k : ℕ) (cells counters out : List ℕ) (answer : ReadAnswer) (after : List ℕ) : Type 0 where
  pub exactly : ReadExactly m n k cells counters out answer after
  pub demands : ReadDemands m n k cells counters out answer after

-- ---- a plan of the block b at K = k: lent `counters`, which hold `counters'` at the end

pub record PlanExactly (b : Block) (k : ℕ) (counters : List ℕ) (answer : Answer) (counters' : List ℕ) : Type 0 where
  -- the number, computed
  pub number : answer.number ≡ plan_number b k (length counters)
  -- no index goes with it
  pub index_is : answer.index ≡ 0
  pub untouched : Untouched answer counters counters'
  -- accepted: the counter bytes, all of them; the levels; F, the ones in the mask's words; and its two kinds of cells, counted one by one
  pub counters_are : answer.number ≡ 0 → counters' ≡ packed (width k) (in_order b.rows b.columns (rows_of (plan b k)) (columns_of (plan b k)))
  pub levels_are : answer.number ≡ 0 → answer.levels ≡ used (plan b k)
  pub faults_are : answer.number ≡ 0 → answer.faults ≡ faults b.rows b.mask
  pub kinds_are : answer.number ≡ 0 → CountsKinds b answer

pub record Plan (b : Block) (k : ℕ) (counters : List ℕ) (answer : Answer) (counters' : List ℕ) : Type 0 where
  pub exactly : PlanExactly b k counters answer counters'
  pub demands : PlanDemands b k counters answer counters'

-- ---- a store of the block b at K = k by these counters, whoever made them: lent `cells`, which hold `cells'` at the end

pub record StoreExactly (b : Block) (k : ℕ) (counters cells : List ℕ) (answer : Answer) (cells' : List ℕ) : Type 0 where
  -- the number, computed
  pub number : answer.number ≡ store_number b k counters (length cells)
  -- the index that goes with it
  pub index_is : answer.index ≡ bad_index k (b.rows + b.columns) counters answer.number
  pub untouched : Untouched answer cells cells'
  -- accepted: the cells, all of them; the greatest counter; F, the ones in the mask's words; and its two kinds of cells, counted one by one
  pub cells_are : answer.number ≡ 0 → cells' ≡ stored b (row_counter (width k) counters) (column_counter (width k) b.rows counters)
  pub levels_are : answer.number ≡ 0 → answer.levels ≡ most (b.rows + b.columns) (counter (width k) counters)
  pub faults_are : answer.number ≡ 0 → answer.faults ≡ faults b.rows b.mask
  pub kinds_are : answer.number ≡ 0 → CountsKinds b answer

pub record Store (b : Block) (k : ℕ) (counters cells : List ℕ) (answer : Answer) (cells' : List ℕ) : Type 0 where
  pub exactly : StoreExactly b k counters cells answer cells'
  pub demands : StoreDemands b k counters cells answer cells'
  -- what the public read promises of the cells as they are at the end and these counters: it answers 0, and any output is filled with the data
  pub reads_back : answer.number ≡ 0 → (out : List ℕ) → length out ≡ b.rows → Read b.rows b.columns k cells' counters out (record { number = 0; index = 0 }) b.data·
