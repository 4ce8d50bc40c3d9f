-- What is proved of the promises themselves, of whatever code keeps them. Assumes nothing.
use Rattle.std.specs.Prelude.{ℕ, ◌+◌, ◌*◌, ◌<◌, ◌≤◌, ◌≡◌, true, not, cond, ◌&&◌, ◌||◌, List, ◌↔◌, eqb, ltb, length}
use Rattle.bits.specs.Bits.{some, first}
use Rattle.bits.specs.Lowest.{Lowest}
use Rattle.bits.specs.First.{Applies}
use Rattle.bits.specs.Ends.{One, Measured}
use Rattle.rdis.specs.Block.{Block, bit, stuck}
use Rattle.rdis.specs.Levels.{plan}
use Rattle.rdis.specs.Cells.{stored, reading}
use Rattle.rdis.specs.Packing.{width, bytes_for, in_order, packed, counter, row_counter, column_counter, spare_clear}
use Rattle.rdis.specs.Theorems.{with_values, old_width}
use Rattle.grid_promises.specs.Calls.{between, past, rows_of, columns_of}
use Rattle.grid_promises.specs.Refusals.{InRange, Past, Held, Above, read_refusals, plan_refusals, store_refusals}
use Rattle.grid_promises.specs.Demands.{CountsKinds, BoundsLevels, WellFormed, ReadDemands, PlanDemands, StoreDemands}
use Rattle.grid_promises.specs.Promises.{ReadExactly, Read, PlanExactly, Plan, StoreExactly, Store}
use Rattle.grid_promises.specs.declared.ReadAnswer.{ReadAnswer}
use Rattle.grid_promises.specs.declared.Answer.{Answer}

-- ---- no second answer: two calls with the same arguments end the same

abbrev pub OneRead : Type 0
OneRead = (m n k : ℕ) (cells counters out : List ℕ) → One (ReadExactly m n k cells counters out)

abbrev pub OnePlan : Type 0
OnePlan = (b : Block) (k : ℕ) (counters : List ℕ) → One (PlanExactly b k counters)

abbrev pub OneStore : Type 0
OneStore = (b : Block) (k : ℕ) (counters cells : List ℕ) → One (StoreExactly b k counters cells)

-- ---- nor one that keeps the demands alone: who believes only them needs no computed part

abbrev pub OneReadByDemands : Type 0
OneReadByDemands = (m n k : ℕ) (cells counters out : List ℕ) → One (ReadDemands m n k cells counters out)

abbrev pub OnePlanByDemands : Type 0
OnePlanByDemands = (b : Block) (k : ℕ) (counters : List ℕ) → One (PlanDemands b k counters)

abbrev pub OneStoreByDemands : Type 0
OneStoreByDemands = (b : Block) (k : ℕ) (counters cells : List ℕ) → One (StoreDemands b k counters cells)

-- ---- the lowest number that applies is the answer, or 0 where none does

abbrev pub ReadLowest : Type 0
ReadLowest =
    (m n k : ℕ) (cells counters out : List ℕ) (a : ReadAnswer) (after : List ℕ)
    → ReadDemands m n k cells counters out a after → Lowest (Applies (read_refusals m n k cells counters (length out))) a.number

abbrev pub PlanLowest : Type 0
PlanLowest =
    (b : Block) (k : ℕ) (counters : List ℕ) (a : Answer) (after : List ℕ)
    → PlanDemands b k counters a after → Lowest (Applies (plan_refusals b k (length counters))) a.number

abbrev pub StoreLowest : Type 0
StoreLowest =
    (b : Block) (k : ℕ) (counters cells : List ℕ) (a : Answer) (after : List ℕ)
    → StoreDemands b k counters cells a after → Lowest (Applies (store_refusals b k counters (length cells))) a.number

-- ---- what is said of the two kinds of stuck cells is enough for demand 3's bound

abbrev pub BoundFollows : Type 0
BoundFollows = (b : Block) (a : Answer) → CountsKinds b a → BoundsLevels a → 2 * a.levels ≤ a.faults + 1

-- ---- a plan, then a store, then a read

-- how a store ends that is lent what an accepted plan p left: answer s, and cells that the counters read as the data
pub record PlanKept (b : Block) (k : ℕ) (counters : List ℕ) (p s : Answer) (cells' : List ℕ) : Type 0 where
  -- it is accepted, with all the plan's counts
  pub accepted : s ≡ p
  -- a stuck cell holds its stuck value
  pub held : (i j : ℕ) → i < b.rows → j < b.columns → stuck b i j ≡ true → bit cells' i j ≡ bit b.values i j
  -- any read of them is accepted and gives the data
  pub reads_back : (out after : List ℕ) (r : ReadAnswer) → length out ≡ b.rows → ReadDemands b.rows b.columns k cells' counters out r after
      → (r.number ≡ 0) × (after ≡ b.data·)

-- so it ends with any cells of the right length, where the sizes, K, data, mask and values are the plan's
abbrev pub PlanThenStore : Type 0
PlanThenStore =
    (b : Block) (k : ℕ) (old counters cells cells' : List ℕ) (p s : Answer) → PlanDemands b k old p counters → p.number ≡ 0 → length cells ≡ b.rows
    → StoreDemands b k counters cells s cells' → PlanKept b k counters p s cells'

-- ---- no counters do better than a plan's

-- for every argument some end keeps a store's promise
abbrev pub StoreExists : Type 0
StoreExists = (b : Block) (k : ℕ) (counters cells : List ℕ) → (s : Answer) × (cells' : List ℕ) × Store b k counters cells s cells'

-- counters that are no reason to refuse a store of the block at K = k: as many bytes as they need, no spare bit is 1, and none is above K
pub record Allowed (b : Block) (k : ℕ) (counters : List ℕ) : Type 0 where
  pub formed : WellFormed (width k) (b.rows + b.columns) counters
  pub most : Above k (b.rows + b.columns) counters → ⊥

-- every store at K = k, by whatever such counters and into whatever cells of the right length, answers 13
abbrev pub NeverStored : Block → ℕ → Type 0
NeverStored b k =
    (counters cells cells' : List ℕ) (s : Answer) → Allowed b k counters → length cells ≡ b.rows → StoreDemands b k counters cells s cells' → s.number ≡ 13

-- a plan whose old counters have the right length answers 7 exactly if that is so
abbrev pub RefusedIfNeverStored : Type 0
RefusedIfNeverStored =
    (b : Block) (k : ℕ) (old counters : List ℕ) (p : Answer) → PlanDemands b k old p counters → length old ≡ bytes_for (width k) (b.rows + b.columns)
    → (p.number ≡ 7) ↔ NeverStored b k

-- a plan p that leaves `counters'` is no worse than an accepted store s by `counters`: it is accepted, L is at most the store's, and so is each line's counter
pub record NoWorse (b : Block) (k : ℕ) (counters counters' : List ℕ) (s p : Answer) : Type 0 where
  pub accepted : p.number ≡ 0
  pub levels : p.levels ≤ s.levels
  pub lines : (t x y : ℕ) → t < b.rows + b.columns → Held (width k) counters' t x → Held (width k) counters t y → x ≤ y

-- so it is where the sizes, K, data, mask and values are the store's, whoever made the store's counters
abbrev pub StoreThenPlan : Type 0
StoreThenPlan =
    (b : Block) (k : ℕ) (counters cells cells' old counters' : List ℕ) (s p : Answer) → StoreDemands b k counters cells s cells' → s.number ≡ 0
    → length old ≡ length counters → PlanDemands b k old p counters' → NoWorse b k counters counters' s p

-- ---- what does not count

-- of a read's output only the length: reads into others of that length answer the same and, if accepted, fill them the same
abbrev pub OutputMeasured : Type 0
OutputMeasured = (m n k : ℕ) (cells counters : List ℕ) → Measured (λ a. a.number) (Read m n k cells counters)

-- of a plan's old counters only the length
abbrev pub OldCountersMeasured : Type 0
OldCountersMeasured = (b : Block) (k : ℕ) → Measured (λ a. a.number) (Plan b k)

-- of a store's old cells only the length
abbrev pub OldCellsMeasured : Type 0
OldCellsMeasured = (b : Block) (k : ℕ) (counters : List ℕ) → Measured (λ a. a.number) (Store b k counters)

-- values v in place of the block's, of the same length, with bits past the last column where those have any, that agree with them at the stuck cells
pub record SameWhereStuck (b : Block) (v : List ℕ) : Type 0 where
  pub size : length v ≡ length b.values
  pub past_too : Past b.columns v ↔ Past b.columns b.values
  pub agree : (i j : ℕ) → i < b.rows → j < b.columns → stuck b i j ≡ true → bit b.values i j ≡ bit v i j

-- value bits at sound cells: plans, and stores, that differ in them alone end the same
abbrev pub PlanIgnoresSound : Type 0
PlanIgnoresSound =
    (b : Block) (v : List ℕ) (k : ℕ) (counters : List ℕ) (a a' : Answer) (x x' : List ℕ)
    → SameWhereStuck b v → Plan b k counters a x → Plan (with_values b v) k counters a' x' → (a ≡ a') × (x ≡ x')

abbrev pub StoreIgnoresSound : Type 0
StoreIgnoresSound =
    (b : Block) (v : List ℕ) (k : ℕ) (counters cells : List ℕ) (a a' : Answer) (x x' : List ℕ)
    → SameWhereStuck b v → Store b k counters cells a x → Store (with_values b v) k counters cells a' x' → (a ≡ a') × (x ≡ x')

-- ---- seven levels

-- the longest counters have 48 bytes
abbrev pub LongestCounters : Type 0
LongestCounters = (m n k : ℕ) → InRange m n k → bytes_for (width k) (m + n) ≤ 48

-- ---- up to three levels plans and stores leave what they left before there were more, and a read is what it was

-- a plan's bytes, and a store's cells, by counters of the old width
abbrev pub OldPlanKept : Type 0
OldPlanKept =
    (b : Block) (k : ℕ) (counters : List ℕ) (a : Answer) (x : List ℕ) → k ≤ 3 → PlanExactly b k counters a x → a.number ≡ 0
    → x ≡ packed (old_width k) (in_order b.rows b.columns (rows_of (plan b k)) (columns_of (plan b k)))

abbrev pub OldStoreKept : Type 0
OldStoreKept =
    (b : Block) (k : ℕ) (counters cells : List ℕ) (a : Answer) (x : List ℕ) → k ≤ 3 → StoreExactly b k counters cells a x → a.number ≡ 0
    → x ≡ stored b (row_counter (old_width k) counters) (column_counter (old_width k) b.rows counters)

-- its number then: K from 1 to 3, and counters of the old width
abbrev pub old_read_number : ℕ → ℕ → ℕ → List ℕ → List ℕ → ℕ → ℕ
old_read_number m n k cells counters out =
    cond (not (between 1 64 m && (between 1 64 n && between 1 3 k))) 1
    (cond (not ((eqb (length cells) m && eqb out m) && eqb (length counters) (bytes_for (old_width k) (m + n)))) 2
    (cond (past n cells || not (spare_clear (old_width k) (m + n) counters)) 3 (cond (some (m + n) (λ t. ltb k (counter (old_width k) counters t))) 4 0)))

pub record OldRead (m n k : ℕ) (cells counters out : List ℕ) (a : ReadAnswer) (x : List ℕ) : Type 0 where
  pub number : a.number ≡ old_read_number m n k cells counters (length out)
  pub index : a.index ≡ cond (eqb a.number 4) (first (m + n) (λ t. ltb k (counter (old_width k) counters t))) 0
  pub untouched : 0 < a.number → x ≡ out
  pub shown : a.number ≡ 0 → x ≡ reading m n (row_counter (old_width k) counters) (column_counter (old_width k) m counters) cells

abbrev pub OldReadKept : Type 0
OldReadKept =
    (m n k : ℕ) (cells counters out : List ℕ) (a : ReadAnswer) (x : List ℕ) → k ≤ 3 → ReadExactly m n k cells counters out a x → OldRead m n k cells counters out a x
