-- What is demanded of a read, a plan and a store (of a conversion: Conversion.antt): facts about the arguments and what is left, a field each. They cite no computed number, no plan and no list of
-- cells or counters, and they alone leave one answer (Theorems.antt). Assumes nothing.
use Rattle.std.specs.Prelude.{ℕ, ◌+◌, ◌*◌, ◌<◌, ◌≤◌, ◌≡◌, true, false, List, ◌↔◌, ◌⊎◌, ◌≢◌, length}
use Rattle.bits.specs.Bits.{Below}
use Rattle.bits.specs.First.{First}
use Rattle.rdis.specs.Block.{Block, Sized, bit, stuck, stuck_cells, faulty_cells}
use Rattle.rdis.specs.Chains.{HasChain}
use Rattle.rdis.specs.Facts.{LevelsUsed, CountsLevels}
use Rattle.rdis.specs.Packing.{width, bytes_for}
use Rattle.grid_promises.specs.Refusals.{InRange, PlanLengths, StoreLengths, PastBlock, Above, Spare, Held, Misread, inverted, read_refusals, plan_refusals, store_refusals}
use Rattle.grid_promises.specs.declared.ReadAnswer.{ReadAnswer}
use Rattle.grid_promises.specs.declared.Answer.{Answer}

-- ---- which counter is bad: what a read, a store and a conversion share

-- t is the index of the first of n counters that is above k, by the bits where they are in the bytes: each before it is at most k
pub record FirstAbove (k n : ℕ) (bs : List ℕ) (t : ℕ) : Type 0 where
  pub inside : t < n
  pub above : (x : ℕ) × Held (width k) bs t x × (k < x)
  pub before : (s y : ℕ) → s < t → Held (width k) bs s y → y ≤ k

-- an answer with this number and index: refusal 4 names the first counter above k, and any other answer has index 0
pub record Names (k n : ℕ) (bs : List ℕ) (number index : ℕ) : Type 0 where
  pub first : number ≡ 4 → FirstAbove k n bs index
  pub none : number ≢ 4 → index ≡ 0

-- ---- a read

-- of m rows and n columns at K = k: lent `out`, which holds `after` at the end
pub record ReadDemands (m n k : ℕ) (cells counters out : List ℕ) (answer : ReadAnswer) (after : List ℕ) : Type 0 where
  -- the first refusal that applies, or 0 where none does
  pub first : First (read_refusals m n k cells counters (length out)) answer.number
  -- with refusal 4 which counter is above K: the rows' are counted first, from 0, and then the columns'
  pub names : Names k (m + n) counters answer.number answer.index
  -- a refusal leaves the output as it was
  pub untouched : 0 < answer.number → after ≡ out
  -- accepted: a word a row, with no bit past the last column
  pub inside : answer.number ≡ 0 → Sized m n after
  -- each cell by itself: the row's counter is among the first m, the column's after them
  pub shows : answer.number ≡ 0 → (i j x y : ℕ) → i < m → j < n → Held (width k) counters i x → Held (width k) counters (m + j) y
      → bit after i j ≡ inverted x y (bit cells i j)

-- ---- what a plan and a store share

-- every count is 0
pub record CountsNothing (answer : Answer) : Type 0 where
  pub levels : answer.levels ≡ 0
  pub faults : answer.faults ≡ 0
  pub wrong : answer.wrong ≡ 0
  pub right : answer.right ≡ 0

-- a refusal counts nothing and leaves the buffer as it was
abbrev pub Untouched : Answer → List ℕ → List ℕ → Type 0
Untouched answer old new = 0 < answer.number → CountsNothing answer × (new ≡ old)

-- the stuck cells that are wrong for the data and those that are right for it are counted one by one, and F is their sum
pub record CountsKinds (b : Block) (answer : Answer) : Type 0 where
  pub wrong : answer.wrong ≡ faulty_cells b true
  pub right : answer.right ≡ faulty_cells b false
  pub sum : answer.faults ≡ answer.wrong + answer.right

-- L is at most the wrong cells, and at most the right ones and one more
pub record BoundsLevels (answer : Answer) : Type 0 where
  pub wrong : answer.levels ≤ answer.wrong
  pub right : answer.levels ≤ answer.right + 1

-- ---- a plan

-- the bytes of n counters of w bits: as many as they need, and no spare bit is 1
pub record WellFormed (w n : ℕ) (bs : List ℕ) : Type 0 where
  pub size : length bs ≡ bytes_for w n
  pub bytes : Below 256 bs
  pub clear : Spare w n bs → ⊥

-- the bytes hold r as the counters of m rows, and after them c as those of n columns
pub record HeldLines (w m n : ℕ) (bs : List ℕ) (r c : ℕ → ℕ) : Type 0 where
  pub rows : (i : ℕ) → i < m → Held w bs i (r i)
  pub columns : (j : ℕ) → j < n → Held w bs (m + j) (c j)

-- of the block b at K = k: lent `counters`, which hold `counters'` at the end
pub record PlanDemands (b : Block) (k : ℕ) (counters : List ℕ) (answer : Answer) (counters' : List ℕ) : Type 0 where
  -- the first refusal that applies, or 0 where none does
  pub first : First (plan_refusals b k (length counters)) answer.number
  -- it judges no counters, and names none
  pub names_none : answer.index ≡ 0
  pub untouched : Untouched answer counters counters'
  -- where none of 1, 2 and 3 applies: 7 exactly if there is a chain of 2K + 1 cells
  pub unmaskable : InRange b.rows b.columns k → PlanLengths b k (length counters) → (PastBlock b → ⊥) → (answer.number ≡ 7) ↔ HasChain b (2 * k + 1)
  -- L is at most K, the greatest number with a chain of 2L - 1 cells, and 0 exactly where no cell is wrong
  pub deepest : answer.number ≡ 0 → LevelsUsed b k answer.levels
  -- F counts the stuck cells one by one, and L takes at least 2L - 1 of them
  pub every_fault : answer.number ≡ 0 → answer.faults ≡ stuck_cells b.rows b.columns b.mask
  pub few_levels : answer.number ≡ 0 → 2 * answer.levels ≤ answer.faults + 1
  -- the wrong and the right ones are counted too, and L takes at least L of the wrong ones and L - 1 of the right ones
  pub kinds : answer.number ≡ 0 → CountsKinds b answer
  pub few_of_each : answer.number ≡ 0 → BoundsLevels answer
  -- the counters that the bytes hold say of every line how many levels took it
  pub well_formed : answer.number ≡ 0 → WellFormed (width k) (b.rows + b.columns) counters'
  pub counted : answer.number ≡ 0 → (r c : ℕ → ℕ) → HeldLines (width k) b.rows b.columns counters' r c → CountsLevels b r c

-- ---- a store

-- x is the greatest of the first n counters of w bits that the bytes hold: some line has it, and none a greater one
pub record Greatest (w n : ℕ) (bs : List ℕ) (x : ℕ) : Type 0 where
  pub reached : (t : ℕ) × (t < n) × Held w bs t x
  pub exceeded : (t y : ℕ) → t < n → Held w bs t y → y ≤ x

-- of the block b at K = k by these counters, whoever made them: lent `cells`, which hold `cells'` at the end
pub record StoreDemands (b : Block) (k : ℕ) (counters cells : List ℕ) (answer : Answer) (cells' : List ℕ) : Type 0 where
  -- the first refusal that applies, or 0 where none does
  pub first : First (store_refusals b k counters (length cells)) answer.number
  -- with refusal 4 which counter is above K, as a read
  pub names : Names k (b.rows + b.columns) counters answer.number answer.index
  pub untouched : Untouched answer cells cells'
  -- where none of 1 to 4 applies: 13 exactly if some stuck cell would read wrong
  pub misread : InRange b.rows b.columns k → StoreLengths b k (length counters) (length cells) → (PastBlock b ⊎ Spare (width k) (b.rows + b.columns) counters → ⊥)
      → (Above k (b.rows + b.columns) counters → ⊥) → (answer.number ≡ 13) ↔ Misread b k counters
  -- L is the greatest counter
  pub deepest : answer.number ≡ 0 → Greatest (width k) (b.rows + b.columns) counters answer.levels
  -- F counts the stuck cells one by one, and the wrong and the right ones are counted too
  pub every_fault : answer.number ≡ 0 → answer.faults ≡ stuck_cells b.rows b.columns b.mask
  pub kinds : answer.number ≡ 0 → CountsKinds b answer
  -- a word a row, with no bit past the last column
  pub inside : answer.number ≡ 0 → Sized b.rows b.columns cells'
  -- a stuck cell holds its stuck value
  pub held : answer.number ≡ 0 → (i j : ℕ) → i < b.rows → j < b.columns → stuck b i j ≡ true → bit cells' i j ≡ bit b.values i j
  -- a sound cell holds its data bit, inverted where the smaller counter is odd
  pub sound : answer.number ≡ 0 → (i j x y : ℕ) → i < b.rows → j < b.columns → stuck b i j ≡ false → Held (width k) counters i x
      → Held (width k) counters (b.rows + j) y → bit cells' i j ≡ inverted x y (bit b.data· i j)
