-- When each numbered refusal of a read, a plan and a store applies (of a conversion: Conversion.antt), said of the arguments themselves and not by the tests
-- that a number is computed from. Assumes nothing.
use Rattle.std.specs.Prelude.{ℕ, ◌+◌, ◌*◌, ◌%◌, ◌^◌, ◌<◌, ◌≤◌, min, ◌≡◌, Bool, true, List, [], ◌∷◌, ◌⊎◌, ◌≢◌, eqb, length}
use Rattle.std.specs.Bool.{xor}
use Rattle.bits.specs.Bits.{has, number}
use Rattle.bits.specs.First.{Refusal, ◌when◌}
use Rattle.rdis.specs.Block.{Block, bit, stuck}
use Rattle.rdis.specs.Chains.{HasChain}
use Rattle.rdis.specs.Packing.{width, bytes_for}

-- the rows m, the columns n and K = k lie in their ranges
pub record InRange (m n k : ℕ) : Type 0 where
  pub rows : (1 ≤ m) × (m ≤ 64)
  pub columns : (1 ≤ n) × (n ≤ 64)
  pub levels : (1 ≤ k) × (k ≤ 7)

-- every buffer that a read is lent is as long as it should be
pub record ReadLengths (m n k cells counters out : ℕ) : Type 0 where
  pub cell_words : cells ≡ m
  pub counter_bytes : counters ≡ bytes_for (width k) (m + n)
  pub out_words : out ≡ m

-- every one that a plan is lent
pub record PlanLengths (b : Block) (k counters : ℕ) : Type 0 where
  pub data_words : length b.data· ≡ b.rows
  pub mask_words : length b.mask ≡ b.rows
  pub value_words : length b.values ≡ b.rows
  pub counter_bytes : counters ≡ bytes_for (width k) (b.rows + b.columns)

-- and every one that a store is lent: those of a plan, and the cells
pub record StoreLengths (b : Block) (k counters cells : ℕ) : Type 0 where
  pub planned : PlanLengths b k counters
  pub cell_words : cells ≡ b.rows

-- some word has a bit past the last of n columns
abbrev pub Past : ℕ → List ℕ → Type 0
Past n ws = (i : ℕ) × (j : ℕ) × (n ≤ j) × (bit ws i j ≡ true)

-- some bit of the bytes past the last of n counters of w bits is 1
abbrev pub Spare : ℕ → ℕ → List ℕ → Type 0
Spare w n bs = (p : ℕ) × (w * n ≤ p) × (has (number 256 bs) p ≡ true)

-- the w bits of the bytes from bit w t on make the number x
abbrev pub Held : ℕ → List ℕ → ℕ → ℕ → Type 0
Held w bs t x = (x < 2 ^ w) × ((q : ℕ) → q < w → has x q ≡ has (number 256 bs) (w * t + q))

-- one of the first n counters of the bytes is above K
abbrev pub Above : ℕ → ℕ → List ℕ → Type 0
Above k n bs = (t : ℕ) × (t < n) × ((x : ℕ) × Held (width k) bs t x × (k < x))

-- the bit v of a cell, inverted where the smaller of the counters x of its row and y of its column is odd
abbrev pub inverted : ℕ → ℕ → Bool → Bool
inverted x y v = xor (eqb (min x y % 2) 1) v

-- the refusals of a read, in the order in which they are judged. Of the output only the length counts
abbrev pub read_refusals : (m n k : ℕ) (cells counters : List ℕ) (out : ℕ) → List Refusal
read_refusals m n k cells counters out =
    (1 when (InRange m n k → ⊥)) ∷ (2 when (ReadLengths m n k (length cells) (length counters) out → ⊥))
    ∷ (3 when (Past n cells ⊎ Spare (width k) (m + n) counters)) ∷ (4 when Above k (m + n) counters) ∷ []

-- a word of data, mask or values has a bit past the last column
abbrev pub PastBlock : Block → Type 0
PastBlock b = Past b.columns b.data· ⊎ (Past b.columns b.mask ⊎ Past b.columns b.values)

-- the refusals of a plan. Of the old counters only the length counts
abbrev pub plan_refusals : Block → (k counters : ℕ) → List Refusal
plan_refusals b k counters =
    (1 when (InRange b.rows b.columns k → ⊥)) ∷ (2 when (PlanLengths b k counters → ⊥)) ∷ (3 when PastBlock b) ∷ (7 when HasChain b (2 * k + 1)) ∷ []

-- some stuck cell (i, j) would read wrong by the counters x of its row and y of its column: its stuck value, inverted where they say so, is not its data bit
pub record Misread (b : Block) (k : ℕ) (counters : List ℕ) : Type 0 where
  pub i : ℕ
  pub j : ℕ
  pub inside : (i < b.rows) × (j < b.columns)
  pub is_stuck : stuck b i j ≡ true
  pub x : ℕ
  pub y : ℕ
  pub of_row : Held (width k) counters i x
  pub of_column : Held (width k) counters (b.rows + j) y
  pub wrong : inverted x y (bit b.values i j) ≢ bit b.data· i j

-- the refusals of a store. Of the old cells only the length counts
abbrev pub store_refusals : Block → ℕ → (counters : List ℕ) (cells : ℕ) → List Refusal
store_refusals b k counters cells =
    (1 when (InRange b.rows b.columns k → ⊥)) ∷ (2 when (StoreLengths b k (length counters) cells → ⊥))
    ∷ (3 when (PastBlock b ⊎ Spare (width k) (b.rows + b.columns) counters)) ∷ (4 when Above k (b.rows + b.columns) counters) ∷ (13 when Misread b k counters) ∷ []
