-- What is proved of grid blocks, each statement by itself. b is a block, k the levels allowed, l the levels used, r and c the counters of rows
-- and columns, w a width in bits. Assumes nothing.
use Rattle.std.specs.Prelude.{ℕ, ◌+◌, ◌*◌, ◌/◌, ◌%◌, ◌^◌, ◌<◌, ◌≤◌, ◌≡◌, Bool, true, false, cond, List, ◌↔◌, leb, length, get_or}
use Rattle.bits.specs.Bits.{has, at, bytes, Below}
use Rattle.rdis.specs.Block.{Block, Sized, bit, stuck, wrong, stuck_cells, faulty_cells, faults}
use Rattle.rdis.specs.Levels.{masked, unmaskable, plan}
use Rattle.rdis.specs.Cells.{flips, stored, reading, misreads}
use Rattle.rdis.specs.Chains.{HasChain}
use Rattle.rdis.specs.Facts.{LevelsUsed, CountsLevels}
use Rattle.rdis.specs.Packing.{width, bytes_for, in_order, packed, unpacked, counter, row_counter, column_counter, spare_clear}

-- a plan with k levels masks the faults of b by l levels, with these counters
abbrev pub Masked : Block → ℕ → ℕ → (ℕ → ℕ) → (ℕ → ℕ) → Type 0
Masked b k l r c = plan b k ≡ masked l r c

-- ---- 1. refusal

-- with k levels a plan fails exactly where there is a chain of 2k + 1 cells
abbrev pub RefusedByChain : Type 0
RefusedByChain = (b : Block) (k : ℕ) → (plan b k ≡ unmaskable) ↔ HasChain b (2 * k + 1)

-- where a plan masks the faults, one with more levels does the same
abbrev pub MoreAllowed : Type 0
MoreAllowed = (b : Block) (k k' l : ℕ) (r c : ℕ → ℕ) → k ≤ k' → Masked b k l r c → Masked b k' l r c

-- ---- 2. the levels used

-- where the plan masks the faults, they are as chains say
abbrev pub LevelsByChain : Type 0
LevelsByChain = (b : Block) (k l : ℕ) (r c : ℕ → ℕ) → Masked b k l r c → LevelsUsed b k l

-- and chains say it of one number alone
abbrev pub OneDepth : Type 0
OneDepth = (b : Block) (k l l' : ℕ) → LevelsUsed b k l → LevelsUsed b k l' → l ≡ l'

-- a chain has a cell
abbrev pub NoChainEmpty : Type 0
NoChainEmpty = (b : Block) → HasChain b 0 → ⊥

-- the counters of a plan count the levels that took a line, and no others do
abbrev pub LevelsCounted : Type 0
LevelsCounted = (b : Block) (k l : ℕ) (r c : ℕ → ℕ) → Masked b k l r c → CountsLevels b r c

abbrev pub OneCount : Type 0
OneCount =
    (b : Block) (r c r' c' : ℕ → ℕ) → CountsLevels b r c → CountsLevels b r' c' → ((i : ℕ) → i < b.rows → r i ≡ r' i) × ((j : ℕ) → j < b.columns → c j ≡ c' j)

-- ---- 3. levels and faults

-- the levels used are at most the wrong stuck cells, and at most one more than the right ones: in a longest chain no cell comes twice
abbrev pub LevelsByKind : Type 0
LevelsByKind = (b : Block) (k l : ℕ) (r c : ℕ → ℕ) → Masked b k l r c → (l ≤ faulty_cells b true) × (l ≤ faulty_cells b false + 1)

-- every stuck cell is wrong or right, and none is both
abbrev pub TwoKinds : Type 0
TwoKinds = (b : Block) → stuck_cells b.rows b.columns b.mask ≡ faulty_cells b true + faulty_cells b false

-- twice the levels used are at most F + 1, whatever the mask's words
abbrev pub LevelsByFaults : Type 0
LevelsByFaults = (b : Block) (k l : ℕ) (r c : ℕ → ℕ) → Masked b k l r c → 2 * l ≤ faults b.rows b.mask + 1

-- F counts the stuck cells, if the mask has no bit past the last column
abbrev pub FaultsAreCells : Type 0
FaultsAreCells = (m n : ℕ) (mask : List ℕ) → Below (2 ^ n) mask → faults m mask ≡ stuck_cells m n mask

-- ---- 4. read-back

-- a stuck cell is wrong exactly where its counters invert it
abbrev pub WrongWhereFlipped : Type 0
WrongWhereFlipped =
    (b : Block) (k l : ℕ) (r c : ℕ → ℕ) → Masked b k l r c → (i j : ℕ) → i < b.rows → j < b.columns → stuck b i j ≡ true → wrong b i j ≡ flips r c i j

-- so the stored cells read as the data
abbrev pub ReadBack : Type 0
ReadBack = (b : Block) (k l : ℕ) (r c : ℕ → ℕ) → Masked b k l r c → Sized b.rows b.columns b.data· → reading b.rows b.columns r c (stored b r c) ≡ b.data·

-- cells that are stored by any counters read as the data exactly where no stuck cell reads wrong
abbrev pub StoredReads : Type 0
StoredReads = (b : Block) (r c : ℕ → ℕ) → Sized b.rows b.columns b.data· → (misreads b r c ≡ false) ↔ (reading b.rows b.columns r c (stored b r c) ≡ b.data·)

-- by those of a plan none does
abbrev pub PlanReads : Type 0
PlanReads = (b : Block) (k l : ℕ) (r c : ℕ → ℕ) → Masked b k l r c → misreads b r c ≡ false

-- a store leaves a stuck cell as it is, by any counters
abbrev pub StuckHeld : Type 0
StuckHeld = (b : Block) (r c : ℕ → ℕ) (i j : ℕ) → i < b.rows → j < b.columns → stuck b i j ≡ true → bit (stored b r c) i j ≡ bit b.values i j

-- ---- 5. packing, over any width

-- the bytes bs hold the n counters cs: as many bytes as they need, with the spare bits 0
pub record Packs (w n : ℕ) (cs bs : List ℕ) : Type 0 where
  pub size : length bs ≡ bytes_for w n
  pub bytes : Below 256 bs
  pub spare : spare_clear w n bs ≡ true
  pub back : unpacked w n bs ≡ cs

-- counters have such bytes, and only the packed ones are
abbrev pub PackedOnly : Type 0
PackedOnly = (w n : ℕ) (cs bs : List ℕ) → length cs ≡ n → Below (2 ^ w) cs → Packs w n cs bs ↔ (bs ≡ packed w cs)

-- m bytes have room for n counters exactly if they are at least as many as these need
abbrev pub FewestBytes : Type 0
FewestBytes = (w n m : ℕ) → (w * n ≤ 8 * m) ↔ (bytes_for w n ≤ m)

-- bit k of counter t is bit w t + k of the bytes
abbrev pub CounterBits : Type 0
CounterBits = (w t k : ℕ) (bs : List ℕ) → Below 256 bs → k < w → has (counter w bs t) k ≡ at bs (w * t + k)

-- and bit p of packed counters is bit p mod w of counter p / w
abbrev pub PackedBits : Type 0
PackedBits = (w : ℕ) (cs : List ℕ) → 0 < w → Below (2 ^ w) cs → packed w cs ≡ bytes (bytes_for w (length cs)) (λ p. has (get_or cs (p / w) 0) (p % w))

-- the spare bits are all those after the last counter's
abbrev pub SpareBits : Type 0
SpareBits = (w n : ℕ) (bs : List ℕ) → Below 256 bs → (spare_clear w n bs ≡ true) ↔ ((p : ℕ) → w * n ≤ p → at bs p ≡ false)

-- the counters of rows and columns that are read from packed bytes are those that went in
abbrev pub CountersBack : Type 0
CountersBack =
    (w m n : ℕ) (r c : ℕ → ℕ) → ((i : ℕ) → i < m → r i < 2 ^ w) → ((j : ℕ) → j < n → c j < 2 ^ w)
    → ((i : ℕ) → i < m → row_counter w (packed w (in_order m n r c)) i ≡ r i) × ((j : ℕ) → j < n → column_counter w m (packed w (in_order m n r c)) j ≡ c j)

-- no counter of a plan is above the levels used
abbrev pub CountersAtMost : Type 0
CountersAtMost = (b : Block) (k l : ℕ) (r c : ℕ → ℕ) → Masked b k l r c → ((i : ℕ) → r i ≤ l) × ((j : ℕ) → c j ≤ l)

-- and some row's is that, if there is a level
abbrev pub LevelsReached : Type 0
LevelsReached = (b : Block) (k l : ℕ) (r c : ℕ → ℕ) → Masked b k l r c → 1 ≤ l → (i : ℕ) × (i < b.rows) × (r i ≡ l)

-- the levels allowed fit their width
abbrev pub WidthHolds : Type 0
WidthHolds = (k : ℕ) → k ≤ 7 → k < 2 ^ width k

-- the bits of a counter as long as there were at most three levels
abbrev pub old_width : ℕ → ℕ
old_width k = cond (leb k 1) 1 2

-- up to three levels the width is still that: so counters have the bytes that they had, bytes hold the counters that they held, and cells read as they did
pub record AsBefore (k : ℕ) : Type 0 where
  pub bits : width k ≡ old_width k
  pub packs : (cs : List ℕ) → packed (width k) cs ≡ packed (old_width k) cs
  pub unpacks : (n : ℕ) (bs : List ℕ) → unpacked (width k) n bs ≡ unpacked (old_width k) n bs
  pub reads : (m n : ℕ) (bs cells : List ℕ)
      → reading m n (row_counter (width k) bs) (column_counter (width k) m bs) cells ≡ reading m n (row_counter (old_width k) bs) (column_counter (old_width k) m bs) cells

abbrev pub OldWidthKept : Type 0
OldWidthKept = (k : ℕ) → k ≤ 3 → AsBefore k

-- from four levels on, of which seven is the last, a counter has three bits
abbrev pub ThreeBits : Type 0
ThreeBits = (k : ℕ) → 4 ≤ k → width k ≡ 3

-- so the stored cells read as the data by the counters from the packed bytes
abbrev pub ReadBackPacked : Type 0
ReadBackPacked =
    (b : Block) (k l : ℕ) (r c : ℕ → ℕ) (w : ℕ) (bs : List ℕ) → Masked b k l r c → k < 2 ^ w → Sized b.rows b.columns b.data·
    → bs ≡ packed w (in_order b.rows b.columns r c)
    → reading b.rows b.columns (row_counter w bs) (column_counter w b.rows bs) (stored b r c) ≡ b.data·

-- ---- 6. value bits at sound cells

-- the block with other values
abbrev pub with_values : Block → List ℕ → Block
with_values b v = record { rows = b.rows; columns = b.columns; data· = b.data·; mask = b.mask; values = v }

-- two blocks with the same plan, as many stuck cells of each kind and, by any counters, the same cells; in both or in neither a stuck cell then reads wrong
pub record SameWrite (b d : Block) : Type 0 where
  pub plans : (k : ℕ) → plan b k ≡ plan d k
  pub kinds : (w : Bool) → faulty_cells b w ≡ faulty_cells d w
  pub cells : (r c : ℕ → ℕ) → stored b r c ≡ stored d r c
  pub wrongs : (r c : ℕ → ℕ) → misreads b r c ≡ misreads d r c

-- so are blocks whose values differ at sound cells alone
abbrev pub SoundIgnored : Type 0
SoundIgnored = (b : Block) (v : List ℕ) → ((i j : ℕ) → i < b.rows → j < b.columns → stuck b i j ≡ true → bit b.values i j ≡ bit v i j) → SameWrite b (with_values b v)

-- ---- 7. no counters do better than a plan's

-- no counter of a row or a column of b is above k
abbrev pub AtMost : Block → ℕ → (ℕ → ℕ) → (ℕ → ℕ) → Type 0
AtMost b k r c = ((i : ℕ) → i < b.rows → r i ≤ k) × ((j : ℕ) → j < b.columns → c j ≤ k)

-- where there is a chain of 2k + 1 cells and none reads wrong, some row and some column that cross have counters above k
abbrev pub ChainExceeds : Type 0
ChainExceeds =
    (b : Block) (k : ℕ) (r c : ℕ → ℕ) → HasChain b (2 * k + 1) → misreads b r c ≡ false
    → (i : ℕ) × (j : ℕ) × (i < b.rows) × (j < b.columns) × (k < r i) × (k < c j)

-- so by counters up to k some stuck cell reads wrong
abbrev pub ChainMisreads : Type 0
ChainMisreads = (b : Block) (k : ℕ) (r c : ℕ → ℕ) → HasChain b (2 * k + 1) → AtMost b k r c → misreads b r c ≡ true

-- a plan with k levels fails exactly where no counters up to k would do
abbrev pub RefusedIfNoCounters : Type 0
RefusedIfNoCounters = (b : Block) (k : ℕ) → (plan b k ≡ unmaskable) ↔ ((r c : ℕ → ℕ) → AtMost b k r c → misreads b r c ≡ true)

-- and where some do, it masks the faults
abbrev pub MaskedIfAny : Type 0
MaskedIfAny =
    (b : Block) (k : ℕ) (r c : ℕ → ℕ) → AtMost b k r c → misreads b r c ≡ false → (l : ℕ) × (r' : ℕ → ℕ) × (c' : ℕ → ℕ) × Masked b k l r' c'

-- of all counters by which no stuck cell reads wrong, a plan's are the least, line by line
abbrev pub LeastCounters : Type 0
LeastCounters =
    (b : Block) (k l : ℕ) (r c r' c' : ℕ → ℕ) → Masked b k l r c → misreads b r' c' ≡ false
    → ((i : ℕ) → i < b.rows → r i ≤ r' i) × ((j : ℕ) → j < b.columns → c j ≤ c' j)

-- and its levels the fewest
abbrev pub FewestLevels : Type 0
FewestLevels = (b : Block) (k l m : ℕ) (r c r' c' : ℕ → ℕ) → Masked b k l r c → misreads b r' c' ≡ false → AtMost b m r' c' → l ≤ m
