-- What a read, a plan and a store of grid blocks answer: the refusal that applies, and the blocks and counters they speak of. Assumes nothing.
use Rattle.std.specs.Prelude.{ℕ, ◌+◌, ◌^◌, Bool, not, cond, ◌&&◌, ◌||◌, List, length, get_or, eqb, leb}
use Rattle.bits.specs.Bits.{some}
use Rattle.rdis.specs.Block.{Block}
use Rattle.rdis.specs.Levels.{Outcome, masked, unmaskable, plan}
use Rattle.rdis.specs.Cells.{misreads}
use Rattle.rdis.specs.Packing.{width, bytes_for, row_counter, column_counter, above, first_above, spare_clear}

-- ---- what is judged. m are the rows, n the columns, k is K

-- from the first to the last
abbrev pub between : ℕ → ℕ → ℕ → Bool
between first last x = leb first x && leb x last

-- refusal 1 does not apply
unfoldable pub in_range : ℕ → ℕ → ℕ → Bool
in_range m n k = between 1 64 m && (between 1 64 n && between 1 7 k)

-- so many bytes are what the counters take
unfoldable pub counters_sized : ℕ → ℕ → ℕ → ℕ → Bool
counters_sized m n k counters = eqb counters (bytes_for (width k) (m + n))

-- a word has a bit past the last column
unfoldable pub past : ℕ → List ℕ → Bool
past n ws = some (length ws) (λ i. leb (2 ^ n) (get_or ws i 0))

-- the index that goes with a number, of n counters: with refusal 4 that of the first counter above K, with any other number 0
unfoldable pub bad_index : ℕ → ℕ → List ℕ → ℕ → ℕ
bad_index k n counters number = cond (eqb number 4) (first_above k n counters) 0

-- ---- the number of a read: of the output only the length counts

-- refusal 2 does not apply
abbrev pub read_sized : ℕ → ℕ → ℕ → ℕ → ℕ → ℕ → Bool
read_sized m n k cells counters out = (eqb cells m && eqb out m) && counters_sized m n k counters

-- refusal 3 applies: a cell's bit past the last column, or a spare bit of the counters
abbrev pub read_past : ℕ → ℕ → ℕ → List ℕ → List ℕ → Bool
read_past m n k cells counters = past n cells || not (spare_clear (width k) (m + n) counters)

unfoldable pub read_number : ℕ → ℕ → ℕ → List ℕ → List ℕ → ℕ → ℕ
read_number m n k cells counters out =
    cond (not (in_range m n k)) 1
    (cond (not (read_sized m n k (length cells) (length counters) out)) 2 (cond (read_past m n k cells counters) 3 (cond (above k (m + n) counters) 4 0)))

-- ---- the number of a plan: of the old counters only the length counts

-- the block that a plan and a store are lent
abbrev pub block : ℕ → ℕ → List ℕ → List ℕ → List ℕ → Block
block m n d mask values = record { rows = m; columns = n; data· = d; mask = mask; values = values }

-- data, mask and values have a word a row
abbrev pub rows_sized : Block → Bool
rows_sized b = eqb (length b.data·) b.rows && (eqb (length b.mask) b.rows && eqb (length b.values) b.rows)

-- refusal 2 does not apply
abbrev pub plan_sized : Block → ℕ → ℕ → Bool
plan_sized b k counters = rows_sized b && counters_sized b.rows b.columns k counters

-- refusal 3 applies: a bit past the last column in data, mask or values
abbrev pub plan_past : Block → Bool
plan_past b = past b.columns b.data· || (past b.columns b.mask || past b.columns b.values)

-- the refusal that the levels give
abbrev pub refusal : Outcome → ℕ
refusal (masked l r c) = 0
refusal unmaskable = 7

unfoldable pub plan_number : Block → ℕ → ℕ → ℕ
plan_number b k counters =
    cond (not (in_range b.rows b.columns k)) 1
    (cond (not (plan_sized b k counters)) 2 (cond (plan_past b) 3 (refusal (plan b k))))

-- ---- the number of a store: of the old cells only the length counts

-- refusal 2 does not apply
abbrev pub store_sized : Block → ℕ → ℕ → ℕ → Bool
store_sized b k counters cells = (rows_sized b && eqb cells b.rows) && counters_sized b.rows b.columns k counters

-- refusal 3 applies: as for a plan, or a spare bit of the counters
abbrev pub store_past : Block → ℕ → List ℕ → Bool
store_past b k counters = plan_past b || not (spare_clear (width k) (b.rows + b.columns) counters)

unfoldable pub store_number : Block → ℕ → List ℕ → ℕ → ℕ
store_number b k counters cells =
    cond (not (in_range b.rows b.columns k)) 1
    (cond (not (store_sized b k (length counters) cells)) 2
    (cond (store_past b k counters) 3
    (cond (above k (b.rows + b.columns) counters) 4
    (cond (misreads b (row_counter (width k) counters) (column_counter (width k) b.rows counters)) 13 0))))

-- ---- what an outcome says of an accepted plan: the levels used, and the counters of rows and columns

abbrev pub used : Outcome → ℕ
used (masked l r c) = l
used unmaskable = 0

abbrev pub rows_of : Outcome → ℕ → ℕ
rows_of (masked l r c) = r
rows_of unmaskable = λ _. 0

abbrev pub columns_of : Outcome → ℕ → ℕ
columns_of (masked l r c) = c
columns_of unmaskable = λ _. 0
