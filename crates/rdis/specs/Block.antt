-- A grid block, its stuck cells, the wrong and the right ones, and F. Assumes nothing.
use Rattle.std.specs.Prelude.{ℕ, ◌^◌, ◌≡◌, Bool, true, not, cond, ◌&&◌, List, length, get_or}
use Rattle.std.specs.Bool.{xor}
use Rattle.std.specs.Int.Count.{ones}
use Rattle.bits.specs.Bits.{num, sum, has, Below}

-- what a write is lent: the size, and for each row a word of data, of mask and of values, in which bit j stands for column j
pub record Block : Type 0 where
  pub rows : ℕ
  pub columns : ℕ
  pub data· : List ℕ
  pub mask : List ℕ
  pub values : List ℕ

-- words for m rows and n columns: one a row, and no bit past the last column
abbrev pub Sized : ℕ → ℕ → List ℕ → Type 0
Sized m n ws = (length ws ≡ m) × Below (2 ^ n) ws

-- bit j of the word of row i
unfoldable pub bit : List ℕ → ℕ → ℕ → Bool
bit ws i j = has (get_or ws i 0) j

-- the cell (i, j) is stuck
abbrev pub stuck : Block → ℕ → ℕ → Bool
stuck b = bit b.mask

-- the data bit is not the value that the cell would be stuck at
unfoldable pub differs : Block → ℕ → ℕ → Bool
differs b i j = xor (bit b.data· i j) (bit b.values i j)

-- stuck, and wrong for the data (w is true) or right for it (w is false)
unfoldable pub faulty : Block → Bool → ℕ → ℕ → Bool
faulty b w i j = stuck b i j && cond w (differs b i j) (not (differs b i j))

-- the cell is stuck at the value that the data does not want
abbrev pub wrong : Block → ℕ → ℕ → Bool
wrong b = faulty b true

-- ---- counts

-- how many cells of m rows and n columns pass a test
unfoldable pub count : ℕ → ℕ → (ℕ → ℕ → Bool) → ℕ
count m n test = sum m (λ i. sum n (λ j. num (test i j)))

-- the stuck cells of a mask, cell by cell
abbrev pub stuck_cells : ℕ → ℕ → List ℕ → ℕ
stuck_cells m n mask = count m n (bit mask)

-- the stuck cells that are wrong for the data (w is true), or those that are right for it (w is false), cell by cell
abbrev pub faulty_cells : Block → Bool → ℕ
faulty_cells b w = count b.rows b.columns (faulty b w)

-- F: the ones in the mask's words
unfoldable pub faults : ℕ → List ℕ → ℕ
faults m mask = sum m (λ i. ones (get_or mask i 0))
