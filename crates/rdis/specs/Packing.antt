-- Counters in bytes: one number, with a digit of w bits for each counter and a digit of 8 bits for each byte, lowest first. Assumes nothing.
use Rattle.std.specs.Prelude.{ℕ, ◌+◌, ◌*◌, ◌/◌, ◌%◌, ◌^◌, Bool, cond, List, ◌++◌, length, leb, ltb}
use Rattle.bits.specs.Bits.{some, first, list, number, digits}

-- the bits of a counter where k levels are allowed
unfoldable pub width : ℕ → ℕ
width k = cond (leb k 1) 1 (cond (leb k 3) 2 3)

-- the bytes that hold n counters of w bits
unfoldable pub bytes_for : ℕ → ℕ → ℕ
bytes_for w n = (w * n + 7) / 8

-- the counters in their order: those of m rows, then those of n columns
abbrev pub in_order : ℕ → ℕ → (ℕ → ℕ) → (ℕ → ℕ) → List ℕ
in_order m n r c = list m r ++ list n c

-- the bytes of counters of w bits
unfoldable pub packed : ℕ → List ℕ → List ℕ
packed w cs = digits 256 (bytes_for w (length cs)) (number (2 ^ w) cs)

-- counter t of bytes: the w bits from bit w t on
unfoldable pub counter : ℕ → List ℕ → ℕ → ℕ
counter w bs t = number 256 bs / 2 ^ (w * t) % 2 ^ w

-- the first n counters of bytes
unfoldable pub unpacked : ℕ → ℕ → List ℕ → List ℕ
unpacked w n bs = list n (counter w bs)

-- the counter of row i, and that of column j after m rows
abbrev pub row_counter : ℕ → List ℕ → ℕ → ℕ
row_counter w bs i = counter w bs i

abbrev pub column_counter : ℕ → ℕ → List ℕ → ℕ → ℕ
column_counter w m bs j = counter w bs (m + j)

-- one of the first n counters of bytes is above k, where k levels are allowed
unfoldable pub above : ℕ → ℕ → List ℕ → Bool
above k n bs = some n (λ t. ltb k (counter (width k) bs t))

-- the index of the first of n counters of bytes that is above k, and n where none is
unfoldable pub first_above : ℕ → ℕ → List ℕ → ℕ
first_above k n bs = first n (λ t. ltb k (counter (width k) bs t))

-- the bits past the n counters are 0
unfoldable pub spare_clear : ℕ → ℕ → List ℕ → Bool
spare_clear w n bs = ltb (number 256 bs) (2 ^ (w * n))
