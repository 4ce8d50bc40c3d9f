-- Calls whose lines a misreading of document 01, or of document 02, A7 and A9, would change, where no starred case is against it: each row names the
-- sentence. Assumes nothing.
use Rattle.std.specs.Prelude.{ℕ, List, [], ◌∷◌, ◌++◌, replicate}
use Rattle.rdis.specs.Block.{Block}
use Rattle.grid_promises.specs.Calls.{block}
use Rattle.cases.specs.Lines.{Line, ones, Call, pointer_read, pointer_write, grid_read, grid_plan, grid_store}
use Rattle.cases.specs.Table.{Row, old, G2, G3, G5, store_small, planned, stores, refused, store_names}

-- ---- pointer rows

-- a write of data 0 to a row of n entries: the stuck cells, their values, and the metadata before
abbrev pub zero_write : ℕ → List ℕ → List ℕ → List ℕ → Call
zero_write n mask values m = pointer_write n (ones []) (ones mask) (ones values) old m

-- a write of a 1 to position p alone, whose cell alone is stuck
abbrev pub stuck_write : ℕ → ℕ → List ℕ → List ℕ → Call
stuck_write n p values m = pointer_write n (ones (p ∷ [])) (ones (p ∷ [])) (ones values) old m

-- accepted: the active entries and the new ones, the positions whose cells hold a 1, and the metadata
abbrev pub wrote : ℕ → ℕ → List ℕ → List ℕ → Line
wrote active new cells m = record { numbers = 0 ∷ active ∷ new ∷ []; buffers = ones cells ∷ m ∷ [] }

-- nine positions, and the metadata of ten entries of which these nine are active, with the bit 0
abbrev pub nine : List ℕ
nine = 0 ∷ 1 ∷ 2 ∷ 3 ∷ 4 ∷ 5 ∷ 6 ∷ 7 ∷ 8 ∷ []

abbrev pub nine_of_ten : List ℕ
nine_of_ten = 0x00 ∷ 0x08 ∷ 0x40 ∷ 0x80 ∷ 0x01 ∷ 0x08 ∷ 0x28 ∷ 0xC0 ∷ 0x80 ∷ 0x03 ∷ 0x10 ∷ 0xF8 ∷ 0x0F ∷ []

abbrev pub row_edges : List Row
row_edges =
    -- a cell that is stuck at the right value is not unserved, in a fresh row and in a full one
    record { call = zero_write 1 (3 ∷ []) [] (0 ∷ 0 ∷ []); expected = wrote 0 0 [] (0 ∷ 0 ∷ []) }
    ∷ record { call = zero_write 1 (3 ∷ []) [] (0xFF ∷ 0x03 ∷ []); expected = wrote 1 0 [] (0xFF ∷ 0x03 ∷ []) }
    -- where the data bit is 1: a cell stuck at 0 holds 0 and gets an entry, and a cell stuck at 1 gets none
    ∷ record { call = stuck_write 1 3 [] (0 ∷ 0 ∷ []); expected = wrote 1 1 [] (0x07 ∷ 0x04 ∷ []) }
    ∷ record { call = stuck_write 1 3 (3 ∷ []) (0 ∷ 0 ∷ []); expected = wrote 0 0 (3 ∷ []) (0 ∷ 0 ∷ []) }
    -- a cell that an active entry names is not unserved either
    ∷ record { call = zero_write 1 (511 ∷ []) (511 ∷ []) (0xFF ∷ 0x03 ∷ []); expected = wrote 1 0 (511 ∷ []) (0xFF ∷ 0x03 ∷ []) }
    -- a value bit at a sound cell is ignored
    ∷ record { call = zero_write 1 [] (3 ∷ []) (0 ∷ 0 ∷ []); expected = wrote 0 0 [] (0 ∷ 0 ∷ []) }
    -- an active entry stays though its cell is sound, and takes the new data bit: 0, and 1
    ∷ record { call = zero_write 2 [] [] (0x0A ∷ 0x0C ∷ 0x00 ∷ []); expected = wrote 1 0 [] (0x0A ∷ 0x08 ∷ 0x00 ∷ []) }
    ∷ record { call = pointer_write 2 (ones (5 ∷ [])) (ones []) (ones []) old (0x0A ∷ 0x08 ∷ 0x00 ∷ []); expected = wrote 1 0 (5 ∷ []) (0x0A ∷ 0x0C ∷ 0x00 ∷ []) }
    -- also though its cell is stuck at the right value
    ∷ record { call = stuck_write 2 5 (5 ∷ []) (0x0A ∷ 0x08 ∷ 0x00 ∷ []); expected = wrote 1 0 (5 ∷ []) (0x0A ∷ 0x0C ∷ 0x00 ∷ []) }
    -- it keeps its place: it names 300, and the new entry after it 3. Two are active, and one of them is new
    ∷ record { call = zero_write 2 (3 ∷ []) (3 ∷ []) (0x58 ∷ 0x0A ∷ 0x00 ∷ []); expected = wrote 2 1 (3 ∷ []) (0x59 ∷ 0x1A ∷ 0x00 ∷ []) }
    -- two active entries keep their order, which need not rise: the first names 300, the second 3
    ∷ record { call = zero_write 3 [] [] (0x58 ∷ 0x1A ∷ 0x60 ∷ 0x00 ∷ []); expected = wrote 2 0 [] (0x58 ∷ 0x1A ∷ 0x60 ∷ 0x00 ∷ []) }
    -- an entry between the last active one and the last is 0
    ∷ record { call = zero_write 3 (3 ∷ []) (3 ∷ []) (0 ∷ 0 ∷ 0 ∷ 0 ∷ []); expected = wrote 1 1 (3 ∷ []) (0x06 ∷ 0x00 ∷ 0x20 ∷ 0x00 ∷ []) }
    -- n may be 10, and nine ones fill the field in which the last entry counts; nine are read back
    ∷ record { call = zero_write 10 nine nine (replicate 13 0); expected = wrote 9 9 nine nine_of_ten }
    ∷ record { call = pointer_read 10 (ones nine) nine_of_ten old; expected = record { numbers = 0 ∷ []; buffers = ones [] ∷ [] } }
    -- entries are left, but not enough of them
    ∷ record { call = zero_write 2 (3 ∷ 4 ∷ 5 ∷ []) (3 ∷ 4 ∷ 5 ∷ []) (0 ∷ 0 ∷ 0 ∷ []); expected = record { numbers = 6 ∷ 0 ∷ 0 ∷ []; buffers = old ∷ (0 ∷ 0 ∷ 0 ∷ []) ∷ [] } }
    -- an active entry shows its bit at its position; the last entry, which counts, is none, though its bits are those of position 1
    ∷ record { call = pointer_read 2 (ones (1 ∷ [])) (0x0A ∷ 0x0C ∷ 0x00 ∷ []) old; expected = record { numbers = 0 ∷ []; buffers = ones (1 ∷ 5 ∷ []) ∷ [] } }
    -- in a full row the last entry is one
    ∷ record { call = pointer_read 1 (ones (3 ∷ 511 ∷ [])) (0xFF ∷ 0x03 ∷ []) old; expected = record { numbers = 0 ∷ []; buffers = ones (3 ∷ []) ∷ [] } }
    ∷ []

-- ---- grid blocks: reads

abbrev pub shown : List ℕ → Line
shown out = record { numbers = 0 ∷ 0 ∷ []; buffers = out ∷ [] }

abbrev pub read_edges : List Row
read_edges =
    -- the row counters come first where rows and columns are not as many
    record { call = grid_read 1 2 1 (3 ∷ []) (0x05 ∷ []) (7 ∷ []); expected = shown (1 ∷ []) }
    ∷ record { call = grid_read 2 1 1 (0 ∷ 0 ∷ []) (0x05 ∷ []) (7 ∷ 8 ∷ []); expected = shown (1 ∷ 0 ∷ []) }
    -- counters that no plan makes are taken: rows 3 and 1, columns 2 and 0
    ∷ record { call = grid_read 2 2 3 (3 ∷ 3 ∷ []) (0x27 ∷ []) (7 ∷ 8 ∷ []); expected = shown (3 ∷ 2 ∷ []) }
    -- with 64 columns no bit is past the last
    ∷ record { call = grid_read 1 64 1 (0xFFFFFFFFFFFFFFFF ∷ []) (replicate 9 0) (7 ∷ []); expected = shown (0xFFFFFFFFFFFFFFFF ∷ []) }
    ∷ []

-- ---- plans

-- two rows of five, with three stuck cells in the first and one in the second
abbrev pub four_stuck : (data₀ data₁ value₀ value₁ : ℕ) → Block
four_stuck d₀ d₁ v₀ v₁ = block 2 5 (d₀ ∷ d₁ ∷ []) (0x16 ∷ 0x01 ∷ []) (v₀ ∷ v₁ ∷ [])

-- two stuck cells for the data 0, in one column and in one row
abbrev pub in_column : ℕ → Block
in_column value = block 2 1 (0 ∷ 0 ∷ []) (1 ∷ 1 ∷ []) (value ∷ value ∷ [])

abbrev pub in_row : ℕ → Block
in_row values = block 1 2 (0 ∷ []) (3 ∷ []) (values ∷ [])

abbrev pub plan_edges : List Row
plan_edges =
    -- the row counters come first where rows and columns are not as many
    record { call = grid_plan (block 1 2 (0 ∷ []) (2 ∷ []) (2 ∷ [])) 1 (9 ∷ []); expected = planned 1 1 1 0 (0x05 ∷ []) (1 ∷ 0 ∷ 1 ∷ []) }
    ∷ record { call = grid_plan (block 2 1 (0 ∷ 0 ∷ []) (0 ∷ 1 ∷ []) (0 ∷ 1 ∷ [])) 1 (9 ∷ []); expected = planned 1 1 1 0 (0x06 ∷ []) (0 ∷ 1 ∷ 1 ∷ []) }
    -- where the stuck cells are right, no level is taken, and F counts them
    ∷ record { call = grid_plan (block 1 1 (0 ∷ []) (1 ∷ []) (0 ∷ [])) 1 (9 ∷ []); expected = planned 0 1 0 1 (0x00 ∷ []) (0 ∷ 0 ∷ []) }
    -- a value bit at a sound cell is ignored
    ∷ record { call = grid_plan (block 2 2 (0 ∷ 0 ∷ []) (0 ∷ 0 ∷ []) (3 ∷ 1 ∷ [])) 1 (9 ∷ []); expected = planned 0 0 0 0 (0x00 ∷ []) (0 ∷ 0 ∷ 0 ∷ 0 ∷ []) }
    -- a cell stuck at 0 is wrong for the data 1: two wrong cells on no common line are one level
    ∷ record { call = grid_plan (block 2 2 (3 ∷ 3 ∷ []) (1 ∷ 2 ∷ []) (0 ∷ 0 ∷ [])) 1 (9 ∷ []); expected = planned 1 2 2 0 (0x0F ∷ []) (1 ∷ 1 ∷ 1 ∷ 1 ∷ []) }
    -- K may be 2, with counters as wide as for 3; the old counters, here above K, are only measured
    ∷ record { call = grid_plan G3 2 (0xFF ∷ []); expected = planned 2 3 2 1 (0x96 ∷ []) (2 ∷ 1 ∷ 1 ∷ 2 ∷ []) }
    -- so are their spare bits
    ∷ record { call = grid_plan G2 1 (0xFC ∷ []); expected = planned 1 1 1 0 (0x03 ∷ []) (1 ∷ 1 ∷ []) }
    -- wrong and right cells are counted apart, whatever the value bits at sound cells: one and three. A right cell on no line that was taken is counted
    ∷ record { call = grid_plan (four_stuck 0x0D 0x12 0x09 0x12) 1 (9 ∷ []); expected = planned 1 4 1 3 (0x11 ∷ []) (1 ∷ 0 ∷ 0 ∷ 0 ∷ 1 ∷ 0 ∷ 0 ∷ []) }
    ∷ record { call = grid_plan (four_stuck 0x0D 0x12 0x00 0x0C) 1 (9 ∷ []); expected = planned 1 4 1 3 (0x11 ∷ []) (1 ∷ 0 ∷ 0 ∷ 0 ∷ 1 ∷ 0 ∷ 0 ∷ []) }
    -- three and one, with the data inverted
    ∷ record { call = grid_plan (four_stuck 0x12 0x0D 0x09 0x12) 1 (9 ∷ []); expected = planned 1 4 3 1 (0x4F ∷ []) (1 ∷ 1 ∷ 1 ∷ 1 ∷ 0 ∷ 0 ∷ 1 ∷ []) }
    -- cell by cell, and no line once: two wrong cells in one column and in one row, and two right ones
    ∷ record { call = grid_plan (in_column 1) 1 (9 ∷ []); expected = planned 1 2 2 0 (0x07 ∷ []) (1 ∷ 1 ∷ 1 ∷ []) }
    ∷ record { call = grid_plan (in_row 3) 1 (9 ∷ []); expected = planned 1 2 2 0 (0x07 ∷ []) (1 ∷ 1 ∷ 1 ∷ []) }
    ∷ record { call = grid_plan (in_column 0) 1 (9 ∷ []); expected = planned 0 2 0 2 (0x00 ∷ []) (0 ∷ 0 ∷ 0 ∷ []) }
    ∷ record { call = grid_plan (in_row 0) 1 (9 ∷ []); expected = planned 0 2 0 2 (0x00 ∷ []) (0 ∷ 0 ∷ 0 ∷ []) }
    -- a refusal counts nothing, though there is a stuck cell
    ∷ record { call = grid_plan (block 1 1 (2 ∷ []) (1 ∷ []) (0 ∷ [])) 1 (9 ∷ []); expected = refused 3 (9 ∷ []) }
    -- two and four, in five rows of two
    ∷ record {
      call = grid_plan (block 5 2 (1 ∷ 2 ∷ 3 ∷ 0 ∷ 2 ∷ []) (3 ∷ 0 ∷ 2 ∷ 1 ∷ 3 ∷ []) (0 ∷ 2 ∷ 1 ∷ 0 ∷ 2 ∷ [])) 2 (9 ∷ 9 ∷ []);
      expected = planned 2 6 2 4 (0x12 ∷ 0x24 ∷ []) (2 ∷ 0 ∷ 1 ∷ 0 ∷ 0 ∷ 1 ∷ 2 ∷ []);
    }
    -- the last of 64 rows, and the column's counter after it in a ninth byte
    ∷ record {
      call = grid_plan (block 64 1 (replicate 64 1) (replicate 63 0 ++ (1 ∷ [])) (replicate 64 0)) 1 (replicate 9 9);
      expected = planned 1 1 1 0 (replicate 7 0 ++ (0x80 ∷ 0x01 ∷ [])) (replicate 63 0 ++ (1 ∷ 1 ∷ []));
    }
    ∷ []

-- ---- stores

-- one cell: its data bit, 1 where it is stuck, and its value
abbrev pub cell : ℕ → ℕ → ℕ → Block
cell d stuck value = block 1 1 (d ∷ []) (stuck ∷ []) (value ∷ [])

-- a store of one cell by a byte of counters: the row's, then the column's
abbrev pub store_cell : Block → ℕ → ℕ → Call
store_cell b k byte = grid_store b k (byte ∷ []) (7 ∷ [])

-- one row of two columns and two rows of one, with data 0; the last cell is stuck at 1 or none is
abbrev pub wide : ℕ → Block
wide stuck = block 1 2 (0 ∷ []) (stuck ∷ []) (2 ∷ [])

abbrev pub tall : ℕ → Block
tall stuck = block 2 1 (0 ∷ 0 ∷ []) (0 ∷ stuck ∷ []) (0 ∷ 1 ∷ [])

abbrev pub store_edges : List Row
store_edges =
    -- 13 is given exactly where a stuck cell would read wrong: one that is right, by counters that invert it
    record { call = store_cell (cell 0 1 0) 1 0x03; expected = refused 13 (7 ∷ []) }
    ∷ record { call = store_cell (cell 1 1 1) 1 0x03; expected = refused 13 (7 ∷ []) }
    -- and by counters that do not: one line's alone inverts nothing
    ∷ record { call = store_cell (cell 0 1 0) 1 0x00; expected = stores 0 1 0 1 (0 ∷ []) }
    ∷ record { call = store_cell (cell 0 1 0) 1 0x01; expected = stores 1 1 0 1 (0 ∷ []) }
    ∷ record { call = store_cell (cell 1 1 1) 1 0x02; expected = stores 1 1 0 1 (1 ∷ []) }
    -- one that is wrong, by both (G2 has the data 1)
    ∷ record { call = store_cell (cell 0 1 1) 1 0x03; expected = stores 1 1 1 0 (1 ∷ []) }
    ∷ record { call = store_cell (cell 0 1 1) 1 0x00; expected = refused 13 (7 ∷ []) }
    -- a sound cell is never at fault, whatever its value bit: it holds its data bit, inverted where the counters say so
    ∷ record { call = store_cell (cell 0 0 0) 1 0x03; expected = stores 1 0 0 0 (1 ∷ []) }
    ∷ record { call = store_cell (cell 1 0 1) 1 0x03; expected = stores 1 0 0 0 (0 ∷ []) }
    ∷ record { call = store_cell (cell 0 0 1) 1 0x00; expected = stores 0 0 0 0 (0 ∷ []) }
    -- one stuck cell that reads wrong is enough, the first or the last
    ∷ record { call = store_small (block 2 2 (0 ∷ 0 ∷ []) (3 ∷ 3 ∷ []) (1 ∷ 0 ∷ [])) 1 0x00; expected = refused 13 (7 ∷ 8 ∷ []) }
    ∷ record { call = store_small (block 2 2 (0 ∷ 0 ∷ []) (3 ∷ 3 ∷ []) (0 ∷ 2 ∷ [])) 1 0x00; expected = refused 13 (7 ∷ 8 ∷ []) }
    -- the row counters come first where rows and columns are not as many: the last cell stuck, by its own two counters and by others
    ∷ record { call = grid_store (wide 2) 1 (0x05 ∷ []) (7 ∷ []); expected = stores 1 1 1 0 (2 ∷ []) }
    ∷ record { call = grid_store (wide 2) 1 (0x06 ∷ []) (7 ∷ []); expected = refused 13 (7 ∷ []) }
    ∷ record { call = grid_store (tall 1) 1 (0x06 ∷ []) (7 ∷ 8 ∷ []); expected = stores 1 1 1 0 (0 ∷ 1 ∷ []) }
    ∷ record { call = grid_store (tall 1) 1 (0x05 ∷ []) (7 ∷ 8 ∷ []); expected = refused 13 (7 ∷ 8 ∷ []) }
    -- and with no stuck cell
    ∷ record { call = grid_store (wide 0) 1 (0x03 ∷ []) (7 ∷ []); expected = stores 1 0 0 0 (1 ∷ []) }
    ∷ record { call = grid_store (tall 0) 1 (0x05 ∷ []) (7 ∷ 8 ∷ []); expected = stores 1 0 0 0 (1 ∷ 0 ∷ []) }
    -- the smaller counter decides, not the larger (2 and 1), not the sum (1 and 1, 3 and 3), neither (3 and 2)
    ∷ record { call = store_cell G2 2 0x06; expected = stores 2 1 1 0 (0 ∷ []) }
    ∷ record { call = store_cell G2 2 0x05; expected = stores 1 1 1 0 (0 ∷ []) }
    ∷ record { call = store_cell G2 3 0x0F; expected = stores 3 1 1 0 (0 ∷ []) }
    ∷ record { call = store_cell G2 3 0x0B; expected = refused 13 (7 ∷ []) }
    ∷ record { call = store_cell (cell 1 1 1) 3 0x0B; expected = stores 3 1 0 1 (1 ∷ []) }
    ∷ record { call = store_cell (cell 1 0 0) 3 0x06; expected = stores 2 0 0 0 (0 ∷ []) }
    ∷ record { call = store_cell (cell 1 0 0) 3 0x0E; expected = stores 3 0 0 0 (1 ∷ []) }
    -- L is the greatest counter, though it inverts no cell: a row's alone, and a column's alone
    ∷ record { call = grid_store (wide 0) 3 (0x03 ∷ []) (7 ∷ []); expected = stores 3 0 0 0 (0 ∷ []) }
    ∷ record { call = grid_store (wide 0) 2 (0x20 ∷ []) (7 ∷ []); expected = stores 2 0 0 0 (0 ∷ []) }
    ∷ record { call = grid_store (tall 0) 2 (0x08 ∷ []) (7 ∷ 8 ∷ []); expected = stores 2 0 0 0 (0 ∷ 0 ∷ []) }
    -- though it is above the smaller of every two: row 1 and column 3
    ∷ record { call = grid_store (tall 0) 3 (0x31 ∷ []) (7 ∷ 8 ∷ []); expected = stores 3 0 0 0 (1 ∷ 0 ∷ []) }
    -- though its line holds no stuck cell and it inverts none, and another line does: row counters 1, 3, columns 2, 0; and row counters 2, 0, columns 1, 3
    ∷ record { call = store_small (block 2 2 (0 ∷ 0 ∷ []) (2 ∷ 0 ∷ []) (0 ∷ 0 ∷ [])) 3 0x2D; expected = stores 3 1 0 1 (1 ∷ 0 ∷ []) }
    ∷ record { call = store_small (block 2 2 (0 ∷ 0 ∷ []) (0 ∷ 1 ∷ []) (0 ∷ 0 ∷ [])) 3 0xD2; expected = stores 3 1 0 1 (1 ∷ 0 ∷ []) }
    -- whoever made them: G3 is planned with 2, and rows 2 and 1 with columns 1 and 3 mask it too
    ∷ record { call = store_small G3 3 0xD6; expected = stores 3 3 2 1 (1 ∷ 3 ∷ []) }
    -- K may be 2, with counters as wide as for 3
    ∷ record { call = store_small G3 2 0x96; expected = stores 2 3 2 1 (1 ∷ 3 ∷ []) }
    -- G5, which differs from G3 in one cell, reads wrong by these
    ∷ record { call = store_small G5 3 0x96; expected = refused 13 (7 ∷ 8 ∷ []) }
    -- a sound cell that a level took stores the other bit than its data's, a 0 for a 1 too
    ∷ record { call = store_small (block 2 2 (3 ∷ 3 ∷ []) (1 ∷ 2 ∷ []) (0 ∷ 0 ∷ [])) 1 0x0F; expected = stores 1 2 2 0 (0 ∷ 0 ∷ []) }
    -- it judges its counters as a read does: a spare bit is 3, a counter above K is 4, of a column and of a row
    ∷ record { call = store_cell (cell 0 0 0) 1 0x04; expected = refused 3 (7 ∷ []) }
    ∷ record { call = store_small G3 2 0xD6; expected = store_names 3 (7 ∷ 8 ∷ []) }
    ∷ record { call = store_cell G2 2 0x07; expected = store_names 0 (7 ∷ []) }
    -- old cells are only measured: bits past the last column are no refusal, and are 0 afterwards
    ∷ record { call = grid_store G2 1 (0x03 ∷ []) (0xFFFFFFFFFFFFFFFF ∷ []); expected = stores 1 1 1 0 (0 ∷ []) }
    -- it counts the cells that are wrong for the data, though they read right by the counters, those of a plan or with column 0 raised
    ∷ record { call = grid_store (four_stuck 0x0D 0x12 0x09 0x12) 1 (0x11 ∷ []) (7 ∷ 8 ∷ []); expected = stores 1 4 1 3 (0x09 ∷ 0x12 ∷ []) }
    ∷ record { call = grid_store (four_stuck 0x0D 0x12 0x00 0x0C) 1 (0x15 ∷ []) (7 ∷ 8 ∷ []); expected = stores 1 4 1 3 (0x08 ∷ 0x12 ∷ []) }
    -- cell by cell too
    ∷ record { call = grid_store (in_column 1) 1 (0x07 ∷ []) (7 ∷ 8 ∷ []); expected = stores 1 2 2 0 (1 ∷ 1 ∷ []) }
    ∷ record { call = grid_store (in_row 3) 1 (0x07 ∷ []) (7 ∷ []); expected = stores 1 2 2 0 (3 ∷ []) }
    ∷ record { call = grid_store (in_column 0) 1 (0x00 ∷ []) (7 ∷ 8 ∷ []); expected = stores 0 2 0 2 (0 ∷ 0 ∷ []) }
    ∷ record { call = grid_store (in_row 0) 1 (0x00 ∷ []) (7 ∷ []); expected = stores 0 2 0 2 (0 ∷ []) }
    -- a refusal counts nothing, though there is a stuck cell: a spare bit
    ∷ record { call = store_cell G2 1 0x07; expected = refused 3 (7 ∷ []) }
    -- the last of 64 columns: its counter is in a ninth byte
    ∷ record {
      call = grid_store (block 1 64 (0xFFFFFFFFFFFFFFFF ∷ []) (1 ∷ []) (1 ∷ [])) 1 (1 ∷ replicate 7 0 ++ (1 ∷ [])) (7 ∷ []);
      expected = stores 1 1 0 1 (0x7FFFFFFFFFFFFFFF ∷ []);
    }
    ∷ []
