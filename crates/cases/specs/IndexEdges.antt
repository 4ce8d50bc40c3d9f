-- Calls whose lines a misreading of document 02, A4, would change: which counter is bad. At K = 2 a counter has two bits, so 3 alone is above K. Assumes nothing.
use Rattle.std.specs.Prelude.{ℕ, List, [], ◌∷◌, ◌++◌, replicate}
use Rattle.rdis.specs.Block.{Block}
use Rattle.grid_promises.specs.Calls.{block}
use Rattle.cases.specs.Lines.{Line, Call, grid_read, grid_plan, grid_store}
use Rattle.cases.specs.Table.{Row, G3, G5, planned, stores, refused, store_names, read_names}
use Rattle.cases.specs.Edges.{shown}

-- reads of two rows of three and of three rows of two, by two bytes of five counters
abbrev pub read_wide : ℕ → ℕ → ℕ → Call
read_wide k b₀ b₁ = grid_read 2 3 k (5 ∷ 2 ∷ []) (b₀ ∷ b₁ ∷ []) (7 ∷ 8 ∷ [])

abbrev pub read_tall : ℕ → ℕ → ℕ → Call
read_tall k b₀ b₁ = grid_read 3 2 k (1 ∷ 2 ∷ 3 ∷ []) (b₀ ∷ b₁ ∷ []) (7 ∷ 8 ∷ 9 ∷ [])

-- a read that is refused by another number
abbrev pub read_refuses : ℕ → List ℕ → Line
read_refuses number before = record { numbers = number ∷ 0 ∷ []; buffers = before ∷ [] }

-- two rows of three, with two wrong cells and a right one; a store of them at K = 2
abbrev pub three_stuck : Block
three_stuck = block 2 3 (5 ∷ 2 ∷ []) (3 ∷ 2 ∷ []) (0 ∷ 0 ∷ [])

abbrev pub store_wide : ℕ → ℕ → Call
store_wide b₀ b₁ = grid_store three_stuck 2 (b₀ ∷ b₁ ∷ []) (7 ∷ 8 ∷ [])

abbrev pub index_edges : List Row
index_edges =
    -- the rows are counted first, and from 0: row 1, though column 2 is above K too
    record { call = read_wide 2 0x0C 0x03; expected = read_names 1 (7 ∷ 8 ∷ []) }
    -- then the columns, after as many as there are rows: column 0 of two rows, and of three
    ∷ record { call = read_wide 2 0x30 0x00; expected = read_names 2 (7 ∷ 8 ∷ []) }
    ∷ record { call = read_tall 2 0xC0 0x00; expected = read_names 3 (7 ∷ 8 ∷ 9 ∷ []) }
    -- the same bytes as of column 0 of two rows are row 2 of three
    ∷ record { call = read_tall 2 0x30 0x00; expected = read_names 2 (7 ∷ 8 ∷ 9 ∷ []) }
    -- of several the first: two rows, two columns, all
    ∷ record { call = read_tall 2 0x3C 0x00; expected = read_names 1 (7 ∷ 8 ∷ 9 ∷ []) }
    ∷ record { call = read_wide 2 0xC0 0x03; expected = read_names 3 (7 ∷ 8 ∷ []) }
    ∷ record { call = read_wide 2 0xFF 0x03; expected = read_names 0 (7 ∷ 8 ∷ []) }
    -- the last of all
    ∷ record { call = read_wide 2 0x00 0x03; expected = read_names 4 (7 ∷ 8 ∷ []) }
    -- counters of K before it are not above K: rows 2 and 2, column 0 of 3
    ∷ record { call = read_wide 2 0x3A 0x00; expected = read_names 2 (7 ∷ 8 ∷ []) }
    -- the greatest index that there is: column 63 of 64 rows
    ∷ record { call = grid_read 64 64 2 (replicate 64 0) (replicate 31 0 ++ (0xC0 ∷ [])) (replicate 64 7); expected = read_names 127 (replicate 64 7) }
    -- at K = 3 the same counters are accepted, and none is named
    ∷ record { call = read_wide 3 0x0C 0x03; expected = shown (5 ∷ 6 ∷ []) }
    -- nor by a refusal with a lower number, though a counter is above K: a spare bit, a bit past the last column, an output too short, 65 columns, K = 0
    ∷ record { call = read_wide 2 0x0C 0x04; expected = read_refuses 3 (7 ∷ 8 ∷ []) }
    ∷ record { call = grid_read 2 3 2 (5 ∷ 8 ∷ []) (0x0C ∷ 0x00 ∷ []) (7 ∷ 8 ∷ []); expected = read_refuses 3 (7 ∷ 8 ∷ []) }
    ∷ record { call = grid_read 2 3 2 (5 ∷ 2 ∷ []) (0x0C ∷ 0x00 ∷ []) (7 ∷ []); expected = read_refuses 2 (7 ∷ []) }
    ∷ record { call = grid_read 2 65 2 (5 ∷ 2 ∷ []) (0x0C ∷ 0x00 ∷ []) (7 ∷ 8 ∷ []); expected = read_refuses 1 (7 ∷ 8 ∷ []) }
    ∷ record { call = read_wide 0 0x0C 0x00; expected = read_refuses 1 (7 ∷ 8 ∷ []) }
    -- a store names it too, and counts nothing: row 1, column 0, column 2; and it goes before a cell that would read wrong
    ∷ record { call = store_wide 0x0C 0x03; expected = store_names 1 (7 ∷ 8 ∷ []) }
    ∷ record { call = store_wide 0x30 0x00; expected = store_names 2 (7 ∷ 8 ∷ []) }
    ∷ record { call = store_wide 0x00 0x03; expected = store_names 4 (7 ∷ 8 ∷ []) }
    -- nor does it by a lower number, though row 1 is above K: a spare bit, a bit past the last column, cells too short, 65 columns
    ∷ record { call = store_wide 0x0C 0x04; expected = refused 3 (7 ∷ 8 ∷ []) }
    ∷ record { call = grid_store (block 2 3 (5 ∷ 8 ∷ []) (3 ∷ 2 ∷ []) (0 ∷ 0 ∷ [])) 2 (0x0C ∷ 0x00 ∷ []) (7 ∷ 8 ∷ []); expected = refused 3 (7 ∷ 8 ∷ []) }
    ∷ record { call = grid_store three_stuck 2 (0x0C ∷ 0x00 ∷ []) (7 ∷ []); expected = refused 2 (7 ∷ []) }
    ∷ record { call = grid_store (block 2 65 (5 ∷ 2 ∷ []) (3 ∷ 2 ∷ []) (0 ∷ 0 ∷ [])) 2 (0x0C ∷ 0x00 ∷ []) (7 ∷ 8 ∷ []); expected = refused 1 (7 ∷ 8 ∷ []) }
    -- nor where no counter is above K: refused by 13, and accepted by counters of which two are K
    ∷ record { call = store_wide 0x00 0x00; expected = refused 13 (7 ∷ 8 ∷ []) }
    ∷ record { call = store_wide 0x96 0x00; expected = stores 2 3 2 1 (4 ∷ 1 ∷ []) }
    -- a plan judges no counters, and names none though row 1 of the old ones is above K: refused by 7, accepted, refused by 3, by 2 and by 1
    ∷ record { call = grid_plan G5 2 (0x0C ∷ []); expected = refused 7 (0x0C ∷ []) }
    ∷ record { call = grid_plan G3 2 (0x0C ∷ []); expected = planned 2 3 2 1 (0x96 ∷ []) (2 ∷ 1 ∷ 1 ∷ 2 ∷ []) }
    ∷ record { call = grid_plan (block 2 2 (4 ∷ 0 ∷ []) (0 ∷ 0 ∷ []) (0 ∷ 0 ∷ [])) 2 (0x0C ∷ []); expected = refused 3 (0x0C ∷ []) }
    ∷ record { call = grid_plan (block 2 2 (0 ∷ []) (0 ∷ 0 ∷ []) (0 ∷ 0 ∷ [])) 2 (0x0C ∷ []); expected = refused 2 (0x0C ∷ []) }
    ∷ record { call = grid_plan (block 2 65 (0 ∷ 0 ∷ []) (0 ∷ 0 ∷ []) (0 ∷ 0 ∷ [])) 2 (0x0C ∷ []); expected = refused 1 (0x0C ∷ []) }
    ∷ []
