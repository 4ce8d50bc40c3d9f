-- The starred cases of document 01, in its order, then G10, and a staircase of seven levels: a grid's as a plan and, where that is accepted, a store by its
-- counters. Old cells, counters and outputs are odd on purpose: a refusal has to leave them. Assumes nothing.
use Rattle.std.specs.Prelude.{ℕ, true, false, List, [], ◌∷◌, replicate}
use Rattle.rdis.specs.Block.{Block}
use Rattle.grid_promises.specs.Calls.{block}
use Rattle.pointer_promises.specs.Pointer.{entry_of}
use Rattle.cases.specs.Lines.{Line, ones, Call, metadata, pointer_read, pointer_write, grid_read, grid_plan, grid_store}

-- a call, and the line that document 01, or for the last document 02, gives for it
pub record Row : Type 0 where
  pub call : Call
  pub expected : Line

-- what a row's cells and output held before
abbrev pub old : List ℕ
old = replicate 64 0xA5

-- ---- the blocks, with data 0 but for G1 and G2

abbrev pub G1 : Block
G1 = block 2 2 (1 ∷ 2 ∷ []) (0 ∷ 0 ∷ []) (0 ∷ 0 ∷ [])

abbrev pub G2 : Block
G2 = block 1 1 (1 ∷ []) (1 ∷ []) (0 ∷ [])

abbrev pub G3 : Block
G3 = block 2 2 (0 ∷ 0 ∷ []) (3 ∷ 2 ∷ []) (1 ∷ 2 ∷ [])

abbrev pub G5 : Block
G5 = block 2 2 (0 ∷ 0 ∷ []) (3 ∷ 3 ∷ []) (1 ∷ 2 ∷ [])

abbrev pub G6 : Block
G6 = block 3 3 (0 ∷ 0 ∷ 0 ∷ []) (3 ∷ 6 ∷ 4 ∷ []) (1 ∷ 2 ∷ 4 ∷ [])

abbrev pub G8 : Block
G8 = block 2 2 (0 ∷ 0 ∷ []) (3 ∷ 2 ∷ []) (2 ∷ 0 ∷ [])

-- G6 grown to seven steps: cell (i, i) is stuck at 1, and the one to its right at 0
abbrev pub staircase : Block
staircase = block 7 7 (replicate 7 0) (0x03 ∷ 0x06 ∷ 0x0C ∷ 0x18 ∷ 0x30 ∷ 0x60 ∷ 0x40 ∷ []) (0x01 ∷ 0x02 ∷ 0x04 ∷ 0x08 ∷ 0x10 ∷ 0x20 ∷ 0x40 ∷ [])

-- the bytes of its counters, three bits each
abbrev pub staircase_counters : List ℕ
staircase_counters = 0xA2 ∷ 0xDF ∷ 0x25 ∷ 0xEB ∷ 0x4D ∷ 0x01 ∷ []

-- what its cells hold by them
abbrev pub staircase_cells : List ℕ
staircase_cells = 0x01 ∷ 0x03 ∷ 0x07 ∷ 0x0F ∷ 0x1F ∷ 0x3F ∷ 0x7F ∷ []

-- ---- plans and stores

-- of a block of two rows: a plan, and a store by one byte of counters
abbrev pub plan_small : Block → ℕ → Call
plan_small b k = grid_plan b k (9 ∷ [])

abbrev pub store_small : Block → ℕ → ℕ → Call
store_small b k byte = grid_store b k (byte ∷ []) (7 ∷ 8 ∷ [])

-- an accepted plan: L, F, the wrong and the right cells, the packed counters, and the counters of rows and then columns
abbrev pub planned : (l f wrong right : ℕ) → List ℕ → List ℕ → Line
planned l f wrong right bytes counters = record { numbers = 0 ∷ l ∷ f ∷ wrong ∷ right ∷ 0 ∷ []; buffers = bytes ∷ counters ∷ [] }

-- an accepted store: L, F, the wrong and the right cells, and what the cells hold
abbrev pub stores : (l f wrong right : ℕ) → List ℕ → Line
stores l f wrong right cells = record { numbers = 0 ∷ l ∷ f ∷ wrong ∷ right ∷ 0 ∷ []; buffers = cells ∷ [] }

-- a refused one of either, by another number than 4: the number, and the buffer as it was
abbrev pub refused : ℕ → List ℕ → Line
refused number before = record { numbers = number ∷ 0 ∷ 0 ∷ 0 ∷ 0 ∷ 0 ∷ []; buffers = before ∷ [] }

-- a store, and a read, that is refused by 4: the index of the first counter above K, and the buffer as it was
abbrev pub store_names : ℕ → List ℕ → Line
store_names index before = record { numbers = 4 ∷ 0 ∷ 0 ∷ 0 ∷ 0 ∷ index ∷ []; buffers = before ∷ [] }

abbrev pub read_names : ℕ → List ℕ → Line
read_names index before = record { numbers = 4 ∷ index ∷ []; buffers = before ∷ [] }

-- ---- the table

abbrev pub table : List Row
table =
    -- P1: two entries, one active, pointer 5 and replacement 1
    record { call = metadata 2 (entry_of 5 true ∷ []); expected = record { numbers = 0 ∷ 1 ∷ []; buffers = (0x0A ∷ 0x0C ∷ 0x00 ∷ []) ∷ (entry_of 5 true ∷ []) ∷ [] } }
    -- P2: one entry, full, pointer 511 and replacement 0
    ∷ record { call = metadata 1 (entry_of 511 false ∷ []); expected = record { numbers = 0 ∷ 1 ∷ []; buffers = (0xFF ∷ 0x03 ∷ []) ∷ (entry_of 511 false ∷ []) ∷ [] } }
    -- P3: no entry is left
    ∷ record {
      call = pointer_write 1 (ones []) (ones (3 ∷ [])) (ones (3 ∷ [])) old (0xFF ∷ 0x03 ∷ []);
      expected = record { numbers = 6 ∷ 0 ∷ 0 ∷ []; buffers = old ∷ (0xFF ∷ 0x03 ∷ []) ∷ [] };
    }
    -- P4: a fresh row, and two stuck cells
    ∷ record {
      call = pointer_write 2 (ones []) (ones (3 ∷ 300 ∷ [])) (ones (3 ∷ 300 ∷ [])) old (0 ∷ 0 ∷ 0 ∷ []);
      expected = record { numbers = 0 ∷ 2 ∷ 2 ∷ []; buffers = ones (3 ∷ 300 ∷ []) ∷ (0x07 ∷ 0x60 ∷ 0x09 ∷ []) ∷ [] };
    }
    -- P5: the unary count is broken, for a read and for a write
    ∷ record { call = pointer_read 3 old (0x00 ∷ 0x00 ∷ 0x40 ∷ 0x00 ∷ []) old; expected = record { numbers = 4 ∷ []; buffers = old ∷ [] } }
    ∷ record {
      call = pointer_write 3 (ones []) (ones []) (ones []) old (0x00 ∷ 0x00 ∷ 0x40 ∷ 0x00 ∷ []);
      expected = record { numbers = 4 ∷ 0 ∷ 0 ∷ []; buffers = old ∷ (0x00 ∷ 0x00 ∷ 0x40 ∷ 0x00 ∷ []) ∷ [] };
    }
    -- G1: no stuck cell
    ∷ record { call = plan_small G1 1; expected = planned 0 0 0 0 (0x00 ∷ []) (0 ∷ 0 ∷ 0 ∷ 0 ∷ []) }
    ∷ record { call = store_small G1 1 0x00; expected = stores 0 0 0 0 (1 ∷ 2 ∷ []) }
    -- G2: one cell, stuck at the other value
    ∷ record { call = grid_plan G2 1 (9 ∷ []); expected = planned 1 1 1 0 (0x03 ∷ []) (1 ∷ 1 ∷ []) }
    ∷ record { call = grid_store G2 1 (0x03 ∷ []) (7 ∷ []); expected = stores 1 1 1 0 (0 ∷ []) }
    -- by the counter of its row alone it reads wrong, and by that of its column
    ∷ record { call = grid_store G2 1 (0x01 ∷ []) (7 ∷ []); expected = refused 13 (7 ∷ []) }
    ∷ record { call = grid_store G2 1 (0x02 ∷ []) (7 ∷ []); expected = refused 13 (7 ∷ []) }
    -- G3: two levels
    ∷ record { call = plan_small G3 3; expected = planned 2 3 2 1 (0x96 ∷ []) (2 ∷ 1 ∷ 1 ∷ 2 ∷ []) }
    ∷ record { call = store_small G3 3 0x96; expected = stores 2 3 2 1 (1 ∷ 3 ∷ []) }
    -- by counters that are all 0 two of its cells read wrong
    ∷ record { call = store_small G3 3 0x00; expected = refused 13 (7 ∷ 8 ∷ []) }
    -- G4: one level is too few
    ∷ record { call = plan_small G3 1; expected = refused 7 (9 ∷ []) }
    -- G5: a loop, for every K
    ∷ record { call = plan_small G5 1; expected = refused 7 (9 ∷ []) }
    ∷ record { call = plan_small G5 2; expected = refused 7 (9 ∷ []) }
    ∷ record { call = plan_small G5 3; expected = refused 7 (9 ∷ []) }
    ∷ record { call = grid_plan G5 4 (9 ∷ 9 ∷ []); expected = refused 7 (9 ∷ 9 ∷ []) }
    ∷ record { call = grid_plan G5 5 (9 ∷ 9 ∷ []); expected = refused 7 (9 ∷ 9 ∷ []) }
    ∷ record { call = grid_plan G5 6 (9 ∷ 9 ∷ []); expected = refused 7 (9 ∷ 9 ∷ []) }
    ∷ record { call = grid_plan G5 7 (9 ∷ 9 ∷ []); expected = refused 7 (9 ∷ 9 ∷ []) }
    -- G6: three levels, and two are too few
    ∷ record { call = grid_plan G6 3 (9 ∷ 9 ∷ []); expected = planned 3 5 3 2 (0x5E ∷ 0x0B ∷ []) (2 ∷ 3 ∷ 1 ∷ 1 ∷ 3 ∷ 2 ∷ []) }
    ∷ record { call = grid_store G6 3 (0x5E ∷ 0x0B ∷ []) (7 ∷ 8 ∷ 9 ∷ []); expected = stores 3 5 3 2 (1 ∷ 3 ∷ 7 ∷ []) }
    ∷ record { call = grid_plan G6 2 (9 ∷ 9 ∷ []); expected = refused 7 (9 ∷ 9 ∷ []) }
    -- G8: three alternating cells whose ends are right
    ∷ record { call = plan_small G8 1; expected = planned 1 3 1 2 (0x09 ∷ []) (1 ∷ 0 ∷ 0 ∷ 1 ∷ []) }
    ∷ record { call = store_small G8 1 0x09; expected = stores 1 3 1 2 (2 ∷ 0 ∷ []) }
    -- G10: a 3 in row 0, and in column 1, of counters at K = 2; read, and stored by
    ∷ record { call = grid_read 2 2 2 (3 ∷ 3 ∷ []) (0x57 ∷ []) (7 ∷ 8 ∷ []); expected = read_names 0 (7 ∷ 8 ∷ []) }
    ∷ record { call = grid_read 2 2 2 (3 ∷ 3 ∷ []) (0xC0 ∷ []) (7 ∷ 8 ∷ []); expected = read_names 3 (7 ∷ 8 ∷ []) }
    ∷ record { call = store_small G3 2 0x57; expected = store_names 0 (7 ∷ 8 ∷ []) }
    ∷ record { call = store_small G3 2 0xC0; expected = store_names 3 (7 ∷ 8 ∷ []) }
    -- the staircase: seven levels, of thirteen stuck cells, and six are too few
    ∷ record { call = grid_plan staircase 7 (replicate 6 9); expected = planned 7 13 7 6 staircase_counters (2 ∷ 4 ∷ 6 ∷ 7 ∷ 5 ∷ 3 ∷ 1 ∷ 1 ∷ 3 ∷ 5 ∷ 7 ∷ 6 ∷ 4 ∷ 2 ∷ []) }
    ∷ record { call = grid_store staircase 7 staircase_counters (replicate 7 9); expected = stores 7 13 7 6 staircase_cells }
    ∷ record { call = grid_read 7 7 7 staircase_cells staircase_counters (replicate 7 9); expected = record { numbers = 0 ∷ 0 ∷ []; buffers = replicate 7 0 ∷ [] } }
    ∷ record { call = grid_plan staircase 6 (replicate 6 9); expected = refused 7 (replicate 6 9) }
    ∷ []
