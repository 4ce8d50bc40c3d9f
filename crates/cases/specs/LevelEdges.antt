-- Calls whose lines a misreading of document 02, A8, would change: up to seven levels, and counters of three bits from K = 4 on. Assumes nothing.
use Rattle.std.specs.Prelude.{ℕ, List, [], ◌∷◌, ◌++◌, replicate}
use Rattle.cases.specs.Lines.{Call, grid_read, grid_plan, grid_store}
use Rattle.cases.specs.Table.{Row, G2, G3, G6, staircase, staircase_counters, planned, stores, refused, store_names, read_names}
use Rattle.cases.specs.Edges.{shown, cell}
use Rattle.cases.specs.IndexEdges.{read_refuses}

-- a read of two rows of three by two bytes of five counters, and a store of one cell by one byte of two
abbrev pub read_five : ℕ → ℕ → ℕ → Call
read_five k b₀ b₁ = grid_read 2 3 k (5 ∷ 2 ∷ []) (b₀ ∷ b₁ ∷ []) (7 ∷ 8 ∷ [])

abbrev pub store_two : ℕ → ℕ → Call
store_two k byte = grid_store (cell 1 1 0) k (byte ∷ []) (7 ∷ [])

abbrev pub level_edges : List Row
level_edges =
    -- G9: K = 0 and K = 8 are out of range, for a plan, a store and a read
    record { call = grid_plan G2 0 (9 ∷ []); expected = refused 1 (9 ∷ []) }
    ∷ record { call = grid_store G2 0 (0x03 ∷ []) (7 ∷ []); expected = refused 1 (7 ∷ []) }
    ∷ record { call = grid_read 1 1 0 (1 ∷ []) (0x03 ∷ []) (7 ∷ []); expected = read_refuses 1 (7 ∷ []) }
    ∷ record { call = grid_plan G2 8 (9 ∷ []); expected = refused 1 (9 ∷ []) }
    ∷ record { call = grid_store G2 8 (0x09 ∷ []) (7 ∷ []); expected = refused 1 (7 ∷ []) }
    ∷ record { call = grid_read 1 1 8 (1 ∷ []) (0x09 ∷ []) (7 ∷ []); expected = read_refuses 1 (7 ∷ []) }
    -- from K = 4 on a counter has three bits, side by side and over the ends of bytes: 1, 2 of the rows and 3, 4, 1 of the columns; 7, 6 and 5, 7, 4
    ∷ record { call = grid_read 2 3 4 (0 ∷ 0 ∷ []) (0xD1 ∷ 0x18 ∷ []) (7 ∷ 8 ∷ []); expected = shown (7 ∷ 4 ∷ []) }
    ∷ record { call = grid_read 2 3 7 (0 ∷ 0 ∷ []) (0x77 ∷ 0x4F ∷ []) (7 ∷ 8 ∷ []); expected = shown (3 ∷ 1 ∷ []) }
    -- at K = 3 it has two: 3, 0 and 1, 3, 1, with the last in a second byte
    ∷ record { call = grid_read 2 3 3 (0 ∷ 0 ∷ []) (0xD3 ∷ 0x01 ∷ []) (7 ∷ 8 ∷ []); expected = shown (7 ∷ 0 ∷ []) }
    -- the smaller counter decides, up to 7: odd at 5 and 5, even at 4 and 5
    ∷ record { call = read_five 5 0x65 0x35; expected = shown (0 ∷ 6 ∷ []) }
    ∷ record { call = read_five 7 0xFF 0x7F; expected = shown (2 ∷ 5 ∷ []) }
    -- fifteen bits are counters, and the sixteenth is spare
    ∷ record { call = read_five 7 0x00 0x40; expected = shown (5 ∷ 2 ∷ []) }
    ∷ record { call = read_five 7 0x00 0x80; expected = read_refuses 3 (7 ∷ 8 ∷ []) }
    -- so three counters have two bytes, not the one of two bits each, and five have two, not the three of four bits each; at K = 3 three have one
    ∷ record { call = grid_read 1 2 4 (1 ∷ []) (0 ∷ []) (7 ∷ []); expected = read_refuses 2 (7 ∷ []) }
    ∷ record { call = grid_read 1 2 4 (1 ∷ []) (0 ∷ 0 ∷ []) (7 ∷ []); expected = shown (1 ∷ []) }
    ∷ record { call = grid_read 2 3 4 (5 ∷ 2 ∷ []) (0 ∷ 0 ∷ 0 ∷ []) (7 ∷ 8 ∷ []); expected = read_refuses 2 (7 ∷ 8 ∷ []) }
    ∷ record { call = grid_read 1 2 3 (1 ∷ []) (0 ∷ []) (7 ∷ []); expected = shown (1 ∷ []) }
    ∷ record { call = grid_read 1 2 3 (1 ∷ []) (0 ∷ 0 ∷ []) (7 ∷ []); expected = read_refuses 2 (7 ∷ []) }
    -- of several counters above K the first is named, and not the greatest: row 1 with 5, column 1 with 7; and the other way round
    ∷ record { call = read_five 4 0x28 0x0E; expected = read_names 1 (7 ∷ 8 ∷ []) }
    ∷ record { call = read_five 4 0x38 0x0A; expected = read_names 1 (7 ∷ 8 ∷ []) }
    ∷ record { call = read_five 4 0x00 0x7A; expected = read_names 3 (7 ∷ 8 ∷ []) }
    ∷ record { call = read_five 4 0x05 0x70; expected = read_names 0 (7 ∷ 8 ∷ []) }
    ∷ record { call = read_five 5 0x30 0x0E; expected = read_names 1 (7 ∷ 8 ∷ []) }
    -- counters of K are not above K: at 4, at 6, and at 7 none can be. The counter of column 0 lies in both bytes
    ∷ record { call = read_five 4 0x64 0x0F; expected = read_names 2 (7 ∷ 8 ∷ []) }
    ∷ record { call = read_five 4 0x24 0x59; expected = read_names 4 (7 ∷ 8 ∷ []) }
    ∷ record { call = read_five 4 0x24 0x49; expected = shown (5 ∷ 2 ∷ []) }
    ∷ record { call = read_five 6 0xF6 0x6D; expected = read_names 2 (7 ∷ 8 ∷ []) }
    ∷ record { call = read_five 6 0xB6 0x6D; expected = shown (5 ∷ 2 ∷ []) }
    ∷ record { call = read_five 5 0x6D 0x6B; expected = read_names 4 (7 ∷ 8 ∷ []) }
    ∷ record { call = read_five 6 0x6D 0x6B; expected = shown (2 ∷ 5 ∷ []) }
    -- 65 counters in 25 bytes: those of the row and of column 63
    ∷ record { call = grid_read 1 64 7 (0 ∷ []) (7 ∷ replicate 23 0 ++ (5 ∷ [])) (7 ∷ []); expected = shown (0x8000000000000000 ∷ []) }
    -- the longest counters have 48 bytes: column 63 of 64 rows, above K = 6
    ∷ record { call = grid_read 64 64 6 (replicate 64 0) (replicate 47 0 ++ (0xE0 ∷ [])) (replicate 64 7); expected = read_names 127 (replicate 64 7) }
    ∷ record { call = grid_read 64 64 6 (replicate 64 0) (replicate 47 0) (replicate 64 7); expected = read_refuses 2 (replicate 64 7) }
    -- a plan from K = 4 on gives the counters of K = 3, in three bits each, whatever the old ones hold: at 4 and at 7
    ∷ record { call = grid_plan G3 4 (0xFF ∷ 0xFF ∷ []); expected = planned 2 3 2 1 (0x4A ∷ 0x04 ∷ []) (2 ∷ 1 ∷ 1 ∷ 2 ∷ []) }
    ∷ record { call = grid_plan G3 7 (9 ∷ 9 ∷ []); expected = planned 2 3 2 1 (0x4A ∷ 0x04 ∷ []) (2 ∷ 1 ∷ 1 ∷ 2 ∷ []) }
    ∷ record { call = grid_plan G3 4 (9 ∷ []); expected = refused 2 (9 ∷ []) }
    ∷ record { call = grid_plan G6 7 (9 ∷ 9 ∷ 9 ∷ []); expected = planned 3 5 3 2 (0x5A ∷ 0x32 ∷ 0x01 ∷ []) (2 ∷ 3 ∷ 1 ∷ 1 ∷ 3 ∷ 2 ∷ []) }
    -- a store by counters up to 7, whoever made them: 7 and 5 invert the cell, 7 and 6 do not; L is the greatest
    ∷ record { call = store_two 7 0x2F; expected = stores 7 1 1 0 (0 ∷ []) }
    ∷ record { call = store_two 7 0x37; expected = refused 13 (7 ∷ []) }
    ∷ record { call = store_two 4 0x21; expected = stores 4 1 1 0 (0 ∷ []) }
    ∷ record { call = store_two 4 0x29; expected = store_names 1 (7 ∷ []) }
    ∷ record { call = store_two 4 0x3D; expected = store_names 0 (7 ∷ []) }
    ∷ record { call = store_two 7 0x40; expected = refused 3 (7 ∷ []) }
    -- the staircase by its own counters at K = 6: row 3 is above K
    ∷ record { call = grid_store staircase 6 staircase_counters (replicate 7 9); expected = store_names 3 (replicate 7 9) }
    ∷ []
