-- Calls whose lines a misreading of document 02, A8, would change: conversions from K to an equal or a larger one. Assumes nothing.
use Rattle.std.specs.Prelude.{ℕ, List, [], ◌∷◌, ◌++◌, replicate}
use Rattle.cases.specs.Lines.{Call, grid_convert}
use Rattle.cases.specs.Table.{Row, staircase_counters, read_names}
use Rattle.cases.specs.Edges.{shown}
use Rattle.cases.specs.IndexEdges.{read_refuses}

-- of two rows and three columns, from one byte of five counters and from two, into two bytes that held 9 and 0xFF
abbrev pub from_one : ℕ → ℕ → ℕ → Call
from_one k k' b = grid_convert 2 3 k k' (b ∷ []) (9 ∷ 0xFF ∷ [])

abbrev pub from_two : ℕ → ℕ → ℕ → ℕ → Call
from_two k k' b₀ b₁ = grid_convert 2 3 k k' (b₀ ∷ b₁ ∷ []) (9 ∷ 0xFF ∷ [])

abbrev pub as_it_was : List ℕ
as_it_was = 9 ∷ 0xFF ∷ []

abbrev pub convert_edges : List Row
convert_edges =
    -- each counter keeps its number, in order: rows 1, 0 and columns 1, 1, 0 from one bit to two and to three; the old spare bits of the output go
    record { call = from_one 1 2 0x0D; expected = shown (0x51 ∷ 0x00 ∷ []) }
    ∷ record { call = from_one 1 3 0x0D; expected = shown (0x51 ∷ 0x00 ∷ []) }
    ∷ record { call = from_one 1 4 0x0D; expected = shown (0x41 ∷ 0x02 ∷ []) }
    ∷ record { call = from_one 1 7 0x0D; expected = shown (0x41 ∷ 0x02 ∷ []) }
    -- 0, 1 and 2, 3, 1 from two bits to three, and 2, 0 and 1, 2, 1
    ∷ record { call = from_two 3 4 0xE4 0x01; expected = shown (0x88 ∷ 0x16 ∷ []) }
    ∷ record { call = from_two 3 7 0xE4 0x01; expected = shown (0x88 ∷ 0x16 ∷ []) }
    ∷ record { call = from_two 2 5 0x92 0x01; expected = shown (0x42 ∷ 0x14 ∷ []) }
    -- the order is the same with more rows than columns: 3, 0, 2 and 1, 3
    ∷ record { call = grid_convert 3 2 3 6 (0x63 ∷ 0x03 ∷ []) (9 ∷ 9 ∷ []); expected = shown (0x83 ∷ 0x32 ∷ []) }
    -- targets with as many bits, and an equal one, give the same bytes
    ∷ record { call = from_two 2 3 0x92 0x01; expected = shown (0x92 ∷ 0x01 ∷ []) }
    ∷ record { call = from_two 4 7 0xC4 0x22; expected = shown (0xC4 ∷ 0x22 ∷ []) }
    ∷ record { call = from_two 3 3 0xE4 0x01; expected = shown (0xE4 ∷ 0x01 ∷ []) }
    ∷ record { call = from_two 7 7 0xFF 0x7F; expected = shown (0xFF ∷ 0x7F ∷ []) }
    ∷ record { call = grid_convert 1 1 1 1 (0x03 ∷ []) (9 ∷ []); expected = shown (0x03 ∷ []) }
    -- an output of one byte and of three: two counters, and G6's of three rows and three columns
    ∷ record { call = grid_convert 1 1 1 4 (0x03 ∷ []) (9 ∷ []); expected = shown (0x09 ∷ []) }
    ∷ record { call = grid_convert 3 3 3 7 (0x5E ∷ 0x0B ∷ []) (9 ∷ 9 ∷ 9 ∷ []); expected = shown (0x5A ∷ 0x32 ∷ 0x01 ∷ []) }
    -- a smaller target is refused, though the counters would fit it and though it has as many bits
    ∷ record { call = from_two 4 3 0x00 0x00; expected = read_refuses 1 as_it_was }
    ∷ record { call = from_two 3 2 0x00 0x00; expected = read_refuses 1 as_it_was }
    ∷ record { call = from_two 7 6 0xC4 0x22; expected = read_refuses 1 as_it_was }
    ∷ record { call = grid_convert 1 1 2 1 (0x00 ∷ []) (9 ∷ []); expected = read_refuses 1 (9 ∷ []) }
    -- so are K = 0, a target of 0, of 8, K = 8, no row, 65 columns, 65 rows, no column
    ∷ record { call = from_one 0 2 0x00; expected = read_refuses 1 as_it_was }
    ∷ record { call = grid_convert 1 1 0 0 (0x00 ∷ []) (9 ∷ []); expected = read_refuses 1 (9 ∷ []) }
    ∷ record { call = from_two 4 8 0x00 0x00; expected = read_refuses 1 as_it_was }
    ∷ record { call = from_two 8 8 0x00 0x00; expected = read_refuses 1 as_it_was }
    ∷ record { call = grid_convert 0 5 3 4 (0x00 ∷ 0x00 ∷ []) (9 ∷ 9 ∷ []); expected = read_refuses 1 (9 ∷ 9 ∷ []) }
    ∷ record { call = grid_convert 2 65 3 4 (0x00 ∷ 0x00 ∷ []) (9 ∷ 9 ∷ []); expected = read_refuses 1 (9 ∷ 9 ∷ []) }
    ∷ record { call = grid_convert 65 2 3 4 (0x00 ∷ 0x00 ∷ []) (9 ∷ 9 ∷ []); expected = read_refuses 1 (9 ∷ 9 ∷ []) }
    ∷ record { call = grid_convert 5 0 3 4 (0x00 ∷ 0x00 ∷ []) (9 ∷ 9 ∷ []); expected = read_refuses 1 (9 ∷ 9 ∷ []) }
    -- counters are as long as at K, the output as at the target: not the other way round, and neither as the other
    ∷ record { call = grid_convert 2 2 3 4 (0x96 ∷ []) (9 ∷ 9 ∷ []); expected = shown (0x4A ∷ 0x04 ∷ []) }
    ∷ record { call = grid_convert 2 2 3 4 (0x4A ∷ 0x04 ∷ []) (9 ∷ []); expected = read_refuses 2 (9 ∷ []) }
    ∷ record { call = grid_convert 2 2 3 4 (0x96 ∷ []) (9 ∷ []); expected = read_refuses 2 (9 ∷ []) }
    ∷ record { call = grid_convert 2 2 3 4 (0x96 ∷ 0x00 ∷ []) (9 ∷ 9 ∷ []); expected = read_refuses 2 (9 ∷ 9 ∷ []) }
    ∷ record { call = grid_convert 2 2 3 4 (0x96 ∷ []) (9 ∷ 9 ∷ 9 ∷ []); expected = read_refuses 2 (9 ∷ 9 ∷ 9 ∷ []) }
    ∷ record { call = grid_convert 2 2 3 4 [] (9 ∷ 9 ∷ []); expected = read_refuses 2 (9 ∷ 9 ∷ []) }
    -- a spare bit of the counters is refused, not one of the output
    ∷ record { call = from_two 3 4 0xE4 0x05; expected = read_refuses 3 as_it_was }
    ∷ record { call = from_two 4 7 0xC4 0xA2; expected = read_refuses 3 as_it_was }
    -- so is a counter above K, though at a larger target it would fit: row 1 and column 2 with 3, column 0, column 2; and K = 4 with 5 in row 0
    ∷ record { call = from_two 2 3 0x0C 0x03; expected = read_names 1 as_it_was }
    ∷ record { call = from_two 2 4 0x30 0x00; expected = read_names 2 as_it_was }
    ∷ record { call = from_two 2 2 0x00 0x03; expected = read_names 4 as_it_was }
    ∷ record { call = from_two 4 7 0xC5 0x22; expected = read_names 0 as_it_was }
    -- of several the first, and not the greatest: 5 in row 1 and 7 in column 1, and the other way round
    ∷ record { call = from_two 4 7 0x28 0x0E; expected = read_names 1 as_it_was }
    ∷ record { call = from_two 4 7 0x38 0x0A; expected = read_names 1 as_it_was }
    -- 1 goes before 2, 2 before 3, 3 before 4, and none of them names a counter
    ∷ record { call = grid_convert 2 3 2 1 (0x0C ∷ 0x07 ∷ []) (9 ∷ 9 ∷ []); expected = read_refuses 1 (9 ∷ 9 ∷ []) }
    ∷ record { call = grid_convert 2 3 2 4 (0x0C ∷ 0x07 ∷ []) (9 ∷ []); expected = read_refuses 2 (9 ∷ []) }
    ∷ record { call = from_two 2 4 0x0C 0x07; expected = read_refuses 3 as_it_was }
    -- the last of 128 counters, in the last of 16 bytes and then of 48
    ∷ record { call = grid_convert 64 64 1 4 (replicate 15 0 ++ (0x80 ∷ [])) (replicate 48 9); expected = shown (replicate 47 0 ++ (0x20 ∷ [])) }
    -- the staircase's counters, at K = 7 and at K = 6
    ∷ record { call = grid_convert 7 7 7 7 staircase_counters (9 ∷ 9 ∷ 9 ∷ 9 ∷ 9 ∷ 9 ∷ []); expected = shown staircase_counters }
    ∷ record { call = grid_convert 7 7 6 7 staircase_counters (9 ∷ 9 ∷ 9 ∷ 9 ∷ 9 ∷ 9 ∷ []); expected = read_names 3 (9 ∷ 9 ∷ 9 ∷ 9 ∷ 9 ∷ 9 ∷ []) }
    ∷ []
