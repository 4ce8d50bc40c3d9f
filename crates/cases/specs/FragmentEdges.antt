-- Transfers whose lines a misreading of document 02, A1, would change: where the bytes are cut, short and long blocks, the order of the refusals, and what each
-- of them leaves. Assumes nothing.
use Rattle.std.specs.Prelude.{ℕ, List, [], ◌∷◌, ◌++◌, replicate}
use Rattle.fragment_promises.specs.Sequences.{Event, start, lump, finish}
use Rattle.cases.specs.Lines.{Line, Call, transfer}
use Rattle.cases.specs.Table.{Row}

-- a finish that is accepted and fills the output, and one that is refused with this number and index. The first start answered 0; in the end the record has noted
-- 0, or at this
abbrev pub filled : List ℕ → Line
filled out = record { numbers = 0 ∷ 0 ∷ 0 ∷ 0 ∷ []; buffers = out ∷ [] }

abbrev pub refuses : (number index stood : ℕ) → List ℕ → Line
refuses number index stood out = record { numbers = number ∷ index ∷ 0 ∷ stood ∷ []; buffers = out ∷ [] }

-- the same where the first start answered 1
abbrev pub filled_later : List ℕ → Line
filled_later out = record { numbers = 0 ∷ 0 ∷ 1 ∷ 0 ∷ []; buffers = out ∷ [] }

abbrev pub refuses_all : List ℕ → Line
refuses_all out = record { numbers = 1 ∷ 0 ∷ 1 ∷ 1 ∷ []; buffers = out ∷ [] }

-- a word of one byte and seven that are 0
abbrev pub word : ℕ → List ℕ
word b = b ∷ 0 ∷ 0 ∷ 0 ∷ 0 ∷ 0 ∷ 0 ∷ 0 ∷ []

-- a block of two rows and three columns at K = 3, in 18 bytes: counters 0, 1 and 2, 3, 1, and cells 101 and 011. The second row is read inverted
abbrev pub block : List ℕ
block = 0xE4 ∷ 0x01 ∷ (word 5 ++ word 3)

-- its bytes without the last, which is 0
abbrev pub cut : List ℕ
cut = 0xE4 ∷ 0x01 ∷ (word 5 ++ (3 ∷ 0 ∷ 0 ∷ 0 ∷ 0 ∷ 0 ∷ 0 ∷ []))

-- two words that are lent, and how they are left
abbrev pub lent : List ℕ
lent = 7 ∷ 8 ∷ []

-- a transfer of two by three at K = 3 into them
abbrev pub two_by_three : List Event → Call
two_by_three calls = transfer 2 3 3 calls lent

abbrev pub fragment_edges : List Row
fragment_edges =
    -- at once; counters and cells apart; cut within the counters and within both words; with lumps of no bytes before, between and after
    record { call = two_by_three (lump block ∷ []); expected = filled (5 ∷ 4 ∷ []) }
    ∷ record { call = two_by_three (lump (0xE4 ∷ 0x01 ∷ []) ∷ lump (word 5 ++ word 3) ∷ []); expected = filled (5 ∷ 4 ∷ []) }
    ∷ record { call = two_by_three (lump (0xE4 ∷ []) ∷ lump (0x01 ∷ 5 ∷ 0 ∷ []) ∷ lump (0 ∷ 0 ∷ 0 ∷ 0 ∷ 0 ∷ 0 ∷ 3 ∷ []) ∷ lump (0 ∷ 0 ∷ 0 ∷ 0 ∷ 0 ∷ 0 ∷ 0 ∷ []) ∷ []); expected = filled (5 ∷ 4 ∷ []) }
    ∷ record { call = two_by_three (lump [] ∷ lump cut ∷ lump [] ∷ lump (0 ∷ []) ∷ lump [] ∷ []); expected = filled (5 ∷ 4 ∷ []) }
    -- nothing sent, and all but the last byte: short
    ∷ record { call = two_by_three []; expected = refuses 8 0 0 lent }
    ∷ record { call = two_by_three (lump cut ∷ []); expected = refuses 8 0 0 lent }
    -- finishes between change nothing: short ones, with whatever output, and one that is accepted
    ∷ record { call = two_by_three (finish lent ∷ lump cut ∷ finish lent ∷ finish [] ∷ lump (0 ∷ []) ∷ []); expected = filled (5 ∷ 4 ∷ []) }
    ∷ record { call = two_by_three (lump block ∷ finish lent ∷ finish lent ∷ lump [] ∷ []); expected = filled (5 ∷ 4 ∷ []) }
    -- one byte more: at once, and after all the others
    ∷ record { call = two_by_three (lump (block ++ (0 ∷ [])) ∷ []); expected = refuses 9 0 9 lent }
    ∷ record { call = two_by_three (lump block ∷ lump (0 ∷ []) ∷ []); expected = refuses 9 0 9 lent }
    -- a lump that is too long is not taken in part, and is not forgotten: what would have fitted, and a lump of no bytes, answer 9 too
    ∷ record { call = two_by_three (lump cut ∷ lump (0 ∷ 0 ∷ []) ∷ []); expected = refuses 9 0 9 lent }
    ∷ record { call = two_by_three (lump cut ∷ lump (0 ∷ 0 ∷ []) ∷ lump (0 ∷ []) ∷ []); expected = refuses 9 0 9 lent }
    ∷ record { call = two_by_three (lump cut ∷ lump (0 ∷ 0 ∷ []) ∷ lump [] ∷ finish lent ∷ []); expected = refuses 9 0 9 lent }
    -- a new start clears it, and what was sent before does not count
    ∷ record { call = two_by_three (lump (block ++ (0 ∷ [])) ∷ start 2 3 3 ∷ lump block ∷ []); expected = filled (5 ∷ 4 ∷ []) }
    ∷ record { call = two_by_three (lump cut ∷ start 2 3 3 ∷ lump block ∷ []); expected = filled (5 ∷ 4 ∷ []) }
    ∷ record { call = two_by_three (lump cut ∷ start 2 3 3 ∷ lump (0 ∷ []) ∷ []); expected = refuses 8 0 0 lent }
    -- an output of another length: 2, ahead of 8 and of what the block holds, after 9
    ∷ record { call = transfer 2 3 3 (lump block ∷ []) (7 ∷ 8 ∷ 9 ∷ []); expected = refuses 2 0 0 (7 ∷ 8 ∷ 9 ∷ []) }
    ∷ record { call = transfer 2 3 3 (lump cut ∷ []) (7 ∷ []); expected = refuses 2 0 0 (7 ∷ []) }
    ∷ record { call = transfer 2 3 3 (lump cut ∷ []) (7 ∷ 8 ∷ 9 ∷ []); expected = refuses 2 0 0 (7 ∷ 8 ∷ 9 ∷ []) }
    ∷ record { call = transfer 2 3 3 (lump (block ++ (0 ∷ [])) ∷ []) (7 ∷ 8 ∷ 9 ∷ []); expected = refuses 9 0 9 (7 ∷ 8 ∷ 9 ∷ []) }
    -- numbers out of range: 1, ahead of all else, until a start with others
    ∷ record { call = transfer 0 3 3 [] []; expected = refuses_all [] }
    ∷ record { call = transfer 2 65 3 (lump block ∷ []) (7 ∷ []); expected = refuses_all (7 ∷ []) }
    ∷ record { call = transfer 2 3 8 (lump (replicate 600 0) ∷ lump [] ∷ finish lent ∷ []) lent; expected = refuses_all lent }
    ∷ record { call = transfer 2 3 0 (lump block ∷ start 2 3 3 ∷ lump block ∷ []) lent; expected = filled_later (5 ∷ 4 ∷ []) }
    ∷ record { call = two_by_three (lump block ∷ start 65 3 3 ∷ lump block ∷ []); expected = refuses 1 0 1 lent }
    -- a bit past the last column, in either row, a high one, and a spare bit of the counters: 3, but 8 while bytes are missing
    ∷ record { call = two_by_three (lump (0xE4 ∷ 0x01 ∷ (word 13 ++ word 3)) ∷ []); expected = refuses 3 0 0 lent }
    ∷ record { call = two_by_three (lump (0xE4 ∷ 0x01 ∷ (word 5 ++ (3 ∷ 0 ∷ 0 ∷ 0 ∷ 0 ∷ 0 ∷ 0 ∷ 0x80 ∷ []))) ∷ []); expected = refuses 3 0 0 lent }
    ∷ record { call = two_by_three (lump (0xE4 ∷ 0x05 ∷ (word 5 ++ word 3)) ∷ []); expected = refuses 3 0 0 lent }
    ∷ record { call = two_by_three (lump (0xE4 ∷ 0x05 ∷ (word 13 ++ (3 ∷ []))) ∷ []); expected = refuses 8 0 0 lent }
    -- a counter above K, at K = 2: column 1 has 3. Its index is passed on, but not while bytes are missing, nor with 3
    ∷ record { call = transfer 2 3 2 (lump block ∷ []) lent; expected = refuses 4 3 0 lent }
    ∷ record { call = transfer 2 3 2 (lump cut ∷ []) lent; expected = refuses 8 0 0 lent }
    ∷ record { call = transfer 2 3 2 (lump (0xE4 ∷ 0x01 ∷ (word 13 ++ word 3)) ∷ []) lent; expected = refuses 3 0 0 lent }
    -- the length goes by K and by the rows: one byte of counters at K = 1, and two at K = 4, where they are others; three by two has a word more
    ∷ record { call = transfer 2 3 1 (lump block ∷ []) lent; expected = refuses 9 0 9 lent }
    ∷ record { call = transfer 2 3 1 (lump (0x1E ∷ (word 5 ++ word 3)) ∷ []) lent; expected = filled (5 ∷ 4 ∷ []) }
    ∷ record { call = transfer 2 3 4 (lump (0x88 ∷ 0x16 ∷ (word 5 ++ word 3)) ∷ []) lent; expected = filled (5 ∷ 4 ∷ []) }
    ∷ record { call = transfer 3 2 3 (lump block ∷ []) (7 ∷ 8 ∷ 9 ∷ []); expected = refuses 8 0 0 (7 ∷ 8 ∷ 9 ∷ []) }
    -- the lowest byte comes first: bit 9 is in the second byte of its word
    ∷ record { call = transfer 1 10 1 (lump (0 ∷ 0 ∷ 0x01 ∷ 0x02 ∷ 0 ∷ 0 ∷ 0 ∷ 0 ∷ 0 ∷ 0 ∷ []) ∷ []) (7 ∷ []); expected = filled (0x201 ∷ []) }
    -- the smallest block, of 9 bytes, and the longest, of 560
    ∷ record { call = transfer 1 1 1 (lump (0x03 ∷ word 0) ∷ []) (7 ∷ []); expected = filled (1 ∷ []) }
    ∷ record { call = transfer 64 64 7 (lump (replicate 560 0) ∷ []) (replicate 64 7); expected = filled (replicate 64 0) }
    ∷ record { call = transfer 64 64 7 (lump (replicate 559 0) ∷ []) (replicate 64 7); expected = refuses 8 0 0 (replicate 64 7) }
    ∷ record { call = transfer 64 64 7 (lump (replicate 561 0) ∷ []) (replicate 64 7); expected = refuses 9 0 9 (replicate 64 7) }
    ∷ []
