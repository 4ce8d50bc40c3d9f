-- The grid cases of document 01 that decide between the definitions and the errors that have been made, computed. Assumes nothing.
use Prim.Native.Nat.{ℕ}
use mathlib.Core.Path.{◌≡◌, refl}
use mathlib.Core.Bool.{true, false, xor}
use mathlib.Core.List.{List, [], ◌∷◌}
use mathlib.Core.Logic.{inl, inr}
use lib.Count.{ones, ones_in}
use lib.Dec.{lit<}
use Rattle.bits.proofs.TestLaws.{clash}
use Rattle.bits.specs.Bits.{some, first, sum, list, has, word, words, number, digits}
use Rattle.rdis.specs.Block.{Block, bit, differs, faulty, count, stuck_cells, faulty_cells, faults}
use Rattle.rdis.specs.Levels.{Outcome, masked, unmaskable, whole, takes, taken, left, levels, plan}
use Rattle.rdis.specs.Cells.{flips, holds, stored, reading}
use Rattle.rdis.specs.Chains.{Cell, IsChain, HasChain}
use Rattle.rdis.specs.Packing.{width, bytes_for, in_order, packed, counter, first_above, spare_clear}

-- as many columns as rows, and the data all zero
abbrev square : ℕ → List ℕ → List ℕ → Block
square n m v = record { rows = n; columns = n; data· = list n (λ _. 0); mask = m; values = v }

-- L, F, the stuck cells, the wrong and the right ones, then row counters, column counters, packed counters, cells, and what reading gives; nothing for a refusal
abbrev shown : Block → ℕ → Outcome → List (List ℕ)
shown b k (masked l r c) =
    (l ∷ faults b.rows b.mask ∷ stuck_cells b.rows b.columns b.mask ∷ faulty_cells b true ∷ faulty_cells b false ∷ [])
    ∷ list b.rows r
    ∷ list b.columns c
    ∷ packed (width k) (in_order b.rows b.columns r c)
    ∷ stored b r c
    ∷ reading b.rows b.columns r c (stored b r c)
    ∷ []
shown b k unmaskable = []

abbrev run : Block → ℕ → List (List ℕ)
run b k = shown b k (plan b k)

abbrev G3 : Block
G3 = square 2 (3 ∷ 2 ∷ []) (1 ∷ 2 ∷ [])

abbrev G5 : Block
G5 = square 2 (3 ∷ 3 ∷ []) (1 ∷ 2 ∷ [])

abbrev G6 : Block
G6 = square 3 (3 ∷ 6 ∷ 4 ∷ []) (1 ∷ 2 ∷ 4 ∷ [])

abbrev G8 : Block
G8 = square 2 (3 ∷ 2 ∷ []) (2 ∷ 0 ∷ [])

-- G6 with 3 levels and with 2, G5 with 1, 2 and 3, G8 with 1
pub cases : run G6 3 ∷ run G6 2 ∷ run G5 1 ∷ run G5 2 ∷ run G5 3 ∷ run G8 1 ∷ [] ≡
    ((3 ∷ 5 ∷ 5 ∷ 3 ∷ 2 ∷ []) ∷ (2 ∷ 3 ∷ 1 ∷ []) ∷ (1 ∷ 3 ∷ 2 ∷ []) ∷ (0x5E ∷ 0x0B ∷ []) ∷ (1 ∷ 3 ∷ 7 ∷ []) ∷ (0 ∷ 0 ∷ 0 ∷ []) ∷ [])
    ∷ []
    ∷ []
    ∷ []
    ∷ []
    ∷ ((1 ∷ 3 ∷ 3 ∷ 1 ∷ 2 ∷ []) ∷ (1 ∷ 0 ∷ []) ∷ (0 ∷ 1 ∷ []) ∷ (0x09 ∷ []) ∷ (2 ∷ 0 ∷ []) ∷ (0 ∷ 0 ∷ []) ∷ [])
    ∷ []
unfolding plan levels taken left takes whole faulty differs bit some sum list has word words xor packed bytes_for width number digits flips holds stored reading faults count ones ones_in
cases = refl

-- G10, 2 by 2 at K = 2: a 3 in row 0; in column 1; in row 1 and in column 0 both; in no line, where every counter is 2; and at K = 3 in every line. Five
-- counters at K = 4: a 5 before a 7, and a 7 before a 5
pub first_bad : (first_above 2 4 (0x57 ∷ []) ≡ 0) × (first_above 2 4 (0xC0 ∷ []) ≡ 3) × (first_above 2 4 (0x3C ∷ []) ≡ 1) × (first_above 2 4 (0xAA ∷ []) ≡ 4)
    × (first_above 3 4 (0xFF ∷ []) ≡ 4) × (first_above 4 5 (0x28 ∷ 0x0E ∷ []) ≡ 1) × (first_above 4 5 (0x38 ∷ 0x0A ∷ []) ≡ 1)
unfolding first_above first counter width number
first_bad = (refl, refl, refl, refl, refl, refl, refl)

-- the counters of G6 have 12 bits, and here bit 12 is set
pub spare : spare_clear 2 6 (0x5E ∷ 0x1B ∷ []) ≡ false
unfolding spare_clear number
spare = refl

-- ---- chains

abbrev cell : ℕ → ℕ → Cell
cell i j = record { row = i; column = j }

-- one wrong cell is a chain
pub alone : IsChain G3 (cell 0 0 ∷ [])
unfolding faulty differs bit list has xor
alone = ((lit< tt, lit< tt, refl), inl tt)

-- a chain may start by row and may start by column, and may end on a right cell
pub by_row_lem : IsChain G3 (cell 0 0 ∷ cell 0 1 ∷ [])
unfolding faulty differs bit list has xor
by_row_lem = ((lit< tt, lit< tt, refl), inl (refl, (lit< tt, lit< tt, refl), tt))

pub by_column_lem : IsChain G3 (cell 1 1 ∷ cell 0 1 ∷ [])
unfolding faulty differs bit list has xor
by_column_lem = ((lit< tt, lit< tt, refl), inr (refl, (lit< tt, lit< tt, refl), tt))

-- G5 has a chain of five cells, though it has four: the first comes again
pub round : HasChain G5 5
unfolding HasChain faulty differs bit list has xor some
round = (
  cell 0 0 ∷ cell 0 1 ∷ cell 1 1 ∷ cell 1 0 ∷ cell 0 0 ∷ [],
  refl,
  ((lit< tt, lit< tt, refl), inl (refl, (lit< tt, lit< tt, refl), (refl, (lit< tt, lit< tt, refl), (refl, (lit< tt, lit< tt, refl), (refl, (lit< tt, lit< tt, refl), tt))))),
)

-- three alternating cells of G8 are no chain: the first is right
pub right_first : IsChain G8 (cell 0 0 ∷ cell 0 1 ∷ cell 1 1 ∷ []) → ⊥
unfolding faulty differs bit list has xor
right_first h = clash h.0.2 refl
