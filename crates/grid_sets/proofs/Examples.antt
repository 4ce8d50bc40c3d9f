-- Each definition computed on the counters 0, 1, 2, 3 of four rows and 2, 0, 3 of three columns. Assumes nothing.
use mathlib.Core.Path.{◌≡◌, refl}
use mathlib.Core.Bool.{true, false}
use mathlib.Core.List.{[], ◌∷◌}
use Prim.Native.Nat.{ℕ}
use lib.Count.{count_trailing_zeros}
use lib.ListN.{get_or}
use Rattle.bits.specs.Bits.{has, sum, list, word, words}
use Rattle.grid_sets.specs.Sets.{sets_of, times, crossings, odd, some_line, first_line, filled}

abbrev rows : ℕ → ℕ
rows i = get_or (0 ∷ 1 ∷ 2 ∷ 3 ∷ []) i 0

abbrev columns : ℕ → ℕ
columns j = get_or (2 ∷ 0 ∷ 3 ∷ []) j 0

-- of the rows 1, 2 and 3 are above 0, 2 and 3 above 1, and 3 alone above 2; of the columns 0 and 2 are above 0 and above 1, and 2 alone above 2
sets_of_lem : (sets_of 4 rows ≡ 14 ∷ 12 ∷ 8 ∷ 0 ∷ 0 ∷ 0 ∷ 0 ∷ 0 ∷ []) × (sets_of 3 columns ≡ 5 ∷ 5 ∷ 4 ∷ 0 ∷ 0 ∷ 0 ∷ 0 ∷ 0 ∷ [])
unfolding sets_of words word list
sets_of_lem = (refl, refl)

-- row 2 is in two sets, of which one is among the first one
counted : (times (sets_of 4 rows) 3 2 ≡ 2) × (times (sets_of 4 rows) 1 2 ≡ 1) × (times (sets_of 4 rows) 8 0 ≡ 0)
unfolding times sets_of words word list sum has
counted = (refl, refl, refl)

-- the smaller of 3 and 2, of 1 and 3, of 3 and 3, of 3 and 0
crossed : (crossings (sets_of 4 rows) (sets_of 3 columns) 3 3 0 ≡ 2) × (crossings (sets_of 4 rows) (sets_of 3 columns) 3 1 2 ≡ 1)
    × (crossings (sets_of 4 rows) (sets_of 3 columns) 3 3 2 ≡ 3) × (crossings (sets_of 4 rows) (sets_of 3 columns) 3 3 1 ≡ 0)
unfolding crossings sets_of words word list sum has
crossed = (refl, refl, refl, refl)

in_pattern : (odd (sets_of 4 rows) (sets_of 3 columns) 3 3 0 ≡ false) × (odd (sets_of 4 rows) (sets_of 3 columns) 3 1 2 ≡ true)
    × (odd (sets_of 4 rows) (sets_of 3 columns) 3 3 2 ≡ true) × (odd (sets_of 4 rows) (sets_of 3 columns) 3 3 1 ≡ false)
unfolding odd crossings sets_of words word list sum has
in_pattern = (refl, refl, refl, refl)

-- no line is above 3; and of the first two columns none is above 2, but a row is
has_line : (some_line (sets_of 4 rows) (sets_of 3 columns) 3 ≡ false) × (some_line (sets_of 4 rows) (sets_of 2 columns) 2 ≡ true)
unfolding sets_of words word list
has_line = (refl, refl)

-- above 2 the first line is row 3, above 1 row 2; of the first two rows and the columns, above 1 it is column 0, and above 2 column 2
first_lines : (first_line (sets_of 4 rows) (sets_of 3 columns) 4 2 ≡ 3) × (first_line (sets_of 4 rows) (sets_of 3 columns) 4 1 ≡ 2)
    × (first_line (sets_of 2 rows) (sets_of 3 columns) 2 1 ≡ 2) × (first_line (sets_of 2 rows) (sets_of 3 columns) 2 2 ≡ 4)
unfolding first_line sets_of words word list count_trailing_zeros
first_lines = (refl, refl, refl, refl)

-- the greatest counter is 3; of the first two rows and columns it is 2, a column's; and of the first two rows 1
how_many : (filled (sets_of 4 rows) (sets_of 3 columns) 8 ≡ 3) × (filled (sets_of 2 rows) (sets_of 2 columns) 8 ≡ 2) × (filled (sets_of 2 rows) (sets_of 0 columns) 8 ≡ 1)
unfolding filled sets_of words word list sum
how_many = (refl, refl, refl)
