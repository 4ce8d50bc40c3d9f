-- Counters as sets of lines (rows or columns), a bit for each line: set s of counters has the lines whose counter is above s. So a counter is the number
-- of sets that have its line, the smaller of two is the number of pairs of sets that have both lines, and the greatest the number of pairs of which one has a
-- line. None of these numbers depends on the order of the sets: those of a plan's levels come with the last level first. Assumes nothing.
use Rattle.std.specs.Prelude.{ℕ, ◌+◌, ◌%◌, Bool, not, cond, ◌&&◌, List, eqb, ltb, get_or}
use Rattle.std.specs.Int.Count.{count_trailing_zeros}
use Rattle.bits.specs.Bits.{num, sum, has, words}

-- the eight sets of n counters f
unfoldable pub sets_of : ℕ → (ℕ → ℕ) → List ℕ
sets_of n f = words 8 n (λ s i. ltb s (f i))

-- how many of the first n sets have line i
unfoldable pub times : List ℕ → ℕ → ℕ → ℕ
times sets n i = sum n (λ s. num (has (get_or sets s 0) i))

-- how many of the first n pairs of sets have row i and column j
unfoldable pub crossings : List ℕ → List ℕ → ℕ → ℕ → ℕ → ℕ
crossings rows columns n i j = sum n (λ s. num (has (get_or rows s 0) i && has (get_or columns s 0) j))

-- their number is odd: column j is in the inversion pattern of row i
unfoldable pub odd : List ℕ → List ℕ → ℕ → ℕ → ℕ → Bool
odd rows columns n i j = eqb (crossings rows columns n i j % 2) 1

-- one of the two sets numbered s has a line
abbrev pub some_line : List ℕ → List ℕ → ℕ → Bool
some_line rows columns s = not (eqb (get_or rows s 0) 0 && eqb (get_or columns s 0) 0)

-- the first line that one of the two has, where m rows are counted before the columns: the lowest row, or else the lowest column
unfoldable pub first_line : List ℕ → List ℕ → ℕ → ℕ → ℕ
first_line rows columns m s = cond (eqb (get_or rows s 0) 0) (m + count_trailing_zeros 64 (get_or columns s 0)) (count_trailing_zeros 64 (get_or rows s 0))

-- how many of the first n pairs of sets have a line
unfoldable pub filled : List ℕ → List ℕ → ℕ → ℕ
filled rows columns n = sum n (λ s. num (some_line rows columns s))
