-- Words with the bits inverted that the sets of a block's counters say: a bit is the other way round where an odd number of the first `used` pairs of sets
-- have its row and its column. It is how cells are read and how data is stored. Assumes nothing.
use Rattle.std.specs.Prelude.{ℕ, ◌≡◌, Bool, true, false, ◌&&◌, List, eqb, leb, length}
use Rattle.std.specs.Bool.{xor}
use Rattle.bits.specs.Bits.{words}
use Rattle.rdis.specs.Block.{bit}
use Rattle.grid_sets.specs.Sets.{odd}

-- bit j of row i, inverted where its row's pattern has column j
unfoldable pub inverted_by : List ℕ → List ℕ → ℕ → List ℕ → ℕ → ℕ → Bool
inverted_by rows columns used from i j = xor (odd rows columns used i j) (bit from i j)

-- at most 64 rows and 8 pairs of sets, and room for as many words as there are
unfoldable pub invertible : ℕ → ℕ → ℕ → Bool
invertible used from into = leb from 64 && (leb used 8 && eqb into from)

-- what an inversion of the words `from` leaves in a buffer, a word a row
pub record Invert (rows columns : List ℕ) (used : ℕ) (from before after : List ℕ) : Type 0 where
  pub inverted : invertible used (length from) (length before) ≡ true → after ≡ words (length from) 64 (inverted_by rows columns used from)
  pub untouched : invertible used (length from) (length before) ≡ false → after ≡ before

-- nothing else is left
abbrev pub OneInvert : Type 0
OneInvert =
    (rows columns : List ℕ) (used : ℕ) (from before after after' : List ℕ)
    → Invert rows columns used from before after → Invert rows columns used from before after' → after ≡ after'
