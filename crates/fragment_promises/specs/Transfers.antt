-- A grid block that arrives in lumps: its bytes, the record that is carried from call to call, and what each call makes of it. m are the rows, n the columns,
-- k is K. Assumes nothing.
use Rattle.std.specs.Prelude.{ℕ, ◌+◌, ◌-◌, ◌*◌, not, cond, List, [], ◌∷◌, ◌++◌, eqb, leb, ltb, length, take, drop, replicate}
use Rattle.bits.specs.Bits.{list, number, digits}
use Rattle.rdis.specs.Packing.{width, bytes_for}
use Rattle.grid_promises.specs.Calls.{in_range, read_number}
use Rattle.fragment_promises.specs.declared.Transfer.{Transfer}

-- ---- a block's bytes: the packed counters, then the cell words of 8 bytes, the lowest byte first

-- how many bytes the counters take
abbrev pub counter_bytes : ℕ → ℕ → ℕ → ℕ
counter_bytes m n k = bytes_for (width k) (m + n)

-- the length of a block
unfoldable pub size : ℕ → ℕ → ℕ → ℕ
size m n k = counter_bytes m n k + 8 * m

abbrev pub counters_of : ℕ → ℕ → ℕ → List ℕ → List ℕ
counters_of m n k bs = take (counter_bytes m n k) bs

-- m words of 8 bytes, from byte c on
unfoldable pub words_from : ℕ → ℕ → List ℕ → List ℕ
words_from c m bs = list m (λ i. number 256 (take 8 (drop (c + 8 * i) bs)))

abbrev pub cells_of : ℕ → ℕ → ℕ → List ℕ → List ℕ
cells_of m n k bs = words_from (counter_bytes m n k) m bs

-- and back: the bytes of words
unfoldable pub word_bytes : List ℕ → List ℕ
word_bytes [] = []
word_bytes (w ∷ ws) = digits 256 8 w ++ word_bytes ws

-- ---- numbers

-- what a record of these numbers has noted, where `taken` bytes were taken: 1, 9 or else 0. A start and a lump answer it, and it comes first in every later call
unfoldable pub standing : ℕ → ℕ → ℕ → ℕ → ℕ
standing m n k taken = cond (not (in_range m n k)) 1 (cond (ltb (size m n k) taken) 9 0)

-- the number of a finish: `taken` bytes were taken, bs are those held, and the output has `out` words
unfoldable pub finish_number : ℕ → ℕ → ℕ → ℕ → List ℕ → ℕ → ℕ
finish_number m n k taken bs out =
    cond (not (in_range m n k)) 1
    (cond (ltb (size m n k) taken) 9
    (cond (not (eqb out m)) 2 (cond (ltb (length bs) (size m n k)) 8 (read_number m n k (cells_of m n k bs) (counters_of m n k bs) out))))

-- how many bytes of the block are missing where `taken` were taken: none are counted where the record has noted a refusal
unfoldable pub missing : ℕ → ℕ → ℕ → ℕ → ℕ
missing m n k taken = cond (eqb (standing m n k taken) 0) (size m n k - taken) 0

-- ---- the record

abbrev pub transfer : ℕ → ℕ → ℕ → ℕ → List ℕ → Transfer
transfer m n k taken bytes = record { rows = m; columns = n; k = k; taken = taken; bytes = bytes }

abbrev pub standing_of : Transfer → ℕ
standing_of t = standing t.rows t.columns t.k t.taken

abbrev pub size_of : Transfer → ℕ
size_of t = size t.rows t.columns t.k

-- the bytes that it holds: those that were taken
abbrev pub held : Transfer → List ℕ
held t = take t.taken t.bytes

-- after a start no byte was taken
abbrev pub started : ℕ → ℕ → ℕ → Transfer
started m n k = record { rows = m; columns = n; k = k; taken = 0; bytes = replicate 560 0 }

-- the lump was taken: its bytes follow those that were
abbrev pub extended : Transfer → List ℕ → Transfer
extended t bs =
    record {
      rows = t.rows;
      columns = t.columns;
      k = t.k;
      taken = t.taken + length bs;
      bytes = held t ++ bs ++ drop (t.taken + length bs) t.bytes;
    }

-- the lump was refused: from now on more bytes count as taken than any block has
abbrev pub noted : Transfer → Transfer
noted t = record { rows = t.rows; columns = t.columns; k = t.k; taken = 561; bytes = t.bytes }

-- after a lump; a record that has noted a refusal stays as it is
unfoldable pub lumped : Transfer → List ℕ → Transfer
lumped t bs = cond (eqb (standing_of t) 0) (cond (leb (t.taken + length bs) (size_of t)) (extended t bs) (noted t)) t
