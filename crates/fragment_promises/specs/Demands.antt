-- What is demanded of a start, a lump, a finish and a count of what is missing: facts about the arguments and what is left, a field each. They cite no
-- computed number and no list of cells, and they alone leave one answer (Promises.antt). x is the number that a call answers, t the record that it is lent,
-- and u that record afterwards. Assumes nothing.
use Rattle.std.specs.Prelude.{ℕ, ◌+◌, ◌*◌, ◌<◌, ◌≤◌, ◌≡◌, Bool, true, List, [], ◌∷◌, ◌⊎◌, ◌≢◌, length, get_or}
use Rattle.bits.specs.Bits.{at}
use Rattle.bits.specs.First.{Refusal, ◌when◌, First}
use Rattle.rdis.specs.Block.{Sized, bit}
use Rattle.rdis.specs.Packing.{width}
use Rattle.grid_promises.specs.Refusals.{InRange, Spare, Held, Above, inverted}
use Rattle.grid_promises.specs.Demands.{Names}
use Rattle.grid_promises.specs.declared.ReadAnswer.{ReadAnswer}
use Rattle.fragment_promises.specs.declared.Transfer.{Transfer}
use Rattle.fragment_promises.specs.declared.MissingAnswer.{MissingAnswer}
use Rattle.fragment_promises.specs.Transfers.{counter_bytes, size, size_of, counters_of}

-- the record has these numbers
pub record Told (m n k : ℕ) (t : Transfer) : Type 0 where
  pub rows : t.rows ≡ m
  pub columns : t.columns ≡ n
  pub levels : t.k ≡ k

-- the numbers of the record lie in their ranges
abbrev pub Good : Transfer → Type 0
Good t = InRange t.rows t.columns t.k

-- ---- a start

-- its one refusal
abbrev pub start_refusals : ℕ → ℕ → ℕ → List Refusal
start_refusals m n k = (1 when (InRange m n k → ⊥)) ∷ []

-- what the record held before does not count
pub record StartDemands (m n k x : ℕ) (u : Transfer) : Type 0 where
  pub first : First (start_refusals m n k) x
  pub told : Told m n k u
  -- no byte was taken
  pub none : u.taken ≡ 0
  -- there is room for the longest block, and it holds zeros
  pub room : length u.bytes ≡ 560
  pub zeros : (i : ℕ) → get_or u.bytes i 0 ≡ 0

-- ---- a lump of these bytes, lent any record t

-- the refusals of a lump of `more` bytes, in the order in which they are judged: 9 where, with those taken before, they are more than the block has
abbrev pub lump_refusals : Transfer → ℕ → List Refusal
lump_refusals t more = (1 when (Good t → ⊥)) ∷ (9 when (size_of t < t.taken + more)) ∷ []

pub record LumpDemands (t : Transfer) (bs : List ℕ) (x : ℕ) (u : Transfer) : Type 0 where
  pub first : First (lump_refusals t (length bs)) x
  -- what the start was told stays, and so does the room
  pub told : Told t.rows t.columns t.k u
  pub room : length u.bytes ≡ length t.bytes
  -- taken: every byte of it comes after those that were taken before
  pub counted : x ≡ 0 → u.taken ≡ t.taken + length bs
  pub placed : x ≡ 0 → (i : ℕ) → i < length bs → get_or u.bytes (t.taken + i) 0 ≡ get_or bs i 0
  pub others : x ≡ 0 → (i : ℕ) → (i < t.taken) ⊎ (t.taken + length bs ≤ i) → get_or u.bytes i 0 ≡ get_or t.bytes i 0
  -- refused: no byte of it is taken
  pub kept : 0 < x → u.bytes ≡ t.bytes
  -- and that it would make the block too long is noted, so that every later call answers 9: 561 bytes are more than any block has
  pub noted : Good t → t.taken ≤ size_of t → x ≡ 9 → u.taken ≡ 561
  -- where a refusal was noted before, nothing changes
  pub stays : (Good t → ⊥) ⊎ (size_of t < t.taken) → u.taken ≡ t.taken

-- ---- a finish: `taken` bytes were taken, and bs are those held

-- the cell (i, j) among the bits of a block's bytes: 64 bits a row, after the bytes of the counters
abbrev pub cell_bit : ℕ → ℕ → ℕ → List ℕ → ℕ → ℕ → Bool
cell_bit m n k bs i j = at bs (8 * (counter_bytes m n k + 8 * i) + j)

-- some row has a bit past the last of the n columns
abbrev pub PastBytes : ℕ → ℕ → ℕ → List ℕ → Type 0
PastBytes m n k bs = (i : ℕ) × (j : ℕ) × (i < m) × (n ≤ j) × (j < 64) × (cell_bit m n k bs i j ≡ true)

-- its refusals in the order in which they are judged: those of numbers and lengths, and then others. `taken` bytes were taken, and `held` are held
abbrev pub length_refusals : (m n k taken held out : ℕ) → List Refusal → List Refusal
length_refusals m n k taken held out others =
    (1 when (InRange m n k → ⊥)) ∷ (9 when (size m n k < taken)) ∷ (2 when (out ≢ m)) ∷ (8 when (held < size m n k)) ∷ others

-- of a whole block those of a read. Of the output only the length counts
abbrev pub finish_refusals : ℕ → ℕ → ℕ → ℕ → List ℕ → ℕ → List Refusal
finish_refusals m n k taken bs out =
    length_refusals m n k taken (length bs) out
    ((3 when (PastBytes m n k bs ⊎ Spare (width k) (m + n) (counters_of m n k bs))) ∷ (4 when Above k (m + n) (counters_of m n k bs)) ∷ [])

-- lent `out`, which holds `after` at the end
pub record FinishDemands (m n k taken : ℕ) (bs out : List ℕ) (answer : ReadAnswer) (after : List ℕ) : Type 0 where
  pub first : First (finish_refusals m n k taken bs (length out)) answer.number
  -- with refusal 4 which counter is above K, as a read
  pub names : Names k (m + n) (counters_of m n k bs) answer.number answer.index
  -- a refusal leaves the output as it was
  pub untouched : 0 < answer.number → after ≡ out
  -- accepted: a word a row, with no bit past the last column
  pub inside : answer.number ≡ 0 → Sized m n after
  -- each cell by itself, as a read
  pub shows : answer.number ≡ 0 → (i j x y : ℕ) → i < m → j < n → Held (width k) (counters_of m n k bs) i x → Held (width k) (counters_of m n k bs) (m + j) y
      → bit after i j ≡ inverted x y (cell_bit m n k bs i j)

-- ---- how many bytes are missing, where `taken` were taken

-- the refusals that a record has noted, in the order in which they are judged
abbrev pub missing_refusals : ℕ → ℕ → ℕ → ℕ → List Refusal
missing_refusals m n k taken = (1 when (InRange m n k → ⊥)) ∷ (9 when (size m n k < taken)) ∷ []

pub record MissingDemands (m n k taken : ℕ) (answer : MissingAnswer) : Type 0 where
  pub first : First (missing_refusals m n k taken) answer.number
  -- with those that were taken they are all that the block has
  pub completes : answer.number ≡ 0 → answer.bytes + taken ≡ size m n k
  -- a refusal counts nothing
  pub none : 0 < answer.number → answer.bytes ≡ 0
