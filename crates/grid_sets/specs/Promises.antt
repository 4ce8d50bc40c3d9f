-- A block's counters in bytes: what a reading of bytes answers, what a writing leaves, and what a conversion does. m are the rows, n the columns, k is K, and k'
-- the target of a conversion. Assumes nothing.
use Rattle.std.specs.Prelude.{ℕ, ◌+◌, ◌^◌, ◌<◌, ◌≤◌, ◌≡◌, Bool, true, false, not, cond, ◌&&◌, List, ◌≢◌, length, replicate, eqb, leb, ltb, Result, Ok, Err, OnOk, OnErr}
use Rattle.rdis.specs.Packing.{width, bytes_for, in_order, packed, unpacked, row_counter, column_counter, above, first_above, spare_clear}
use Rattle.grid_sets.specs.Sets.{sets_of, times}
use Rattle.refusals.specs.Numbers.{number_of, index_of}
use Rattle.refusals.specs.declared.Refusal.{Refusal}
use Rattle.refusals.specs.declared.Refusal.TheVariants.{WrongLength, BitPastEnd, AboveK}
use Rattle.grid_sets.specs.declared.Counters.{Counters}

-- ---- lengths

-- so many bytes are what n counters take, of which a block has at most 128
unfoldable pub fit : ℕ → ℕ → ℕ → Bool
fit k n bytes = leb n 128 && eqb bytes (bytes_for (width k) n)

-- there are at most 64 rows and 64 columns, and so many bytes are what their counters take
unfoldable pub roomy : ℕ → ℕ → ℕ → ℕ → Bool
roomy k m n bytes = (leb m 64 && leb n 64) && fit k (m + n) bytes

-- ---- what is judged

-- n counters in bytes of the right length: a spare bit that is set, or the first counter above K
unfoldable pub counters_judged : ℕ → ℕ → List ℕ → Result (Unit {0}) Refusal
counters_judged k n bs = cond (not (spare_clear (width k) n bs)) (Err BitPastEnd) (cond (above k n bs) (Err (AboveK (first_above k n bs))) (Ok tt))

-- a judgment in numbers: that of the refusal, and with refusal 4 the index of the first of n counters above K, and else 0
pub record Numbers (k n : ℕ) (bs : List ℕ) (x : ℕ) (j : Result (Unit {0}) Refusal) : Type 0 where
  pub number : number_of j ≡ x
  pub names : number_of j ≡ 4 → index_of j ≡ first_above k n bs
  pub names_none : number_of j ≢ 4 → index_of j ≡ 0

-- ---- from bytes to sets

-- bytes that should hold the counters: a wrong length, or what is judged of those of the right length
unfoldable pub unpack_judged : ℕ → ℕ → ℕ → List ℕ → Result (Unit {0}) Refusal
unpack_judged k m n bs = cond (not (roomy k m n (length bs))) (Err WrongLength) (counters_judged k (m + n) bs)

-- its number: a wrong length, a spare bit that is set, a counter above K
unfoldable pub unpack_number : ℕ → ℕ → ℕ → List ℕ → ℕ
unpack_number k m n bs = cond (not (roomy k m n (length bs))) 2 (cond (not (spare_clear (width k) (m + n) bs)) 3 (cond (above k (m + n) bs) 4 0))

-- what a reading of bytes answers
pub record Unpack (k m n : ℕ) (bs : List ℕ) (c : Counters) : Type 0 where
  pub judged : c.judged ≡ unpack_judged k m n bs
  -- bytes of a wrong length hold no counter
  pub no_rows : roomy k m n (length bs) ≡ false → c.rows ≡ replicate 8 0
  pub no_columns : roomy k m n (length bs) ≡ false → c.columns ≡ replicate 8 0
  -- bytes of the right length: the sets of the rows' counters and of the columns'
  pub row_sets : roomy k m n (length bs) ≡ true → c.rows ≡ sets_of m (row_counter (width k) bs)
  pub column_sets : roomy k m n (length bs) ≡ true → c.columns ≡ sets_of n (column_counter (width k) m bs)

-- ---- from the sets that levels took to bytes

-- a counter's bits hold the number of the levels, and there is room for the counters
unfoldable pub packable : ℕ → ℕ → ℕ → ℕ → ℕ → Bool
packable k m n used bytes = ltb used (2 ^ width k) && roomy k m n bytes

-- what a writing of the counters of m rows and n columns leaves
pub record Pack (k m n used : ℕ) (rows columns before after : List ℕ) : Type 0 where
  -- all the bytes: of every row how many levels took it, then of every column
  pub bytes : packable k m n used (length before) ≡ true → after ≡ packed (width k) (in_order m n (times rows used) (times columns used))
  pub untouched : packable k m n used (length before) ≡ false → after ≡ before

-- ---- from bytes to bytes

-- the bytes are as long as at K, the output is as long as at the target, and a counter's bits there hold K
unfoldable pub convertible : ℕ → ℕ → ℕ → ℕ → ℕ → ℕ → Bool
convertible k k' m n bytes out = roomy k m n bytes && packable k' m n k out

-- bytes that are to be converted: a wrong length, or a K that the target's bits do not hold; or what is judged of the counters
unfoldable pub convert_judged : ℕ → ℕ → ℕ → ℕ → List ℕ → ℕ → Result (Unit {0}) Refusal
convert_judged k k' m n bs out = cond (not (convertible k k' m n (length bs) out)) (Err WrongLength) (counters_judged k (m + n) bs)

-- its number: a wrong length, or a K that the target's bits do not hold; a spare bit that is set; a counter above K
unfoldable pub convert_number : ℕ → ℕ → ℕ → ℕ → List ℕ → ℕ → ℕ
convert_number k k' m n bs out =
    cond (not (convertible k k' m n (length bs) out)) 2 (cond (not (spare_clear (width k) (m + n) bs)) 3 (cond (above k (m + n) bs) 4 0))

-- what a conversion answers and leaves
pub record Convert (k k' m n : ℕ) (bs before : List ℕ) (c : Result (Unit {0}) Refusal) (after : List ℕ) : Type 0 where
  pub judged : c ≡ convert_judged k k' m n bs (length before)
  -- accepted: the counters that the bytes hold at K, as bytes at the target
  pub bytes : OnOk c (after ≡ packed (width k') (unpacked (width k) (m + n) bs))
  pub untouched : OnErr c (after ≡ before)

-- ---- what was written is read back, and no second answer

-- the bytes of the counters of at most K levels
abbrev pub ReadsBack : Type 0
ReadsBack =
    (k m n used : ℕ) (rows columns before after : List ℕ) → used ≤ k → packable k m n used (length before) ≡ true → Pack k m n used rows columns before after
    → Unpack k m n after (record { judged = Ok tt; rows = sets_of m (times rows used); columns = sets_of n (times columns used) })

abbrev pub OneUnpack : Type 0
OneUnpack = (k m n : ℕ) (bs : List ℕ) (c c' : Counters) → Unpack k m n bs c → Unpack k m n bs c' → c ≡ c'

abbrev pub OnePack : Type 0
OnePack = (k m n used : ℕ) (rows columns before after after' : List ℕ) → Pack k m n used rows columns before after → Pack k m n used rows columns before after' → after ≡ after'

abbrev pub OneConvert : Type 0
OneConvert =
    (k k' m n : ℕ) (bs before : List ℕ) (c c' : Result (Unit {0}) Refusal) (after after' : List ℕ)
    → Convert k k' m n bs before c after → Convert k k' m n bs before c' after' → (c ≡ c') × (after ≡ after')

-- ---- the judgments in numbers

abbrev pub UnpackNumbers : Type 0
UnpackNumbers = (k m n : ℕ) (bs : List ℕ) (c : Counters) → Unpack k m n bs c → Numbers k (m + n) bs (unpack_number k m n bs) c.judged

abbrev pub ConvertNumbers : Type 0
ConvertNumbers =
    (k k' m n : ℕ) (bs before : List ℕ) (c : Result (Unit {0}) Refusal) (after : List ℕ)
    → Convert k k' m n bs before c after → Numbers k (m + n) bs (convert_number k k' m n bs (length before)) c

-- what a conversion leaves, by its number
abbrev pub ConvertBytes : Type 0
ConvertBytes =
    (k k' m n : ℕ) (bs before : List ℕ) (c : Result (Unit {0}) Refusal) (after : List ℕ)
    → Convert k k' m n bs before c after → number_of c ≡ 0 → after ≡ packed (width k') (unpacked (width k) (m + n) bs)

abbrev pub ConvertUntouched : Type 0
ConvertUntouched =
    (k k' m n : ℕ) (bs before : List ℕ) (c : Result (Unit {0}) Refusal) (after : List ℕ) → Convert k k' m n bs before c after → 0 < number_of c → after ≡ before

-- and no second number, index, sets or bytes
abbrev pub OneUnpackInNumbers : Type 0
OneUnpackInNumbers =
    (k m n : ℕ) (bs : List ℕ) (c c' : Counters) → Unpack k m n bs c → Unpack k m n bs c'
    → (number_of c.judged ≡ number_of c'.judged) × (index_of c.judged ≡ index_of c'.judged) × (c.rows ≡ c'.rows) × (c.columns ≡ c'.columns)

abbrev pub OneConvertInNumbers : Type 0
OneConvertInNumbers =
    (k k' m n : ℕ) (bs before : List ℕ) (c c' : Result (Unit {0}) Refusal) (after after' : List ℕ)
    → Convert k k' m n bs before c after → Convert k k' m n bs before c' after'
    → (number_of c ≡ number_of c') × (index_of c ≡ index_of c') × (after ≡ after')
