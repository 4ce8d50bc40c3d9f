-- What a start, a lump, a finish and a count of what is missing promise: how a call ends exactly, and what is demanded of it; and that nothing else meets
-- that. Assumes nothing.
use Rattle.std.specs.Prelude.{ℕ, ◌+◌, ◌<◌, ◌≤◌, ◌≡◌, List, length}
use Rattle.bits.specs.Lowest.{Lowest}
use Rattle.bits.specs.First.{Applies}
use Rattle.bits.specs.Ends.{One, Measured}
use Rattle.rdis.specs.Cells.{reading}
use Rattle.rdis.specs.Packing.{width, row_counter, column_counter}
use Rattle.grid_promises.specs.Calls.{bad_index}
use Rattle.grid_promises.specs.Refusals.{InRange}
use Rattle.grid_promises.specs.Promises.{Read}
use Rattle.grid_promises.specs.declared.ReadAnswer.{ReadAnswer}
use Rattle.fragment_promises.specs.declared.Transfer.{Transfer}
use Rattle.fragment_promises.specs.declared.MissingAnswer.{MissingAnswer}
use Rattle.fragment_promises.specs.Transfers.{size, standing, standing_of, missing, started, lumped, held, counters_of, cells_of, finish_number}
use Rattle.fragment_promises.specs.Demands.{start_refusals, lump_refusals, missing_refusals, StartDemands, LumpDemands, FinishDemands, MissingDemands}

-- ---- a start and a lump: x is the number that the call answers, t the record that it is lent, and u that record afterwards

-- the record afterwards is v, and the number is what v has noted
pub record Leaves (v : Transfer) (x : ℕ) (u : Transfer) : Type 0 where
  pub number : x ≡ standing_of v
  pub left : u ≡ v

-- with these numbers, whatever the record held
pub record Start (m n k x : ℕ) (u : Transfer) : Type 0 where
  pub exactly : Leaves (started m n k) x u
  pub demands : StartDemands m n k x u

-- of these bytes, lent any record t, whoever made it
pub record Lump (t : Transfer) (bs : List ℕ) (x : ℕ) (u : Transfer) : Type 0 where
  pub exactly : Leaves (lumped t bs) x u
  pub demands : LumpDemands t bs x u

-- ---- a finish where `taken` bytes were taken and bs are those held: lent `out`, which holds `after` at the end. It only reads the record

pub record FinishExactly (m n k taken : ℕ) (bs out : List ℕ) (answer : ReadAnswer) (after : List ℕ) : Type 0 where
  -- the number, computed
  pub number : answer.number ≡ finish_number m n k taken bs (length out)
  -- the index that goes with it
  pub index_is : answer.index ≡ bad_index k (m + n) (counters_of m n k bs) answer.number
  -- a refusal leaves the output as it was
  pub untouched : 0 < answer.number → after ≡ out
  -- accepted: every cell, inverted where its counters say so, and 0 past the last column
  pub shown : answer.number ≡ 0
      → after ≡ reading m n (row_counter (width k) (counters_of m n k bs)) (column_counter (width k) m (counters_of m n k bs)) (cells_of m n k bs)

pub record Finish (m n k taken : ℕ) (bs out : List ℕ) (answer : ReadAnswer) (after : List ℕ) : Type 0 where
  pub exactly : FinishExactly m n k taken bs out answer after
  pub demands : FinishDemands m n k taken bs out answer after
  -- a whole block: what the public read promises of its cell words and counters
  pub ordinary : InRange m n k → taken ≤ size m n k → size m n k ≤ length bs → Read m n k (cells_of m n k bs) (counters_of m n k bs) out answer after

-- a finish of a record, and what is demanded of it
abbrev pub Finishes : Transfer → List ℕ → ReadAnswer → List ℕ → Type 0
Finishes t = Finish t.rows t.columns t.k t.taken (held t)

abbrev pub FinishesBy : Transfer → List ℕ → ReadAnswer → List ℕ → Type 0
FinishesBy t = FinishDemands t.rows t.columns t.k t.taken (held t)

-- ---- how many bytes are missing where `taken` were taken. It only reads the record

pub record MissingExactly (m n k taken : ℕ) (answer : MissingAnswer) : Type 0 where
  pub number : answer.number ≡ standing m n k taken
  pub bytes : answer.bytes ≡ missing m n k taken

pub record Missing (m n k taken : ℕ) (answer : MissingAnswer) : Type 0 where
  pub exactly : MissingExactly m n k taken answer
  pub demands : MissingDemands m n k taken answer

-- of a record, and what is demanded of it
abbrev pub Misses : Transfer → MissingAnswer → Type 0
Misses t = Missing t.rows t.columns t.k t.taken

abbrev pub MissesBy : Transfer → MissingAnswer → Type 0
MissesBy t = MissingDemands t.rows t.columns t.k t.taken

-- ---- no second answer: by the exact part

-- P allows no second number and no second record
abbrev pub OneStep : (ℕ → Transfer → Type 0) → Type 0
OneStep P = (x x' : ℕ) (u u' : Transfer) → P x u → P x' u' → (x ≡ x') × (u ≡ u')

abbrev pub OneStart : Type 0
OneStart = (m n k : ℕ) → OneStep (Start m n k)

abbrev pub OneLump : Type 0
OneLump = (t : Transfer) (bs : List ℕ) → OneStep (Lump t bs)

abbrev pub OneFinish : Type 0
OneFinish = (m n k taken : ℕ) (bs out : List ℕ) → One (FinishExactly m n k taken bs out)

abbrev pub OneMissing : Type 0
OneMissing = (m n k taken : ℕ) (a a' : MissingAnswer) → MissingExactly m n k taken a → MissingExactly m n k taken a' → a ≡ a'

-- ---- nor one that keeps the demands alone

abbrev pub OneStartByDemands : Type 0
OneStartByDemands = (m n k : ℕ) → OneStep (StartDemands m n k)

abbrev pub OneLumpByDemands : Type 0
OneLumpByDemands = (t : Transfer) (bs : List ℕ) → OneStep (LumpDemands t bs)

abbrev pub OneFinishByDemands : Type 0
OneFinishByDemands = (m n k taken : ℕ) (bs out : List ℕ) → One (FinishDemands m n k taken bs out)

abbrev pub OneMissingByDemands : Type 0
OneMissingByDemands = (m n k taken : ℕ) (a a' : MissingAnswer) → MissingDemands m n k taken a → MissingDemands m n k taken a' → a ≡ a'

-- ---- the lowest number that applies is the answer, but for a finish, which has an order of its own

abbrev pub StartLowest : Type 0
StartLowest = (m n k x : ℕ) (u : Transfer) → StartDemands m n k x u → Lowest (Applies (start_refusals m n k)) x

abbrev pub LumpLowest : Type 0
LumpLowest = (t : Transfer) (bs : List ℕ) (x : ℕ) (u : Transfer) → LumpDemands t bs x u → Lowest (Applies (lump_refusals t (length bs))) x

abbrev pub MissingLowest : Type 0
MissingLowest = (m n k taken : ℕ) (a : MissingAnswer) → MissingDemands m n k taken a → Lowest (Applies (missing_refusals m n k taken)) a.number

-- ---- what does not count

-- of a finish's output only the length
abbrev pub FinishMeasured : Type 0
FinishMeasured = (m n k taken : ℕ) (bs : List ℕ) → Measured (λ a. a.number) (Finish m n k taken bs)
