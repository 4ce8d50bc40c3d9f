-- The conversion of counters from K to an equal or a larger one, the target: what it answers, when it refuses, what is demanded of it and promised, and what is
-- proved of that. m are the rows, n the columns, k is K and k' the target. Assumes nothing.
use Rattle.std.specs.Prelude.{ℕ, ◌+◌, ◌<◌, ◌≤◌, ◌≡◌, Bool, not, cond, ◌&&◌, List, [], ◌∷◌, leb, length}
use Rattle.bits.specs.Lowest.{Lowest}
use Rattle.bits.specs.First.{Refusal, ◌when◌, First, Applies}
use Rattle.bits.specs.Ends.{Alike, One, Measured}
use Rattle.rdis.specs.Block.{Block}
use Rattle.rdis.specs.Packing.{width, bytes_for, packed, unpacked, above, spare_clear}
use Rattle.grid_promises.specs.Calls.{in_range, counters_sized, bad_index}
use Rattle.grid_promises.specs.Refusals.{InRange, Spare, Held, Above}
use Rattle.grid_promises.specs.Demands.{Names, WellFormed, ReadDemands, PlanDemands, StoreDemands}
use Rattle.grid_promises.specs.Promises.{Read}
use Rattle.grid_promises.specs.declared.ConvertAnswer.{ConvertAnswer}
use Rattle.grid_promises.specs.declared.Answer.{Answer}

-- ---- the number: of the output only the length counts

-- refusal 1 does not apply: the block is in range at K and at the target, which is no smaller
unfoldable pub convert_in_range : ℕ → ℕ → ℕ → ℕ → Bool
convert_in_range m n k k' = (in_range m n k && in_range m n k') && leb k k'

-- refusal 2 does not apply: the counters have their length at K, the output its own at the target
unfoldable pub convert_sized : ℕ → ℕ → ℕ → ℕ → ℕ → ℕ → Bool
convert_sized m n k k' counters out = counters_sized m n k counters && counters_sized m n k' out

unfoldable pub convert_number : ℕ → ℕ → ℕ → ℕ → List ℕ → ℕ → ℕ
convert_number m n k k' counters out =
    cond (not (convert_in_range m n k k')) 1
    (cond (not (convert_sized m n k k' (length counters) out)) 2
    (cond (not (spare_clear (width k) (m + n) counters)) 3 (cond (above k (m + n) counters) 4 0)))

-- ---- when each refusal applies

pub record ConvertInRange (m n k k' : ℕ) : Type 0 where
  pub before : InRange m n k
  pub after : InRange m n k'
  pub larger : k ≤ k'

pub record ConvertLengths (m n k k' counters out : ℕ) : Type 0 where
  pub counter_bytes : counters ≡ bytes_for (width k) (m + n)
  pub out_bytes : out ≡ bytes_for (width k') (m + n)

-- the refusals in the order in which they are judged
abbrev pub convert_refusals : (m n k k' : ℕ) (counters : List ℕ) (out : ℕ) → List Refusal
convert_refusals m n k k' counters out =
    (1 when (ConvertInRange m n k k' → ⊥)) ∷ (2 when (ConvertLengths m n k k' (length counters) out → ⊥)) ∷ (3 when Spare (width k) (m + n) counters)
    ∷ (4 when Above k (m + n) counters) ∷ []

-- ---- what is demanded: lent `out`, which holds `after` at the end

pub record ConvertDemands (m n k k' : ℕ) (counters out : List ℕ) (answer : ConvertAnswer) (after : List ℕ) : Type 0 where
  -- the first refusal that applies, or 0 where none does
  pub first : First (convert_refusals m n k k' counters (length out)) answer.number
  -- with refusal 4 which counter is above K, as a read
  pub names : Names k (m + n) counters answer.number answer.index
  -- a refusal leaves the output as it was
  pub untouched : 0 < answer.number → after ≡ out
  -- accepted: as many bytes as the counters need at the target, and no spare bit is 1
  pub well_formed : answer.number ≡ 0 → WellFormed (width k') (m + n) after
  -- each counter by its bits: what they made at K they make at the target
  pub kept : answer.number ≡ 0 → (t x : ℕ) → t < m + n → Held (width k) counters t x → Held (width k') after t x

-- ---- what is promised

pub record ConvertExactly (m n k k' : ℕ) (counters out : List ℕ) (answer : ConvertAnswer) (after : List ℕ) : Type 0 where
  -- the number, computed
  pub number : answer.number ≡ convert_number m n k k' counters (length out)
  -- the index that goes with it
  pub index_is : answer.index ≡ bad_index k (m + n) counters answer.number
  -- a refusal leaves the output as it was
  pub untouched : 0 < answer.number → after ≡ out
  -- accepted: the bytes at the target of the counters that the bytes hold at K
  pub bytes_are : answer.number ≡ 0 → after ≡ packed (width k') (unpacked (width k) (m + n) counters)

-- reads of any cells into any output, at K with the old counters and at the target with the new ones, end the same
abbrev pub ReadsSame : ℕ → ℕ → ℕ → ℕ → List ℕ → List ℕ → Type 0
ReadsSame m n k k' counters after = (cells out : List ℕ) → Alike (Read m n k cells counters out) (Read m n k' cells after out)

pub record Convert (m n k k' : ℕ) (counters out : List ℕ) (answer : ConvertAnswer) (after : List ℕ) : Type 0 where
  pub exactly : ConvertExactly m n k k' counters out answer after
  pub demands : ConvertDemands m n k k' counters out answer after
  -- an equal target gives the same bytes
  pub equal_target : answer.number ≡ 0 → k ≡ k' → after ≡ counters
  -- every reading stays what it was
  pub reads_same : answer.number ≡ 0 → ReadsSame m n k k' counters after

-- ---- no second answer: by the exact part, and by the demands alone

abbrev pub OneConvert : Type 0
OneConvert = (m n k k' : ℕ) (counters out : List ℕ) → One (ConvertExactly m n k k' counters out)

abbrev pub OneConvertByDemands : Type 0
OneConvertByDemands = (m n k k' : ℕ) (counters out : List ℕ) → One (ConvertDemands m n k k' counters out)

-- the lowest number that applies is the answer, or 0 where none does
abbrev pub ConvertLowest : Type 0
ConvertLowest =
    (m n k k' : ℕ) (counters out : List ℕ) (a : ConvertAnswer) (after : List ℕ)
    → ConvertDemands m n k k' counters out a after → Lowest (Applies (convert_refusals m n k k' counters (length out))) a.number

-- a smaller target is refusal 1, whatever else holds
abbrev pub SmallerRefused : Type 0
SmallerRefused =
    (m n k k' : ℕ) (counters out : List ℕ) (a : ConvertAnswer) (after : List ℕ) → k' < k → ConvertDemands m n k k' counters out a after → a.number ≡ 1

-- the output has as many bytes as before
abbrev pub OutputKeepsLength : Type 0
OutputKeepsLength = (m n k k' : ℕ) (counters out : List ℕ) (a : ConvertAnswer) (after : List ℕ) → ConvertDemands m n k k' counters out a after → length after ≡ length out

-- of the output only the length counts
abbrev pub ConvertMeasured : Type 0
ConvertMeasured = (m n k k' : ℕ) (counters : List ℕ) → Measured (λ a. a.number) (Convert m n k k' counters)

-- ---- readings, stores and further conversions, by the demands alone

-- an accepted conversion leaves every reading as it was
abbrev pub ReadsKept : Type 0
ReadsKept =
    (m n k k' : ℕ) (counters out after : List ℕ) (a : ConvertAnswer) → ConvertDemands m n k k' counters out a after → a.number ≡ 0
    → (cells o : List ℕ) → Alike (ReadDemands m n k cells counters o) (ReadDemands m n k' cells after o)

-- and every store: the same number, the same counts and the same cells
abbrev pub StoresKept : Type 0
StoresKept =
    (b : Block) (k k' : ℕ) (counters out after : List ℕ) (a : ConvertAnswer) → ConvertDemands b.rows b.columns k k' counters out a after → a.number ≡ 0
    → (cells : List ℕ) → Alike (StoreDemands b k counters cells) (StoreDemands b k' after cells)

-- an accepted conversion to k', and one from there to k'', leave what one to k'' leaves
abbrev pub ConvertTwice : Type 0
ConvertTwice =
    (m n k k' k'' : ℕ) (counters mid after out : List ℕ) (a c c' : ConvertAnswer) (x x' : List ℕ) → k' ≤ k'' → ConvertDemands m n k k' counters mid a after → a.number ≡ 0
    → ConvertDemands m n k' k'' after out c x → ConvertDemands m n k k'' counters out c' x' → (c ≡ c') × (x ≡ x')

-- ---- a plan, then a conversion

-- what an accepted plan gave at K, converted to the target k': it is accepted where the target is in range and the output is as long as it should be, and leaves
-- the counters that a plan of the same block gives at the target, which answers the same
abbrev pub PlanThenConvert : Type 0
PlanThenConvert =
    (b : Block) (k k' : ℕ) (old counters old' counters' out after : List ℕ) (p p' : Answer) (a : ConvertAnswer)
    → k ≤ k' → k' ≤ 7 → length old' ≡ bytes_for (width k') (b.rows + b.columns) → length out ≡ bytes_for (width k') (b.rows + b.columns)
    → PlanDemands b k old p counters → p.number ≡ 0 → PlanDemands b k' old' p' counters' → ConvertDemands b.rows b.columns k k' counters out a after
    → (a.number ≡ 0) × (p' ≡ p) × (after ≡ counters')
