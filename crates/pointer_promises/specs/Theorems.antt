-- What is proved of the promises themselves, of whatever code keeps them, and of the metadata. Assumes nothing.
use Rattle.std.specs.Prelude.{ℕ, ◌≤◌, ◌<◌, ◌≡◌, true, false, List, length, replicate}
use Rattle.bits.specs.Bits.{at, Below}
use Rattle.bits.specs.Lowest.{Lowest}
use Rattle.bits.specs.First.{Applies}
use Rattle.bits.specs.Ends.{One, Measured}
use Rattle.pointer_promises.specs.Pointer.{size, active, held, repeats, encode, verdict}
use Rattle.pointer_promises.specs.Refusals.{InRange, read_refusals, write_refusals}
use Rattle.pointer_promises.specs.Promises.{Read, Write}
use Rattle.pointer_promises.specs.declared.ReadAnswer.{ReadAnswer}
use Rattle.pointer_promises.specs.declared.WriteAnswer.{WriteAnswer}

-- ---- no second answer: two calls with the same arguments end the same

abbrev pub ReadUnique : Type 0
ReadUnique = (n : ℕ) (cells metadata out : List ℕ) → One (Read n cells metadata out)

-- a write that ends as P allows and one that ends as Q allows end the same: with one answer, the same cells and the same metadata
abbrev pub WritesAlike : (WriteAnswer → List ℕ → List ℕ → Type 0) → (WriteAnswer → List ℕ → List ℕ → Type 0) → Type 0
WritesAlike P Q =
    (a a' : WriteAnswer) (cells cells' metadata metadata' : List ℕ) → P a cells metadata → Q a' cells' metadata'
    → (a ≡ a') × (cells ≡ cells') × (metadata ≡ metadata')

abbrev pub WriteUnique : Type 0
WriteUnique =
    (n : ℕ) (wanted mask values cells metadata : List ℕ) → WritesAlike (Write n wanted mask values cells metadata) (Write n wanted mask values cells metadata)

-- ---- and there is one: for every argument some end keeps the promise, of a write where its data are bytes

abbrev pub ReadExists : Type 0
ReadExists = (n : ℕ) (cells metadata out : List ℕ) → (a : ReadAnswer) × (out' : List ℕ) × Read n cells metadata out a out'

abbrev pub WriteExists : Type 0
WriteExists =
    (n : ℕ) (wanted mask values cells metadata : List ℕ) → Below 256 wanted
    → (a : WriteAnswer) × (cells' : List ℕ) × (metadata' : List ℕ) × Write n wanted mask values cells metadata a cells' metadata'

-- ---- a write, then a read

-- the cells and metadata of an accepted write, read into any output of the right length, give the data
abbrev pub WriteThenRead : Type 0
WriteThenRead =
    (n : ℕ) (wanted mask values cells metadata cells' metadata' out out' : List ℕ) (w : WriteAnswer) (r : ReadAnswer)
    → Write n wanted mask values cells metadata w cells' metadata' → w.number ≡ 0 → length out ≡ 64 → Read n cells' metadata' out r out'
    → (r.number ≡ 0) × (out' ≡ wanted)

-- ---- the lowest number that applies is the answer, or 0 where none does

abbrev pub ReadLowest : Type 0
ReadLowest =
    (n : ℕ) (cells metadata out : List ℕ) (a : ReadAnswer) (out' : List ℕ) → Read n cells metadata out a out'
    → Lowest (Applies (read_refusals n (length cells) metadata (length out))) a.number

abbrev pub WriteLowest : Type 0
WriteLowest =
    (n : ℕ) (wanted mask values cells metadata : List ℕ) (a : WriteAnswer) (cells' metadata' : List ℕ)
    → Write n wanted mask values cells metadata a cells' metadata'
    → Lowest (Applies (write_refusals n wanted mask values (length cells) metadata)) a.number

-- ---- what does not count

-- of a read's output only the length: reads into others of that length answer the same and, if accepted, fill them the same
abbrev pub OutputMeasured : Type 0
OutputMeasured = (n : ℕ) (cells metadata : List ℕ) → Measured (λ a. a.number) (Read n cells metadata)

-- of a write's old cells only the length
abbrev pub OldMeasured : Type 0
OldMeasured =
    (n : ℕ) (wanted mask values metadata old old' : List ℕ) (a a' : WriteAnswer) (c c' m m' : List ℕ) → length old ≡ length old'
    → Write n wanted mask values old metadata a c m → Write n wanted mask values old' metadata a' c' m'
    → (a ≡ a') × (a.number ≡ 0 → c ≡ c') × (m ≡ m')

-- value bits at sound cells: writes whose values are as long, and agree at the stuck cells, end the same
abbrev pub SoundValues : Type 0
SoundValues =
    (n : ℕ) (wanted mask values values' cells metadata : List ℕ) → length values ≡ length values'
    → ((p : ℕ) → p < 512 → at mask p ≡ true → at values p ≡ at values' p)
    → WritesAlike (Write n wanted mask values cells metadata) (Write n wanted mask values' cells metadata)

-- ---- encoding and decoding are inverse

-- entries that fit into a row of n
pub record Fits (n : ℕ) (es : List ℕ) : Type 0 where
  pub range : InRange n
  pub few : length es ≤ n
  pub small : Below 1024 es

-- what was encoded, with no pointer twice, is decoded again, and nothing is wrong with it
abbrev pub DecodeEncode : Type 0
DecodeEncode = (n : ℕ) (es : List ℕ) → Fits n es → repeats es ≡ false → (verdict n (encode n es) ≡ 0) × (held n (encode n es) ≡ es)

-- what was decoded, with nothing wrong with it, is encoded again
abbrev pub EncodeDecode : Type 0
EncodeDecode = (n : ℕ) (m : List ℕ) → 1 ≤ n → length m ≡ size n → Below 256 m → verdict n m ≡ 0 → encode n (held n m) ≡ m

-- zeros are a fresh row: nothing is wrong with them, and no entry is active
abbrev pub FreshRow : Type 0
FreshRow = (n : ℕ) → InRange n → (verdict n (replicate (size n) 0) ≡ 0) × (active n (replicate (size n) 0) ≡ 0)
