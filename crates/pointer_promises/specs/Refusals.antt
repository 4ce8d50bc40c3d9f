-- When each numbered refusal applies, said of the arguments bit by bit and not by the tests that a number is computed from. Entries are counted
-- from 0, so bit k of entry e is bit 1 + 10 e + k of the metadata. Assumes nothing.
use Rattle.std.specs.Prelude.{ℕ, ◌+◌, ◌*◌, ◌<◌, ◌≤◌, ◌≡◌, true, false, not, List, [], ◌∷◌, ◌⊎◌, length}
use Rattle.bits.specs.Bits.{has, at}
use Rattle.bits.specs.First.{Refusal, ◌when◌}

-- ---- n and the lengths

-- n lies in its range
abbrev pub InRange : ℕ → Type 0
InRange n = (1 ≤ n) × (n ≤ 10)

-- so many bytes hold 1 + 10 n bits, and one byte less would not
abbrev pub Fewest : ℕ → ℕ → Type 0
Fewest n bytes = (1 + 10 * n ≤ 8 * bytes) × (8 * bytes < 1 + 10 * n + 8)

-- every buffer that a read is lent is as long as it should be
pub record ReadLengths (n cells metadata out : ℕ) : Type 0 where
  pub cell_bytes : cells ≡ 64
  pub metadata_bytes : Fewest n metadata
  pub out_bytes : out ≡ 64

-- and every one that a write is lent
pub record WriteLengths (n wanted mask values cells metadata : ℕ) : Type 0 where
  pub data_bytes : wanted ≡ 64
  pub mask_bytes : mask ≡ 64
  pub value_bytes : values ≡ 64
  pub cell_bytes : cells ≡ 64
  pub metadata_bytes : Fewest n metadata

-- ---- the metadata m

-- a bit after the last entry is 1
abbrev pub Spare : ℕ → List ℕ → Type 0
Spare n m = (p : ℕ) × (1 + 10 * n ≤ p) × (at m p ≡ true)

-- the full bit is 0, and the last entry, the one before place n, says in unary that a entries are active: a ones, then zeros; each entry between those and
-- the last is 0
pub record Partly (n : ℕ) (m : List ℕ) (a : ℕ) : Type 0 where
  pub not_full : at m 0 ≡ false
  pub fewer : a < n
  pub ones : (e k : ℕ) → e + 1 ≡ n → k < a → at m (1 + 10 * e + k) ≡ true
  pub zeros : (e k : ℕ) → e + 1 ≡ n → a ≤ k → k < 10 → at m (1 + 10 * e + k) ≡ false
  pub between : (e k : ℕ) → a ≤ e → e + 1 < n → k < 10 → at m (1 + 10 * e + k) ≡ false

-- a entries are active: all n where the full bit is 1, else as many as the last entry says
abbrev pub Active : ℕ → List ℕ → ℕ → Type 0
Active n m a = ((at m 0 ≡ true) × (a ≡ n)) ⊎ Partly n m a

-- the metadata says how many entries are active
abbrev pub WellFormed : ℕ → List ℕ → Type 0
WellFormed n m = (a : ℕ) × Active n m a

-- the nine pointer bits of entry e are those of p
abbrev pub Names : List ℕ → ℕ → ℕ → Type 0
Names m e p = (k : ℕ) → k < 9 → at m (1 + 10 * e + k) ≡ has p k

-- two different active entries name one position
pub record NamedTwice (n : ℕ) (m : List ℕ) : Type 0 where
  pub a : ℕ
  pub e : ℕ
  pub f : ℕ
  pub p : ℕ
  pub counted : Active n m a
  pub differ : e < f
  pub actives : f < a
  pub first : Names m e p
  pub second : Names m f p

-- ---- the entries that a write needs

-- the cell at p is stuck at the other value than the wanted one, and none of the a active entries names it
pub record Unserved (wanted mask values m : List ℕ) (a p : ℕ) : Type 0 where
  pub in_row : p < 512
  pub stuck : at mask p ≡ true
  pub other : at values p ≡ not (at wanted p)
  pub unnamed : (e : ℕ) → e < a → Names m e p → ⊥

-- a entries are active, u different positions are unserved, and these are together more than n
pub record NoneLeft (n : ℕ) (wanted mask values m : List ℕ) : Type 0 where
  pub a : ℕ
  pub u : ℕ
  pub position : ℕ → ℕ
  pub counted : Active n m a
  pub unserved : (i : ℕ) → i < u → Unserved wanted mask values m a (position i)
  pub rising : (i j : ℕ) → i < j → j < u → position i < position j
  pub exceed : n < a + u

-- ---- the refusals, in the order in which they are judged

-- those that a read and a write share, and then others. `Lengths` says that every lent buffer is as long as it should be
abbrev pub row_refusals : Type 0 → ℕ → List ℕ → List Refusal → List Refusal
row_refusals Lengths n m others =
    (1 when (InRange n → ⊥)) ∷ (2 when (Lengths → ⊥)) ∷ (3 when Spare n m) ∷ (4 when (WellFormed n m → ⊥)) ∷ (5 when NamedTwice n m) ∷ others

-- of a read: of the cells and the output only the lengths count
abbrev pub read_refusals : (n cells : ℕ) (m : List ℕ) (out : ℕ) → List Refusal
read_refusals n cells m out = row_refusals (ReadLengths n cells (length m) out) n m []

-- of a write: of the old cells only the length counts
abbrev pub write_refusals : ℕ → (wanted mask values : List ℕ) (cells : ℕ) (m : List ℕ) → List Refusal
write_refusals n wanted mask values cells m =
    row_refusals (WriteLengths n (length wanted) (length mask) (length values) cells (length m)) n m ((6 when NoneLeft n wanted mask values m) ∷ [])
