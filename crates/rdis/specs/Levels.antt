-- Levels and counters: what a level takes, and how the levels end. Assumes nothing.
use Rattle.std.specs.Prelude.{ℕ, zero, suc, ◌+◌, Bool, true, not, cond, ◌&&◌}
use Rattle.bits.specs.Bits.{num, some, has, word}
use Rattle.rdis.specs.Block.{Block, faulty}

-- a set of rows and a set of columns, a bit for each. The subgrid is where they cross
pub record Subgrid : Type 0 where
  pub rows : ℕ
  pub columns : ℕ

-- all rows and all columns
unfoldable pub whole : Block → Subgrid
whole b = record { rows = word b.rows (λ _. true); columns = word b.columns (λ _. true) }

-- a line (row or column) of the set `own` that passes the test with one of the n lines across that are of the set `other`
unfoldable pub takes : ℕ → ℕ → ℕ → (ℕ → ℕ → Bool) → ℕ → Bool
takes n own other test i = has own i && some n (λ j. has other j && test i j)

-- in the sense w: a row of the subgrid that holds a wrong cell of it, and a column that does
abbrev pub takes_row : Block → Bool → Subgrid → ℕ → Bool
takes_row b w s = takes b.columns s.rows s.columns (λ i j. faulty b w i j)

abbrev pub takes_column : Block → Bool → Subgrid → ℕ → Bool
takes_column b w s = takes b.rows s.columns s.rows (λ j i. faulty b w i j)

-- what a level takes of a subgrid in the sense w
unfoldable pub taken : Block → Bool → Subgrid → Subgrid
taken b w s = record { rows = word b.rows (takes_row b w s); columns = word b.columns (takes_column b w s) }

-- the subgrid holds a cell that is wrong in the sense w
unfoldable pub left : Block → Bool → Subgrid → Bool
left b w s = some b.rows (takes_row b w s)

-- how the levels end: the faults masked, with the levels used, the counter of each row and the counter of each column; or not
pub data Outcome : Type 0 where
  masked : ℕ → (ℕ → ℕ) → (ℕ → ℕ) → Outcome
  unmaskable : Outcome

-- no level
abbrev pub none : Outcome
none = masked 0 (λ _. 0) (λ _. 0)

-- a level that took t, and those inside it
abbrev pub more : Subgrid → Outcome → Outcome
more t (masked l r c) = masked (suc l) (λ i. num (has t.rows i) + r i) (λ j. num (has t.columns j) + c j)
more t unmaskable = unmaskable

-- at most k levels over a subgrid, the first in the sense w: each goes on inside what it took, in the other sense and with one level less
unfoldable pub levels : Block → ℕ → Bool → Subgrid → Outcome
levels b zero w s = cond (left b w s) unmaskable none
levels b (suc k) w s = cond (left b w s) (more (taken b w s) (levels b k (not w) (taken b w s))) none

-- the plan of a write with k levels
unfoldable pub plan : Block → ℕ → Outcome
plan b k = levels b k true (whole b)
