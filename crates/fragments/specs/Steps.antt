-- What the private steps of a finish say. Assumes nothing.
use Rattle.std.specs.Prelude.{ℕ, List}
use Rattle.grid_promises.specs.Promises.{Read}
use Rattle.grid_promises.specs.declared.ReadAnswer.{ReadAnswer}
use Rattle.fragment_promises.specs.Transfers.{cells_of, counters_of}

-- a block all of whose bytes are there is read: its cell words by its counters
abbrev pub ReadsWhole : ℕ → ℕ → ℕ → List ℕ → List ℕ → ReadAnswer → List ℕ → Type 0
ReadsWhole m n k bs = Read m n k (cells_of m n k bs) (counters_of m n k bs)
