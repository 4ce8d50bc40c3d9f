-- What the private steps of a store and a read say. Nobody who reads the promises needs this page. Assumes nothing.
use Rattle.std.specs.Prelude.{ℕ, ◌+◌, ◌≡◌, Bool, true, false, not, ◌&&◌, eqb, Result, IfOk, List, length}
use Rattle.std.specs.Bool.{xor}
use Rattle.bits.specs.Bits.{some, most}
use Rattle.rdis.specs.Block.{bit}
use Rattle.rdis.specs.Packing.{width, bytes_for, counter}
use Rattle.grid_promises.specs.Calls.{in_range, past}
use Rattle.grid_promises.specs.Promises.{Read}
use Rattle.grid_promises.specs.Conversion.{Convert}
use Rattle.refusals.specs.Numbers.{number_of, index_of}
use Rattle.refusals.specs.declared.Refusal.{Refusal}
use Rattle.grid_levels.specs.Steps.{PlanSized}

-- numbers in range, buffers as long as they should be, and no bit past the last column
pub record ShowSized (n k : ℕ) (cells counters out : List ℕ) : Type 0 where
  pub ranges : in_range (length cells) n k ≡ true
  pub sizes : length counters ≡ bytes_for (width k) (length cells + n)
  pub room : length out ≡ length cells
  pub inside : past n cells ≡ false

-- those of a store
pub record StoreSized (n k : ℕ) (d counters cells : List ℕ) : Type 0 where
  pub planned : PlanSized n k d counters
  pub room : length cells ≡ length d

-- what a read promises, as a number and an index
abbrev pub Shown : ℕ → ℕ → ℕ → List ℕ → List ℕ → List ℕ → Result ℕ Refusal → List ℕ → Type 0
Shown m n k cells counters out s after = Read m n k cells counters out (record { number = number_of s; index = index_of s }) after

-- the same, and the greatest counter where all K pairs of sets were looked at
pub record Shows (m n k upto : ℕ) (cells counters out : List ℕ) (s : Result ℕ Refusal) (after : List ℕ) : Type 0 where
  pub reads : Shown m n k cells counters out s after
  pub greatest : upto ≡ k → IfOk s (λ l. l ≡ most (m + n) (counter (width k) counters))

-- what a conversion promises, as a number and an index
abbrev pub Converts : ℕ → ℕ → ℕ → ℕ → List ℕ → List ℕ → Result (Unit {0}) Refusal → List ℕ → Type 0
Converts m n k k' counters out c after = Convert m n k k' counters out (record { number = number_of c; index = index_of c }) after

-- one of two sets has a line
abbrev pub has_line : ℕ × ℕ → Bool
has_line p = not (eqb p.0 0 && eqb p.1 0)

-- some cell (i, j) is stuck at another bit than that of the words x
unfoldable pub any_differs : List ℕ → List ℕ → List ℕ → Bool
any_differs x mask values = some 64 (λ j. some (length x) (λ i. bit mask i j && xor (bit x i j) (bit values i j)))
