-- What the private steps of a plan say, and the answers of a plan and a store. Nobody who reads the promises needs this page. Assumes nothing.
use Rattle.std.specs.Prelude.{ℕ, ◌+◌, ◌-◌, ◌^◌, ◌<◌, ◌≤◌, ◌≡◌, Bool, true, not, cond, ◌&&◌, Option, Some, None, Result, Ok, Err, List, length}
use Rattle.std.specs.Bool.{xor}
use Rattle.bits.specs.Bits.{has, Below}
use Rattle.rdis.specs.Block.{Block, faults}
use Rattle.rdis.specs.Levels.{Subgrid, whole, taken, Outcome, masked, unmaskable, levels}
use Rattle.rdis.specs.Packing.{width, bytes_for}
use Rattle.grid_sets.specs.Sets.{times}
use Rattle.grid_promises.specs.Calls.{block, in_range}
use Rattle.grid_promises.specs.Demands.{CountsNothing, CountsKinds}
use Rattle.grid_promises.specs.declared.Answer.{Answer}
use Rattle.refusals.specs.declared.Refusal.{Refusal}
use Rattle.refusals.specs.Numbers.{number, index}
use Rattle.grid_levels.specs.declared.levels.FirstLevel.{FirstLevel}
use Rattle.grid_levels.specs.declared.levels.Sub.{Sub}

-- the block of three slices of words, as one of n columns
abbrev pub block_of : ℕ → List ℕ → List ℕ → List ℕ → Block
block_of n d mask values = block (length d) n d mask values

-- numbers in range, and counters as long as they should be
pub record PlanSized (n k : ℕ) (d counters : List ℕ) : Type 0 where
  pub ranges : in_range (length d) n k ≡ true
  pub sizes : length counters ≡ bytes_for (width k) (length d + n)

-- x has the stuck cells of a row that are wrong for the data, or (with false) the right ones
abbrev pub IsKind : Bool → ℕ → ℕ → ℕ → ℕ → Type 0
IsKind wrong want mask value x = (j : ℕ) → has x j ≡ (has mask j && cond wrong (xor (has want j) (has value j)) (not (xor (has want j) (has value j))))

abbrev pub subgrid : Sub → Subgrid
subgrid s = record { rows = s.rows; columns = s.columns }

-- t is what a level takes of the subgrid s in the sense w, whatever number of columns holds s
pub record Takes (d mask values : List ℕ) (s : Subgrid) (w : Bool) (t : Subgrid) : Type 0 where
  pub few : t.rows < 2 ^ length d
  pub taken· : (n : ℕ) → s.columns < 2 ^ n → t ≡ taken (block_of n d mask values) w s

-- of l levels, at most k, the sets are at the places from `at` on, before the place u, and raise what the places before them count by the counters of an outcome
pub record Counts (k at : ℕ) (rows₀ columns₀ rows' columns' : List ℕ) (u l : ℕ) (r c : ℕ → ℕ) : Type 0 where
  pub few : l ≤ k
  pub used : u ≡ at + l
  pub rows : (i : ℕ) → times rows' u i ≡ times rows₀ at i + r i
  pub columns : (j : ℕ) → times columns' u j ≡ times columns₀ at j + c j

-- an outcome is the one that is answered
abbrev pub Follows : ℕ → ℕ → List ℕ → List ℕ → List ℕ → List ℕ → Option ℕ → Outcome → Type 0
Follows k at rows₀ columns₀ rows' columns' (Some u) (masked l r c) = Counts k at rows₀ columns₀ rows' columns' u l r c
Follows k at rows₀ columns₀ rows' columns' None unmaskable = Unit {0}
Follows k at rows₀ columns₀ rows' columns' (Some u) unmaskable = ⊥
Follows k at rows₀ columns₀ rows' columns' None (masked l r c) = ⊥

-- levels, where k are allowed, of which the first takes t in the sense w: for every subgrid s, of any number of columns, of which t is what is taken
pub record Planned (d mask values : List ℕ) (t : Subgrid) (w : Bool) (k at : ℕ) (rows₀ columns₀ rows' columns' : List ℕ) (u : Option ℕ) : Type 0 where
  pub follows : (n : ℕ) (s : Subgrid) → t ≡ taken (block_of n d mask values) w s → Follows k at rows₀ columns₀ rows' columns' u (levels (block_of n d mask values) k w s)

-- ---- the answers of a plan and a store

-- it refuses by the number x, with the index t, and counts nothing
pub record Refuses (x t : ℕ) (a : Answer) : Type 0 where
  pub number : a.number ≡ x
  pub index : a.index ≡ t
  pub counts : CountsNothing a

-- it accepts with l levels, and counts the ones in the mask's words and the cells of each kind, whatever number of columns holds the mask
pub record Accepts (d mask values : List ℕ) (l : ℕ) (a : Answer) : Type 0 where
  pub number : a.number ≡ 0
  pub index : a.index ≡ 0
  pub levels : a.levels ≡ l
  pub faults_are : a.faults ≡ faults (length d) mask
  pub kinds_are : (n : ℕ) → Below (2 ^ n) mask → CountsKinds (block_of n d mask values) a

-- the answer that accepts with l levels, where f cells are stuck and w of them wrong
abbrev pub answer_of : ℕ → ℕ → ℕ → Answer
answer_of l f w = record { number = 0; levels = l; faults = f; wrong = w; right = f - w; index = 0 }

-- the answer of a call that was accepted with an answer, or refused
abbrev pub answered : Result Answer Refusal → Answer
answered (Ok a) = a
answered (Err e) = record { number = number e; levels = 0; faults = 0; wrong = 0; right = 0; index = index e }

-- what the first pass over the stuck cells finds: the counts of an answer, and what the first level takes, whatever number of columns holds the mask
pub record Begins (d mask values : List ℕ) (f : FirstLevel) : Type 0 where
  pub few : f.takes.rows < 2 ^ length d
  pub least : f.wrong ≤ f.faults
  pub accepts : (l : ℕ) → Accepts d mask values l (answer_of l f.faults f.wrong)
  pub takes· : (n : ℕ) → Below (2 ^ n) mask → subgrid f.takes ≡ taken (block_of n d mask values) true (whole (block_of n d mask values))
