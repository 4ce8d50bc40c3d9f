-- What is proved of the tables: by the definitions each call comes to its line, and whatever meets the promise of a call ends as its line says. (That the
-- calls do meet their promises is proved of their code, in the crates pointer, grid and fragments.) Assumes nothing.
use Rattle.std.specs.Prelude.{ℕ, ◌≡◌, List, [], ◌∷◌, map}
use Rattle.grid_promises.specs.Promises as grid
use Rattle.grid_promises.specs.Conversion.{Convert}
use Rattle.grid_promises.specs.declared.ReadAnswer as grid_read_answer
use Rattle.grid_promises.specs.declared.ConvertAnswer.{ConvertAnswer}
use Rattle.grid_promises.specs.declared.Answer as grid_answer
use Rattle.fragment_promises.specs.declared.Transfer.{Transfer}
use Rattle.fragment_promises.specs.Transfers.{standing_of}
use Rattle.fragment_promises.specs.Promises.{Start, Finishes}
use Rattle.fragment_promises.specs.Sequences.{Calls}
use Rattle.pointer_promises.specs.Pointer.{held, after, verdict}
use Rattle.pointer_promises.specs.Promises as pointer
use Rattle.pointer_promises.specs.declared.ReadAnswer.{ReadAnswer}
use Rattle.pointer_promises.specs.declared.WriteAnswer.{WriteAnswer}
use Rattle.cases.specs.Lines.{Line, Call, metadata, pointer_read, pointer_write, grid_read, grid_plan, grid_store, grid_convert, transfer, by_number, counters_in, line}
use Rattle.cases.specs.Table.{Row, table}
use Rattle.cases.specs.Edges.{row_edges, read_edges, plan_edges, store_edges}
use Rattle.cases.specs.IndexEdges.{index_edges}
use Rattle.cases.specs.LevelEdges.{level_edges}
use Rattle.cases.specs.ConvertEdges.{convert_edges}
use Rattle.cases.specs.FragmentEdges.{fragment_edges}

-- each of these calls comes to its line
abbrev pub Computed : List Row → Type 0
Computed rows = map (λ r. line r.call) rows ≡ map (λ r. r.expected) rows

abbrev pub EveryCase : Type 0
EveryCase = Computed table

abbrev pub EveryEdge : Type 0
EveryEdge = Computed row_edges × Computed read_edges × Computed plan_edges × Computed store_edges × Computed index_edges × Computed level_edges × Computed convert_edges
    × Computed fragment_edges

-- what a plan or a store answers: the number, the counts and the index
abbrev pub answered : grid_answer.Answer → List ℕ
answered a = a.number ∷ a.levels ∷ a.faults ∷ a.wrong ∷ a.right ∷ a.index ∷ []

-- every answer, with the buffers at the end, that meets the promise of a call is this line
abbrev pub Promised : Call → Line → Type 0
-- metadata is what an accepted write leaves: one after which these entries are active
Promised (metadata n es) l =
    (wanted mask values cells m : List ℕ) (answer : WriteAnswer) (cells' m' : List ℕ)
    → pointer.Write n wanted mask values cells m answer cells' m' → answer.number ≡ 0 → after wanted mask values (held n m) ≡ es
    → record { numbers = verdict n m' ∷ answer.active ∷ []; buffers = m' ∷ held n m' ∷ [] } ≡ l
Promised (pointer_read n cells m out) l =
    (answer : ReadAnswer) (out' : List ℕ) → pointer.Read n cells m out answer out' → record { numbers = answer.number ∷ []; buffers = out' ∷ [] } ≡ l
Promised (pointer_write n wanted mask values cells m) l =
    (answer : WriteAnswer) (cells' m' : List ℕ) → pointer.Write n wanted mask values cells m answer cells' m'
    → record { numbers = answer.number ∷ answer.active ∷ answer.new ∷ []; buffers = cells' ∷ m' ∷ [] } ≡ l
Promised (grid_read m n k cells counters out) l =
    (answer : grid_read_answer.ReadAnswer) (out' : List ℕ) → grid.Read m n k cells counters out answer out'
    → record { numbers = answer.number ∷ answer.index ∷ []; buffers = out' ∷ [] } ≡ l
-- where it is accepted, the counters that the bytes hold come last
Promised (grid_plan b k counters) l =
    (answer : grid_answer.Answer) (counters' : List ℕ) → grid.Plan b k counters answer counters'
    → record { numbers = answered answer; buffers = counters' ∷ by_number answer.number (counters_in b k counters' ∷ []) [] } ≡ l
Promised (grid_store b k counters cells) l =
    (answer : grid_answer.Answer) (cells' : List ℕ) → grid.Store b k counters cells answer cells'
    → record { numbers = answered answer; buffers = cells' ∷ [] } ≡ l
Promised (grid_convert m n k k' counters out) l =
    (answer : ConvertAnswer) (out' : List ℕ) → Convert m n k k' counters out answer out'
    → record { numbers = answer.number ∷ answer.index ∷ []; buffers = out' ∷ [] } ≡ l
-- after the number and the index: what the start answered, and what the record has noted in the end
Promised (transfer m n k calls out) l =
    (x : ℕ) (t u : Transfer) (answer : grid_read_answer.ReadAnswer) (out' : List ℕ) → Start m n k x t → Calls t calls u → Finishes u out answer out'
    → record { numbers = answer.number ∷ answer.index ∷ x ∷ standing_of u ∷ []; buffers = out' ∷ [] } ≡ l

-- each of these rows is promised
abbrev pub Every : List Row → Type 0
Every [] = Unit {0}
Every (r ∷ rs) = Promised r.call r.expected × Every rs

abbrev pub EveryPromise : Type 0
EveryPromise = Every table × Every row_edges × Every read_edges × Every plan_edges × Every store_edges × Every index_edges × Every level_edges × Every convert_edges
    × Every fragment_edges
