-- What is done with a call: how many bytes it takes, and the line that it puts. The line is the promised answer of that very call: its numbers and buffers
-- are in the bytes in the order of the table in docs/CALLS.md, and what the text shows is what the entry point promises of them. Assumes nothing.
use Rattle.std.specs.Prelude.{◌≡◌, List, [], ◌∷◌, ◌++◌, ℕ, length, get_or}
use Rattle.pointer_promises.specs.Promises as pointer
use Rattle.pointer_promises.specs.declared.ReadAnswer as pointer_answer
use Rattle.pointer_promises.specs.declared.WriteAnswer.{WriteAnswer}
use Rattle.grid_promises.specs.Promises as grid
use Rattle.grid_promises.specs.Calls.{block}
use Rattle.grid_promises.specs.Conversion.{Convert}
use Rattle.grid_promises.specs.declared.Answer.{Answer}
use Rattle.grid_promises.specs.declared.ReadAnswer.{ReadAnswer}
use Rattle.grid_promises.specs.declared.ConvertAnswer.{ConvertAnswer}
use Rattle.calls.specs.Scripts.{Scripted}
use Rattle.calls.specs.Format.{numbers_of, buffers_of, call_end}
use Rattle.wire.specs.Text.{Put}
use Rattle.calls.specs.Text.{bytes_text, words_text, line}

-- ---- lines

-- the counts of a plan's or a store's answer: L, F, the wrong and the right stuck cells
abbrev pub counts : Answer → List ℕ
counts a = a.levels ∷ a.faults ∷ a.wrong ∷ a.right ∷ []

-- the line of a call, but for its end, by its tag, its numbers and its buffers: an answer `a` that the entry point promises of them, with buffers as long as
-- before. Which number and buffer is which argument is in its last line but one, and what the line shows in the last.
pub data LineBy : ℕ → List ℕ → List (List ℕ) → List ℕ → Type 0 where
  pointer_write : {n : ℕ} {wanted mask values cells metadata cells' metadata' : List ℕ} {a : WriteAnswer}
      → pointer.Write n wanted mask values cells metadata a cells' metadata' → length cells' ≡ length cells → length metadata' ≡ length metadata
      → LineBy 1 (n ∷ []) (wanted ∷ mask ∷ values ∷ cells ∷ metadata ∷ [])
      (line a.number (a.active ∷ a.new ∷ []) (bytes_text cells' ∷ bytes_text metadata' ∷ []))
  pointer_read : {n : ℕ} {cells metadata out out' : List ℕ} {a : pointer_answer.ReadAnswer}
      → pointer.Read n cells metadata out a out' → length out' ≡ length out
      → LineBy 2 (n ∷ []) (cells ∷ metadata ∷ out ∷ [])
      (line a.number [] (bytes_text out' ∷ []))
  grid_plan : {rows columns k : ℕ} {wanted mask values counters counters' : List ℕ} {a : Answer}
      → grid.Plan (block rows columns wanted mask values) k counters a counters' → length counters' ≡ length counters
      → LineBy 3 (rows ∷ columns ∷ k ∷ []) (wanted ∷ mask ∷ values ∷ counters ∷ [])
      (line a.number (counts a) (bytes_text counters' ∷ []))
  grid_read : {rows columns k : ℕ} {cells counters out out' : List ℕ} {a : ReadAnswer}
      → grid.Read rows columns k cells counters out a out' → length out' ≡ length out
      → LineBy 4 (rows ∷ columns ∷ k ∷ []) (cells ∷ counters ∷ out ∷ [])
      (line a.number (a.index ∷ []) (words_text out' ∷ []))
  grid_store : {rows columns k : ℕ} {wanted mask values counters cells cells' : List ℕ} {a : Answer}
      → grid.Store (block rows columns wanted mask values) k counters cells a cells' → length cells' ≡ length cells
      → LineBy 5 (rows ∷ columns ∷ k ∷ []) (wanted ∷ mask ∷ values ∷ counters ∷ cells ∷ [])
      (line a.number (counts a ++ (a.index ∷ [])) (words_text cells' ∷ []))
  grid_convert : {rows columns k target : ℕ} {counters out out' : List ℕ} {a : ConvertAnswer}
      → Convert rows columns k target counters out a out' → length out' ≡ length out
      → LineBy 6 (rows ∷ columns ∷ k ∷ target ∷ []) (counters ∷ out ∷ [])
      (line a.number (a.index ∷ []) (bytes_text out' ∷ []))
  transfer : {rows columns k : ℕ} {bytes script out out' numbers : List ℕ} {a : ReadAnswer}
      → Scripted rows columns k bytes script out a out' numbers
      → LineBy 7 (rows ∷ columns ∷ k ∷ []) (bytes ∷ script ∷ out ∷ [])
      (line a.number (a.index ∷ []) (words_text out' ∷ bytes_text numbers ∷ []))

-- the same of a call with this tag at the front of the bytes
abbrev pub LineAt : List ℕ → ℕ → List ℕ → Type 0
LineAt bs tag = LineBy tag (numbers_of bs tag) (buffers_of bs tag)

-- and of the call at the front, whatever it is, with the end of the line
pub data LineOf (bs : List ℕ) : List ℕ → Type 0 where
  ended : {text : List ℕ} → LineAt bs (get_or bs 0 0) text → LineOf bs (text ++ (10 ∷ []))

-- ---- what is done

-- a text was put that is such a line
pub record PutLine (Line : List ℕ → Type 0) (before : List ℕ) (p : ℕ) (after : List ℕ) (q : ℕ) : Type 0 where
  pub text : List ℕ
  pub line : Line text
  pub put : Put text before p after q

-- the call at the front of the bytes takes its bytes and puts its line; what is none takes no byte and puts nothing
pub record Printed (bs : List ℕ) (taken : ℕ) (before : List ℕ) (p : ℕ) (after : List ℕ) (q : ℕ) : Type 0 where
  pub takes : taken ≡ call_end bs
  pub none : taken ≡ 0 → (q ≡ p) × (after ≡ before)
  pub made : (taken ≡ 0 → ⊥) → PutLine (LineOf bs) before p after q
