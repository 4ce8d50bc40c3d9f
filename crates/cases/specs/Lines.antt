-- What a call comes to by the definitions, as a line: numbers, then lists of bytes and words. Assumes nothing.
use Rattle.std.specs.Prelude.{ℕ, zero, suc, ◌+◌, true, false, List, [], ◌∷◌, eqb, length, get_or}
use Rattle.bits.specs.Bits.{some, most, at, bytes}
use Rattle.rdis.specs.Block.{Block, faulty_cells, faults}
use Rattle.rdis.specs.Levels.{plan}
use Rattle.rdis.specs.Cells.{stored, reading}
use Rattle.rdis.specs.Packing.{width, in_order, packed, unpacked, counter, row_counter, column_counter}
use Rattle.grid_promises.specs.Calls.{read_number, plan_number, store_number, used, rows_of, columns_of, bad_index}
use Rattle.grid_promises.specs.Conversion.{convert_number}
use Rattle.fragment_promises.specs.declared.Transfer.{Transfer}
use Rattle.fragment_promises.specs.Transfers.{standing, standing_of, held, started, counters_of, cells_of, finish_number}
use Rattle.fragment_promises.specs.Sequences.{Event, run}
use Rattle.pointer_promises.specs.Pointer as pointer

-- a line: the number and the other figures of the answer, and the buffers afterwards
pub record Line : Type 0 where
  pub numbers : List ℕ
  pub buffers : List (List ℕ)

-- the 64 bytes of a row whose bits at these positions are 1
abbrev pub ones : List ℕ → List ℕ
ones ps = bytes 64 (λ p. some (length ps) (λ i. eqb p (get_or ps i 0)))

pub data Call : Type 0 where
  -- the metadata of a row of n entries, of which these are active
  metadata : ℕ → List ℕ → Call
  -- a read and a write of a row of n entries
  pointer_read : ℕ → (cells metadata out : List ℕ) → Call
  pointer_write : ℕ → (wanted mask values cells metadata : List ℕ) → Call
  -- a read of rows, columns and K; a plan of a block with K levels, and a store of it by counters
  grid_read : (m n k : ℕ) (cells counters out : List ℕ) → Call
  grid_plan : Block → ℕ → (counters : List ℕ) → Call
  grid_store : Block → ℕ → (counters cells : List ℕ) → Call
  -- a conversion of the counters of rows and columns from K to a target
  grid_convert : (m n k k' : ℕ) (counters out : List ℕ) → Call
  -- a transfer: a start with rows, columns and K, calls after it, and a finish
  transfer : (m n k : ℕ) (calls : List Event) (out : List ℕ) → Call

-- by the number: the first where it is 0, so where the call is accepted, else the second
abbrev pub by_number : {A : Type 0} → ℕ → A → A → A
by_number zero accepted refused = accepted
by_number (suc n) accepted refused = refused

-- the counters that bytes hold: those of the block's rows, then those of its columns
abbrev pub counters_in : Block → ℕ → List ℕ → List ℕ
counters_in b k bs = unpacked (width k) (b.rows + b.columns) bs

-- the numbers of an accepted plan or store of l levels: L, F, the wrong stuck cells and the right ones, and the index
abbrev pub counted : Block → ℕ → List ℕ
counted b l = 0 ∷ l ∷ faults b.rows b.mask ∷ faulty_cells b true ∷ faulty_cells b false ∷ 0 ∷ []

-- and of a refused one
abbrev pub uncounted : ℕ → ℕ → List ℕ
uncounted number index = number ∷ 0 ∷ 0 ∷ 0 ∷ 0 ∷ index ∷ []

-- those of a refused read or conversion, and of a refused store, with this number
abbrev pub read_refused : (m n k : ℕ) (counters : List ℕ) → ℕ → List ℕ
read_refused m n k counters number = number ∷ bad_index k (m + n) counters number ∷ []

abbrev pub store_refused : Block → ℕ → (counters : List ℕ) → ℕ → List ℕ
store_refused b k counters number = uncounted number (bad_index k (b.rows + b.columns) counters number)

-- the line of a finish of a record, after a start that answered `begun`: that, and what the record has noted, come after the number and the index
abbrev pub finish_of : Transfer → List ℕ → ℕ
finish_of t out = finish_number t.rows t.columns t.k t.taken (held t) (length out)

abbrev pub held_counters : Transfer → List ℕ
held_counters t = counters_of t.rows t.columns t.k (held t)

abbrev pub held_cells : Transfer → List ℕ
held_cells t = cells_of t.rows t.columns t.k (held t)

abbrev pub finished : ℕ → Transfer → List ℕ → Line
finished begun t out =
    by_number (finish_of t out)
    (record {
      numbers = 0 ∷ 0 ∷ begun ∷ standing_of t ∷ [];
      buffers = reading t.rows t.columns (row_counter (width t.k) (held_counters t)) (column_counter (width t.k) t.rows (held_counters t)) (held_cells t) ∷ [];
    })
    (record { numbers = finish_of t out ∷ bad_index t.k (t.rows + t.columns) (held_counters t) (finish_of t out) ∷ begun ∷ standing_of t ∷ []; buffers = out ∷ [] })

-- where it is refused, the counts are 0 and the buffers as they were
unfoldable pub line : Call → Line
line (metadata n es) =
    record {
      numbers = pointer.verdict n (pointer.encode n es) ∷ pointer.active n (pointer.encode n es) ∷ [];
      buffers = pointer.encode n es ∷ pointer.held n (pointer.encode n es) ∷ [];
    }
line (pointer_read n cells m out) =
    by_number (pointer.read_number n (length cells) m (length out))
    (record { numbers = 0 ∷ []; buffers = bytes 64 (λ p. pointer.shown (pointer.held n m) p (at cells p)) ∷ [] })
    (record { numbers = pointer.read_number n (length cells) m (length out) ∷ []; buffers = out ∷ [] })
line (pointer_write n wanted mask values cells m) =
    by_number (pointer.write_number n wanted mask values (length cells) m)
    (record {
      numbers = 0 ∷ pointer.active_after n wanted mask values m ∷ pointer.needed wanted mask values (pointer.held n m) ∷ [];
      buffers = bytes 64 (pointer.stored wanted mask values) ∷ pointer.encode n (pointer.after wanted mask values (pointer.held n m)) ∷ [];
    })
    (record { numbers = pointer.write_number n wanted mask values (length cells) m ∷ 0 ∷ 0 ∷ []; buffers = cells ∷ m ∷ [] })
line (grid_read m n k cells counters out) =
    by_number (read_number m n k cells counters (length out))
    (record { numbers = 0 ∷ 0 ∷ []; buffers = reading m n (row_counter (width k) counters) (column_counter (width k) m counters) cells ∷ [] })
    (record { numbers = read_refused m n k counters (read_number m n k cells counters (length out)); buffers = out ∷ [] })
line (grid_plan b k counters) =
    by_number (plan_number b k (length counters))
    (record {
      numbers = counted b (used (plan b k));
      buffers =
          packed (width k) (in_order b.rows b.columns (rows_of (plan b k)) (columns_of (plan b k)))
          ∷ counters_in b k (packed (width k) (in_order b.rows b.columns (rows_of (plan b k)) (columns_of (plan b k)))) ∷ [];
    })
    (record { numbers = uncounted (plan_number b k (length counters)) 0; buffers = counters ∷ [] })
line (grid_store b k counters cells) =
    by_number (store_number b k counters (length cells))
    (record {
      numbers = counted b (most (b.rows + b.columns) (counter (width k) counters));
      buffers = stored b (row_counter (width k) counters) (column_counter (width k) b.rows counters) ∷ [];
    })
    (record { numbers = store_refused b k counters (store_number b k counters (length cells)); buffers = cells ∷ [] })
line (grid_convert m n k k' counters out) =
    by_number (convert_number m n k k' counters (length out))
    (record { numbers = 0 ∷ 0 ∷ []; buffers = packed (width k') (unpacked (width k) (m + n) counters) ∷ [] })
    (record { numbers = read_refused m n k counters (convert_number m n k k' counters (length out)); buffers = out ∷ [] })
line (transfer m n k calls out) = finished (standing m n k 0) (run (started m n k) calls) out
