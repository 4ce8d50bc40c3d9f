-- Whatever meets the promise of a call is the call's line: the number decides which. Assumes nothing.
use Prim.Native.Nat.{ℕ, zero, suc, ◌+◌}
use mathlib.Core.Path.{◌≡◌, refl, sym, ap, ap₂, ◌∙◌}
use mathlib.Core.List.{List, [], ◌∷◌}
use mathlib.Core.Logic.{◌≢◌}
use native.Mathlib.Omega.{arith}
use Rattle.bits.proofs.TestLaws.{iff_stable}
use Rattle.bits.proofs.FirstLaws.{hit}
use Rattle.rdis.specs.Block.{Block, faults}
use Rattle.grid_promises.specs.Demands.{CountsNothing, CountsKinds}
use Rattle.grid_promises.specs.declared.Answer.{Answer}
use Rattle.grid_promises.specs.Calls.{bad_index}
use Rattle.grid_promises.specs.declared.ReadAnswer.{ReadAnswer}
use Rattle.fragment_promises.specs.declared.Transfer.{Transfer}
use Rattle.fragment_promises.specs.Transfers.{standing_of}
use Rattle.fragment_promises.specs.Promises.{Finishes}
use Rattle.fragment_promises.specs.Sequences.{Event, starts}
use Rattle.fragment_promises.proofs.SequenceLaws.{as_defined}
use Rattle.pointer_promises.specs.Pointer.{active, held, encode, verdict}
use Rattle.pointer_promises.specs.Refusals.{InRange}
use Rattle.pointer_promises.proofs.FormedLaws.{active_is}
use Rattle.pointer_promises.proofs.RefusalLaws.{range_iff}
use Rattle.cases.specs.Lines.{Line, Call, metadata, pointer_read, pointer_write, grid_read, grid_plan, grid_store, grid_convert, transfer, by_number, counters_in, counted, uncounted, read_refused, store_refused, held_counters, finished, line}
use Rattle.cases.specs.Statements.{answered, Promised}

-- an ending x with the number of its call is what the number says
by_number_lem : (answered computed : ℕ) (x accepted : Line) (refused : ℕ → Line) → answered ≡ computed → (answered ≡ 0 → x ≡ accepted) → (answered ≢ 0 → x ≡ refused answered)
    → x ≡ by_number computed accepted (refused computed)
by_number_lem answered zero x accepted refused e f g = f e
by_number_lem answered (suc n) x accepted refused e f g = g (λ z. omega arith) ∙ ap refused e

-- a refused plan has no second buffer
none : (answered : ℕ) (second : List (List ℕ)) → answered ≢ 0 → by_number answered second [] ≡ []
none zero second h = absurd (h refl)
none (suc n) second h = refl

promised_metadata : (n : ℕ) (es : List ℕ) → Promised (metadata n es) (line (metadata n es))
unfolding line
promised_metadata n es wanted mask values cells m answer cells' m' w z e =
    let range : InRange n = iff_stable _ (range_iff n) (λ q. omega (arith, z, hit w.first q)) in
    let bytes : m' ≡ encode n es = w.encodes z ∙ ap (encode n) e in
    let count : answer.active ≡ active n (encode n es) = sym (active_is n m' range answer.active (w.noted z)) ∙ ap (active n) bytes in
    λ i. record { numbers = verdict n (bytes i) ∷ count i ∷ []; buffers = bytes i ∷ held n (bytes i) ∷ [] }

promised_read : (n : ℕ) (cells m out : List ℕ) → Promised (pointer_read n cells m out) (line (pointer_read n cells m out))
unfolding line
promised_read n cells m out answer out' r =
    by_number_lem answer.number _ _ _ (λ x. record { numbers = x ∷ []; buffers = out ∷ [] }) r.number
    (λ z i. record { numbers = z i ∷ []; buffers = r.filled z i ∷ [] })
    (λ z i. record { numbers = answer.number ∷ []; buffers = r.refused z i ∷ [] })

promised_write : (n : ℕ) (wanted mask values cells m : List ℕ) → Promised (pointer_write n wanted mask values cells m) (line (pointer_write n wanted mask values cells m))
unfolding line
promised_write n wanted mask values cells m answer cells' m' w =
    by_number_lem answer.number _ _ _ (λ x. record { numbers = x ∷ 0 ∷ 0 ∷ []; buffers = cells ∷ m ∷ [] }) w.number
    (λ z i. record { numbers = z i ∷ (w.counts z).0 i ∷ (w.counts z).1 i ∷ []; buffers = w.stores z i ∷ w.encodes z i ∷ [] })
    (λ z. let (p, q, c, d) = w.refused z in λ i. record { numbers = answer.number ∷ p i ∷ q i ∷ []; buffers = c i ∷ d i ∷ [] })

promised_grid_read : (m n k : ℕ) (cells counters out : List ℕ) → Promised (grid_read m n k cells counters out) (line (grid_read m n k cells counters out))
unfolding line
promised_grid_read m n k cells counters out answer out' r =
    let e = r.exactly in
    by_number_lem answer.number _ _ _ (λ x. record { numbers = read_refused m n k counters x; buffers = out ∷ [] }) e.number
    (λ z i. record { numbers = z i ∷ r.demands.names.none (λ f. omega (arith, z)) i ∷ []; buffers = e.shown z i ∷ [] })
    (λ z i. record { numbers = answer.number ∷ e.index_is i ∷ []; buffers = e.untouched (omega arith) i ∷ [] })

-- the numbers of a plan or a store that is accepted with l levels, and of one that is refused
all_counted : (b : Block) (l : ℕ) (a : Answer) → a.number ≡ 0 → a.levels ≡ l → a.faults ≡ faults b.rows b.mask → CountsKinds b a → a.index ≡ 0 → answered a ≡ counted b l
all_counted b l a z e f k x = λ i. z i ∷ e i ∷ f i ∷ k.wrong i ∷ k.right i ∷ x i ∷ []

none_counted : (a : Answer) (t : ℕ) → CountsNothing a → a.index ≡ t → answered a ≡ uncounted a.number t
none_counted a t c x = λ i. a.number ∷ c.levels i ∷ c.faults i ∷ c.wrong i ∷ c.right i ∷ x i ∷ []

promised_plan : (b : Block) (k : ℕ) (counters : List ℕ) → Promised (grid_plan b k counters) (line (grid_plan b k counters))
unfolding line
promised_plan b k counters answer counters' w =
    let e = w.exactly in
    by_number_lem answer.number _ _ _ (λ x. record { numbers = uncounted x 0; buffers = counters ∷ [] }) e.number
    (λ z i. record {
      numbers = all_counted b _ answer z (e.levels_are z) (e.faults_are z) (e.kinds_are z) e.index_is i;
      buffers = e.counters_are z i ∷ by_number (z i) (counters_in b k (e.counters_are z i) ∷ []) [];
    })
    (λ z.
    let (c, u) = e.untouched (omega arith) in
    λ i. record { numbers = none_counted answer 0 c e.index_is i; buffers = u i ∷ none answer.number (counters_in b k counters' ∷ []) z i })

promised_store : (b : Block) (k : ℕ) (counters cells : List ℕ) → Promised (grid_store b k counters cells) (line (grid_store b k counters cells))
unfolding line
promised_store b k counters cells answer cells' w =
    let e = w.exactly in
    by_number_lem answer.number _ _ _ (λ x. record { numbers = store_refused b k counters x; buffers = cells ∷ [] }) e.number
    (λ z i. record {
      numbers = all_counted b _ answer z (e.levels_are z) (e.faults_are z) (e.kinds_are z) (w.demands.names.none (λ f. omega (arith, z))) i;
      buffers = e.cells_are z i ∷ [];
    })
    (λ z. let (c, u) = e.untouched (omega arith) in λ i. record { numbers = none_counted answer _ c e.index_is i; buffers = u i ∷ [] })

promised_convert : (m n k k' : ℕ) (counters out : List ℕ) → Promised (grid_convert m n k k' counters out) (line (grid_convert m n k k' counters out))
unfolding line
promised_convert m n k k' counters out answer out' r =
    let e = r.exactly in
    by_number_lem answer.number _ _ _ (λ x. record { numbers = read_refused m n k counters x; buffers = out ∷ [] }) e.number
    (λ z i. record { numbers = z i ∷ r.demands.names.none (λ f. omega (arith, z)) i ∷ []; buffers = e.bytes_are z i ∷ [] })
    (λ z i. record { numbers = answer.number ∷ e.index_is i ∷ []; buffers = e.untouched (omega arith) i ∷ [] })

-- a finish of a record is the line that the definitions give of that record
finish_line : (begun : ℕ) (u : Transfer) (out : List ℕ) (answer : ReadAnswer) (out' : List ℕ) → Finishes u out answer out'
    → record { numbers = answer.number ∷ answer.index ∷ begun ∷ standing_of u ∷ []; buffers = out' ∷ [] } ≡ finished begun u out
finish_line begun u out answer out' f =
    let e = f.exactly in
    by_number_lem answer.number _ _ _
    (λ x. record { numbers = x ∷ bad_index u.k (u.rows + u.columns) (held_counters u) x ∷ begun ∷ standing_of u ∷ []; buffers = out ∷ [] }) e.number
    (λ z i. record { numbers = z i ∷ f.demands.names.none (λ h. omega (arith, z)) i ∷ begun ∷ standing_of u ∷ []; buffers = e.shown z i ∷ [] })
    (λ z i. record { numbers = answer.number ∷ e.index_is i ∷ begun ∷ standing_of u ∷ []; buffers = e.untouched (omega arith) i ∷ [] })

promised_transfer : (m n k : ℕ) (calls : List Event) (out : List ℕ) → Promised (transfer m n k calls out) (line (transfer m n k calls out))
unfolding line
promised_transfer m n k calls out x t u answer out' b c f =
    finish_line x u out answer out' f ∙ ap₂ (λ x v. finished x v out) b.exactly.number (as_defined t u m n k calls (starts b.demands c))

-- so every call's line is promised
pub promised : (c : Call) → Promised c (line c)
promised (metadata n es) = promised_metadata n es
promised (pointer_read n cells m out) = promised_read n cells m out
promised (pointer_write n wanted mask values cells m) = promised_write n wanted mask values cells m
promised (grid_read m n k cells counters out) = promised_grid_read m n k cells counters out
promised (grid_plan b k counters) = promised_plan b k counters
promised (grid_store b k counters cells) = promised_store b k counters cells
promised (grid_convert m n k k' counters out) = promised_convert m n k k' counters out
promised (transfer m n k calls out) = promised_transfer m n k calls out
