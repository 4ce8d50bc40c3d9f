-- No second answer is exact; and what does not count: an output and old buffers but for their lengths, and value bits at sound cells. Assumes nothing.
use Prim.Native.Nat.{ℕ, ◌+◌, ◌<◌}
use mathlib.Core.Path.{◌≡◌, refl, sym, ap, ◌∙◌}
use mathlib.Core.Bool.{Bool, true, false}
use mathlib.Core.List.{List}
use mathlib.Core.Logic.{⊎_elim}
use native.Mathlib.Omega.{arith}
use lib.ListN.{length}
use Rattle.bits.proofs.TestLaws.{same_test, lt_or_le}
use Rattle.rdis.specs.Block.{Block, faulty_cells}
use Rattle.rdis.specs.Packing.{width, in_order, packed, row_counter, column_counter}
use Rattle.rdis.specs.Theorems.{with_values, SameWrite}
use Rattle.rdis.proofs.SoundLaws.{sound_ignored}
use Rattle.grid_promises.specs.Calls.{past, read_number, plan_number, store_number, used, rows_of, columns_of, bad_index}
use Rattle.grid_promises.specs.Demands.{CountsNothing, Untouched, CountsKinds}
use Rattle.grid_promises.specs.Promises.{PlanExactly, StoreExactly}
use Rattle.grid_promises.specs.Theorems.{OneRead, OnePlan, OneStore, OutputMeasured, OldCountersMeasured, OldCellsMeasured, SameWhereStuck, PlanIgnoresSound, StoreIgnoresSound}
use Rattle.grid_promises.specs.declared.ReadAnswer.{ReadAnswer}
use Rattle.grid_promises.specs.declared.Answer.{Answer}
use Rattle.grid_promises.proofs.RefusalLaws.{past_iff}

-- a call is refused or accepted
pub either_way : {A : Type 0} (number : ℕ) → (0 < number → A) → (number ≡ 0 → A) → A
either_way number f g = ⊎_elim f (λ l. g (omega arith)) (lt_or_le 0 number)

-- ---- a read

-- two answers with one number, each with the index that goes with it, and outputs that show the same where they are accepted
module _ (k n : ℕ) (counters : List ℕ) (a a' : ReadAnswer) (x x' shown : List ℕ) (same : a.number ≡ a'.number)
    (index : a.index ≡ bad_index k n counters a.number) (index' : a'.index ≡ bad_index k n counters a'.number)
    (shows : a.number ≡ 0 → x ≡ shown) (shows' : a'.number ≡ 0 → x' ≡ shown) where
  pub same_shown : (a ≡ a') × (a.number ≡ 0 → x ≡ x')
  same_shown =
      let named : a.index ≡ a'.index = index ∙ ap (bad_index k n counters) same ∙ sym index' in
      (λ i. record { number = same i; index = named i }, λ z. shows z ∙ sym (shows' (sym same ∙ z)))

  -- where a refusal leaves one output
  pub same_left : (out : List ℕ) → (0 < a.number → x ≡ out) → (0 < a'.number → x' ≡ out) → (a ≡ a') × (x ≡ x')
  same_left out u u' = (same_shown.0, either_way a.number (λ l. u l ∙ sym (u' (rw (← same) l))) same_shown.1)

pub output_measured : OutputMeasured
output_measured m n k cells counters out out' a a' x x' l r s =
    let e = r.exactly in
    let f = s.exactly in
    same_shown k (m + n) counters a a' x x' _ (e.number ∙ ap (read_number m n k cells counters) l ∙ sym f.number) e.index_is f.index_is e.shown f.shown

pub one_read : OneRead
one_read m n k cells counters out a a' x x' e f =
    same_left k (m + n) counters a a' x x' _ (e.number ∙ sym f.number) e.index_is f.index_is e.shown f.shown out e.untouched f.untouched

-- ---- plans, and stores: one number, and where they are accepted the same counts and one buffer

pub record SameCounts (a a' : Answer) : Type 0 where
  pub levels : a.levels ≡ a'.levels
  pub faults : a.faults ≡ a'.faults
  pub wrong : a.wrong ≡ a'.wrong
  pub right : a.right ≡ a'.right

pub same_answer : (a a' : Answer) → a.number ≡ a'.number → a.index ≡ a'.index → SameCounts a a' → a ≡ a'
same_answer a a' n x c = λ i. record { number = n i; levels = c.levels i; faults = c.faults i; wrong = c.wrong i; right = c.right i; index = x i }

-- those of two blocks with as many cells of each kind
pub same_counts : (b d : Block) (a a' : Answer) → ((w : Bool) → faulty_cells b w ≡ faulty_cells d w) → a.levels ≡ a'.levels → a.faults ≡ a'.faults
    → CountsKinds b a → CountsKinds d a' → SameCounts a a'
same_counts b d a a' kinds levels faults c e =
    record { levels = levels; faults = faults; wrong = c.wrong ∙ kinds true ∙ sym e.wrong; right = c.right ∙ kinds false ∙ sym e.right }

no_counts : (a a' : Answer) → CountsNothing a → CountsNothing a' → SameCounts a a'
no_counts a a' c d =
    record { levels = c.levels ∙ sym d.levels; faults = c.faults ∙ sym d.faults; wrong = c.wrong ∙ sym d.wrong; right = c.right ∙ sym d.right }

module _ (a a' : Answer) (old old₀ x x' : List ℕ) (same : a.number ≡ a'.number) (index : a.index ≡ a'.index) (u : Untouched a old x) (u' : Untouched a' old₀ x')
    (accepted : a.number ≡ 0 → SameCounts a a' × (x ≡ x')) where
  one_answer : a ≡ a'
  one_answer = same_answer a a' same index (either_way a.number (λ l. no_counts a a' (u l).0 (u' (rw (← same) l)).0) (λ z. (accepted z).0))

  same_measured : (a ≡ a') × (a.number ≡ 0 → x ≡ x')
  same_measured = (one_answer, λ z. (accepted z).1)

  pub same_end : old ≡ old₀ → (a ≡ a') × (x ≡ x')
  same_end h = (one_answer, either_way a.number (λ l. (u l).1 ∙ h ∙ sym (u' (rw (← same) l)).1) (λ z. (accepted z).1))

-- the block itself
itself : (b : Block) → SameWrite b (with_values b b.values)
itself b = record { plans = λ k. refl; kinds = λ w. refl; cells = λ r c. refl; wrongs = λ r c. refl }

-- values that agree at the stuck cells have bits past the last column where the block's have any
pasts : (b : Block) (v : List ℕ) → SameWhereStuck b v → past b.columns v ≡ past b.columns b.values
pasts b v s = same_test _ _
    (λ h. (past_iff b.columns b.values).1 (s.past_too.0 ((past_iff b.columns v).0 h)))
    (λ h. (past_iff b.columns v).1 (s.past_too.1 ((past_iff b.columns b.values).0 h)))

-- ---- a plan

-- plans of a block and of the same with other values, that have one number and one outcome
module _ (b : Block) (v : List ℕ) (k : ℕ) (counters counters₀ : List ℕ) (a a' : Answer) (x x' : List ℕ)
    (numbers : plan_number b k (length counters) ≡ plan_number (with_values b v) k (length counters₀)) (same : SameWrite b (with_values b v))
    (e : PlanExactly b k counters a x) (f : PlanExactly (with_values b v) k counters₀ a' x') where
  plan_number_lem : a.number ≡ a'.number
  plan_number_lem = e.number ∙ numbers ∙ sym f.number

  plan_index : a.index ≡ a'.index
  plan_index = e.index_is ∙ sym f.index_is

  plan_accepted : a.number ≡ 0 → SameCounts a a' × (x ≡ x')
  plan_accepted z =
      let z' : a'.number ≡ 0 = sym plan_number_lem ∙ z in
      let p = same.plans k in (
        same_counts b (with_values b v) a a' same.kinds (e.levels_are z ∙ ap used p ∙ sym (f.levels_are z')) (e.faults_are z ∙ sym (f.faults_are z')) (e.kinds_are z) (f.kinds_are z'),
        e.counters_are z ∙ ap (λ o. packed (width k) (in_order b.rows b.columns (rows_of o) (columns_of o))) p ∙ sym (f.counters_are z'),
      )

pub old_counters_measured : OldCountersMeasured
old_counters_measured b k counters counters₀ a a' x x' l e f =
    let numbers : plan_number b k (length counters) ≡ plan_number b k (length counters₀) = ap (plan_number b k) l in
    let number = plan_number_lem b b.values k counters counters₀ a a' x x' numbers (itself b) e.exactly f.exactly in
    let index = plan_index b b.values k counters counters₀ a a' x x' numbers (itself b) e.exactly f.exactly in
    same_measured a a' counters counters₀ x x' number index e.exactly.untouched f.exactly.untouched
    (plan_accepted b b.values k counters counters₀ a a' x x' numbers (itself b) e.exactly f.exactly)

plans_end : (b : Block) (v : List ℕ) (k : ℕ) (counters : List ℕ) (a a' : Answer) (x x' : List ℕ) → plan_number b k (length counters) ≡ plan_number (with_values b v) k (length counters)
    → SameWrite b (with_values b v) → PlanExactly b k counters a x → PlanExactly (with_values b v) k counters a' x' → (a ≡ a') × (x ≡ x')
plans_end b v k counters a a' x x' numbers same e f =
    same_end a a' counters counters x x' (plan_number_lem b v k counters counters a a' x x' numbers same e f)
    (plan_index b v k counters counters a a' x x' numbers same e f) e.untouched f.untouched
    (plan_accepted b v k counters counters a a' x x' numbers same e f) refl

pub one_plan : OnePlan
one_plan b k counters a a' x x' = plans_end b b.values k counters a a' x x' refl (itself b)

pub plan_ignores_sound : PlanIgnoresSound
unfolding plan_number
plan_ignores_sound b v k counters a a' x x' s e f =
    let same = sound_ignored b v s.agree in
    plans_end b v k counters a a' x x' (rw (s.size, pasts b v s, same.plans k)) same e.exactly f.exactly

-- ---- a store

-- stores of a block and of the same with other values, that have one number and the same cells
module _ (b : Block) (v : List ℕ) (k : ℕ) (counters cells cells₀ : List ℕ) (a a' : Answer) (x x' : List ℕ)
    (numbers : store_number b k counters (length cells) ≡ store_number (with_values b v) k counters (length cells₀)) (same : SameWrite b (with_values b v))
    (e : StoreExactly b k counters cells a x) (f : StoreExactly (with_values b v) k counters cells₀ a' x') where
  store_number_lem : a.number ≡ a'.number
  store_number_lem = e.number ∙ numbers ∙ sym f.number

  store_index : a.index ≡ a'.index
  store_index = e.index_is ∙ ap (bad_index k (b.rows + b.columns) counters) store_number_lem ∙ sym f.index_is

  store_accepted : a.number ≡ 0 → SameCounts a a' × (x ≡ x')
  store_accepted z =
      let z' : a'.number ≡ 0 = sym store_number_lem ∙ z in (
        same_counts b (with_values b v) a a' same.kinds (e.levels_are z ∙ sym (f.levels_are z')) (e.faults_are z ∙ sym (f.faults_are z')) (e.kinds_are z) (f.kinds_are z'),
        e.cells_are z ∙ same.cells _ _ ∙ sym (f.cells_are z'),
      )

pub old_cells_measured : OldCellsMeasured
old_cells_measured b k counters cells cells₀ a a' x x' l e f =
    let numbers : store_number b k counters (length cells) ≡ store_number b k counters (length cells₀) = ap (store_number b k counters) l in
    let number = store_number_lem b b.values k counters cells cells₀ a a' x x' numbers (itself b) e.exactly f.exactly in
    let index = store_index b b.values k counters cells cells₀ a a' x x' numbers (itself b) e.exactly f.exactly in
    same_measured a a' cells cells₀ x x' number index e.exactly.untouched f.exactly.untouched
    (store_accepted b b.values k counters cells cells₀ a a' x x' numbers (itself b) e.exactly f.exactly)

stores_end : (b : Block) (v : List ℕ) (k : ℕ) (counters cells : List ℕ) (a a' : Answer) (x x' : List ℕ)
    → store_number b k counters (length cells) ≡ store_number (with_values b v) k counters (length cells)
    → SameWrite b (with_values b v) → StoreExactly b k counters cells a x → StoreExactly (with_values b v) k counters cells a' x' → (a ≡ a') × (x ≡ x')
stores_end b v k counters cells a a' x x' numbers same e f =
    same_end a a' cells cells x x' (store_number_lem b v k counters cells cells a a' x x' numbers same e f)
    (store_index b v k counters cells cells a a' x x' numbers same e f) e.untouched f.untouched
    (store_accepted b v k counters cells cells a a' x x' numbers same e f) refl

pub one_store : OneStore
one_store b k counters cells a a' x x' = stores_end b b.values k counters cells a a' x x' refl (itself b)

pub store_ignores_sound : StoreIgnoresSound
unfolding store_number
store_ignores_sound b v k counters cells a a' x x' s e f =
    let same = sound_ignored b v s.agree in
    stores_end b v k counters cells a a' x x' (rw (s.size, pasts b v s, same.wrongs (row_counter (width k) counters) (column_counter (width k) b.rows counters))) same e.exactly f.exactly
