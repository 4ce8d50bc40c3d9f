-- A store that is lent what an accepted plan left is accepted, with the plan's counts, and reads as the data. Assumes nothing.
use Prim.Native.Nat.{ℕ, suc, ◌+◌, ◌^◌, ◌<◌, ◌≤◌}
use mathlib.Core.Path.{◌≡◌, refl, sym, ap, ◌∙◌}
use mathlib.Core.Bool.{false}
use mathlib.Core.List.{List}
use mathlib.Core.Logic.{⊎_elim}
use native.Mathlib.Omega.{arith}
use lib.ListN.{length}
use Rattle.bits.specs.Bits.{most}
use Rattle.bits.proofs.TestLaws.{iff_false, lt_or_le}
use Rattle.bits.proofs.BoundLaws.{most_le, most_at}
use Rattle.bits.proofs.FirstLaws.{NoneOf, accepts as none-accepts}
use Rattle.rdis.specs.Block.{Block}
use Rattle.rdis.specs.Levels.{plan}
use Rattle.rdis.specs.Cells.{misreads}
use Rattle.rdis.specs.Packing.{width, in_order, packed, counter, row_counter, column_counter}
use Rattle.rdis.specs.Theorems.{Masked}
use Rattle.rdis.proofs.CellLaws.{plan_reads, misreads_ext}
use Rattle.rdis.proofs.CounterLaws.{counters_at_most, levels_reached}
use Rattle.rdis.proofs.PackingLaws.{counter_packed, length_in_order, in_order_below, counters_back}
use Rattle.rdis.proofs.LevelLaws.{levels_by_chain}
use Rattle.grid_promises.specs.Calls.{used, rows_of, columns_of}
use Rattle.grid_promises.specs.Refusals.{plan_refusals, store_refusals}
use Rattle.grid_promises.specs.Demands.{PlanDemands, StoreDemands}
use Rattle.grid_promises.specs.Theorems.{PlanKept, PlanThenStore}
use Rattle.grid_promises.specs.declared.Answer.{Answer}
use Rattle.grid_promises.proofs.RefusalLaws.{plan_to_store, misread_iff, plan_accepted}
use Rattle.grid_promises.proofs.PlanDemands.{plan_range, plan_lengths, planned, plan_fits}
use Rattle.grid_promises.proofs.StoreDemands.{store_demands}
use Rattle.grid_promises.proofs.OneAnswer.{same_answer, same_counts}
use Rattle.grid_promises.proofs.ByDemands.{plan_exactly, plan_few, store_exactly, one_read_by_demands}

-- the counters of a plan, packed in bytes of a width that holds them
module _ (b : Block) (k l : ℕ) (r c : ℕ → ℕ) (w : ℕ) (masks : Masked b k l r c) (fits : k < 2 ^ w) where
  abbrev bytes : List ℕ
  bytes = packed w (in_order b.rows b.columns r c)

  few : l < 2 ^ w
  few = omega (arith, (levels_by_chain b k l r c masks).most, fits)

  back : ((i : ℕ) → i < b.rows → row_counter w bytes i ≡ r i) × ((j : ℕ) → j < b.columns → column_counter w b.rows bytes j ≡ c j)
  back =
      let (p, q) = counters_at_most b k l r c masks in
      counters_back w b.rows b.columns r c (λ i _. omega (arith, p i, few)) (λ j _. omega (arith, q j, few))

  none_wrong : misreads b (row_counter w bytes) (column_counter w b.rows bytes) ≡ false
  none_wrong = misreads_ext b _ _ r c back.0 back.1 ∙ plan_reads b k l r c masks

  -- no counter is above L, and some row's is L
  below : (t : ℕ) → t < b.rows + b.columns → counter w bytes t ≤ l
  below t p =
      let (x, y) = counters_at_most b k l r c masks in
      let ordered = in_order_below b.rows b.columns r c in
      let length-is = length_in_order b.rows b.columns r c in
      omega (
        arith,
        counter_packed w t (in_order b.rows b.columns r c) (ordered (2 ^ w) (omega (arith, few)) (λ i _. omega (arith, x i, few)) (λ j _. omega (arith, y j, few))) (rw length-is p),
        ordered (suc l) (omega arith) (λ i _. omega (arith, x i)) (λ j _. omega (arith, y j)) t,
      )

  reached : 0 < b.rows → most (b.rows + b.columns) (counter w bytes) ≡ l
  reached h =
      let (t, p, e) = most_at (b.rows + b.columns) (counter w bytes) (omega arith) in
      ⊎_elim
      (λ z. let (i, q, f) = levels_reached b k l r c masks z in omega (arith, below t p, back.0 i q, most_le (b.rows + b.columns) (counter w bytes) i (omega arith)))
      (λ z. omega (arith, below t p))
      (lt_or_le 0 l)

module _ (b : Block) (k : ℕ) (old counters cells cells' : List ℕ) (p s : Answer) (d : PlanDemands b k old p counters) (z : p.number ≡ 0) (l : length cells ≡ b.rows)
    (e : StoreDemands b k counters cells s cells') where
  free : NoneOf (plan_refusals b k (length old))
  free = plan_accepted b k (length old) p.number d.first z

  masks : Masked b k (used (plan b k)) (rows_of (plan b k)) (columns_of (plan b k))
  masks = planned b k (length old) free

  fits : k < 2 ^ width k
  fits = plan_fits b k (length old) free

  packs : counters ≡ packed (width k) (in_order b.rows b.columns (rows_of (plan b k)) (columns_of (plan b k)))
  packs = (plan_exactly b k old p counters d).counters_are z

  reads_right : misreads b (row_counter (width k) counters) (column_counter (width k) b.rows counters) ≡ false
  reads_right = rw packs (none_wrong b k _ _ _ (width k) masks fits)

  -- no refusal of the store applies
  store_none : NoneOf (store_refusals b k counters (length cells))
  store_none =
      let m = plan_lengths b k (length old) free in (
        free.0,
        (
          λ h. h (plan_to_store m (d.well_formed z).size l),
          (
            ⊎_elim free.1.1.0 (d.well_formed z).clear,
            (
              plan_few b k old p counters d z,
              (iff_false _ (misread_iff b k counters) reads_right, tt),
            ),
          ),
        ),
      )

  accepts : s.number ≡ 0
  accepts = none-accepts _ _ store_none e.first

  same_levels : s.levels ≡ p.levels
  same_levels =
      (store_exactly b k counters cells s cells' e).levels_are accepts
      ∙ ap (λ bs. most (b.rows + b.columns) (counter (width k) bs)) packs
      ∙ reached b k _ _ _ (width k) masks fits (omega (arith, (plan_range b k (length old) free).rows.0))
      ∙ sym ((plan_exactly b k old p counters d).levels_are z)

  kept : PlanKept b k counters p s cells'
  kept = record {
    accepted = same_answer s p (accepts ∙ sym z) (e.names.none (λ q. absurd (omega (arith, accepts))) ∙ sym d.names_none)
        (same_counts b b s p (λ w. refl) same_levels (e.every_fault accepts ∙ sym (d.every_fault z)) (e.kinds accepts) (d.kinds z));
    held = e.held accepts;
    reads_back = λ out after r q f.
        let back = (store_demands b k counters cells s cells' (store_exactly b k counters cells s cells' e)).reads_back accepts out q in
        let (x, y) = one_read_by_demands b.rows b.columns k cells' counters out r (record { number = 0; index = 0 }) after b.data· f back.demands in
        (ap (λ a. a.number) x, y);
  }

pub plan_then_store : PlanThenStore
plan_then_store b k old counters cells cells' p s d z l e = kept b k old counters cells cells' p s d z l e
