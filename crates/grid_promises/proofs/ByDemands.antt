-- The demands alone say all that the exact part says; so they too leave one answer. Assumes nothing.
use Prim.Native.Nat.{ℕ, ◌+◌, ◌^◌, ◌<◌, ◌≤◌}
use mathlib.Core.Path.{◌≡◌, refl, sym, subst, ◌∙◌}
use mathlib.Core.Bool.{Bool, true, false, cond}
use mathlib.Core.List.{List}
use native.Mathlib.Omega.{arith}
use borrow.Author.Tests.{not-false}
use lib.ListN.{length}
use Rattle.bits.specs.Bits.{most}
use Rattle.bits.proofs.TestLaws.{false_iff}
use Rattle.bits.proofs.BoundLaws.{most_le, most_at}
use Rattle.bits.proofs.FirstLaws.{first_one}
use Rattle.bits.proofs.ByteLaws.{is_words}
use Rattle.rdis.specs.Block.{Block, bit, stuck}
use Rattle.rdis.specs.Cells.{flips, holds, stored, reading}
use Rattle.rdis.specs.Packing.{width, in_order, counter, row_counter, column_counter}
use Rattle.rdis.specs.Theorems.{Packs}
use Rattle.rdis.proofs.LevelLaws.{levels_by_chain, one_depth}
use Rattle.rdis.proofs.TakenLaws.{levels_counted, one_count}
use Rattle.rdis.proofs.PackingLaws.{length_in_order, in_order_unpacked, plan_below, plan_counter, packed_only}
use Rattle.rdis.proofs.CountLaws.{faults_are_cells}
use Rattle.grid_promises.specs.Refusals.{Above}
use Rattle.grid_promises.specs.Demands.{WellFormed, HeldLines, Greatest, ReadDemands, PlanDemands, StoreDemands}
use Rattle.grid_promises.specs.Promises.{ReadExactly, PlanExactly, StoreExactly}
use Rattle.grid_promises.specs.Theorems.{OneReadByDemands, OnePlanByDemands, OneStoreByDemands}
use Rattle.grid_promises.specs.declared.ReadAnswer.{ReadAnswer}
use Rattle.grid_promises.specs.declared.Answer.{Answer}
use Rattle.grid_promises.proofs.RefusalLaws.{spare_iff, counter_held, held_is, read_first, plan_first, plan_accepted, store_first, store_accepted}
use Rattle.grid_promises.proofs.IndexLaws.{names_index}
use Rattle.grid_promises.proofs.PlanDemands.{plan_mask, planned, plan_fits}
use Rattle.grid_promises.proofs.StoreDemands.{store_range, store_mask}
use Rattle.grid_promises.proofs.OneAnswer.{one_read, one_plan, one_store}

-- ---- a read

pub read_exactly : (m n k : ℕ) (cells counters out : List ℕ) (a : ReadAnswer) (after : List ℕ)
    → ReadDemands m n k cells counters out a after → ReadExactly m n k cells counters out a after
unfolding reading flips bit
read_exactly m n k cells counters out a after d = record {
  number = first_one _ _ _ d.first (read_first m n k cells counters (length out));
  index_is = names_index k (m + n) counters a.number a.index d.names;
  untouched = d.untouched;
  shown = λ z. is_words m n _ after (d.inside z).0 (λ i p. (d.inside z).1 i)
      (λ i j p q. d.shows z i j _ _ p q (counter_held (width k) i counters) (counter_held (width k) (m + j) counters));
}

pub one_read_by_demands : OneReadByDemands
one_read_by_demands m n k cells counters out a a' x x' d e =
    one_read m n k cells counters out a a' x x' (read_exactly m n k cells counters out a x d) (read_exactly m n k cells counters out a' x' e)

-- ---- a plan

-- the bytes hold the counters that are read from them
pub lines : (w m n : ℕ) (bs : List ℕ) → HeldLines w m n bs (row_counter w bs) (column_counter w m bs)
lines w m n bs = record { rows = λ i _. counter_held w i bs; columns = λ j _. counter_held w (m + j) bs }

-- well-formed bytes with these counters are the packed ones
module _ (w m n : ℕ) (bs : List ℕ) (r c : ℕ → ℕ) (formed : WellFormed w (m + n) bs)
    (rows : (i : ℕ) → i < m → r i ≡ row_counter w bs i) (columns : (j : ℕ) → j < n → c j ≡ column_counter w m bs j) where
  bytes_packed : Packs w (m + n) (in_order m n r c) bs
  bytes_packed = record {
    size = formed.size;
    bytes = formed.bytes;
    spare = not-false _ (false_iff _ (spare_iff w (m + n) bs) formed.clear);
    back = sym (in_order_unpacked m n r c w bs rows columns);
  }

pub plan_exactly : (b : Block) (k : ℕ) (counters : List ℕ) (a : Answer) (counters' : List ℕ) → PlanDemands b k counters a counters' → PlanExactly b k counters a counters'
plan_exactly b k counters a counters' d = record {
  number = first_one _ _ _ d.first (plan_first b k (length counters));
  index_is = d.names_none;
  untouched = d.untouched;
  counters_are = λ z.
      let w = width k in
      let masks = planned b k (length counters) (plan_accepted b k (length counters) a.number d.first z) in
      let fits = plan_fits b k (length counters) (plan_accepted b k (length counters) a.number d.first z) in
      let (x, y) = one_count b _ _ _ _ (levels_counted b k _ _ _ masks) (d.counted z _ _ (lines w b.rows b.columns counters')) in
      (packed_only w (b.rows + b.columns) _ counters' (length_in_order b.rows b.columns _ _) (plan_below b k _ _ _ masks (2 ^ w) fits)).0
      (bytes_packed w b.rows b.columns counters' _ _ (d.well_formed z) x y);
  levels_are = λ z. one_depth b k _ _ (d.deepest z) (levels_by_chain b k _ _ _ (planned b k (length counters) (plan_accepted b k (length counters) a.number d.first z)));
  faults_are = λ z. d.every_fault z ∙ sym (faults_are_cells b.rows b.columns b.mask (plan_mask b k (length counters) (plan_accepted b k (length counters) a.number d.first z)));
  kinds_are = d.kinds;
}

-- no counter that an accepted plan leaves is above K
pub plan_few : (b : Block) (k : ℕ) (counters : List ℕ) (a : Answer) (counters' : List ℕ) → PlanDemands b k counters a counters' → a.number ≡ 0
    → Above k (b.rows + b.columns) counters' → ⊥
plan_few b k counters a counters' d z (t, l, (x, held, h)) =
    let free = plan_accepted b k (length counters) a.number d.first z in
    let few = plan_counter b k _ _ _ (planned b k (length counters) free) (width k) t (plan_fits b k (length counters) free) l in
    omega (arith, held_is (width k) t x counters' held, subst (λ bs. counter (width k) bs t ≤ k) (sym ((plan_exactly b k counters a counters' d).counters_are z)) few)

pub one_plan_by_demands : OnePlanByDemands
one_plan_by_demands b k counters a a' x x' d e = one_plan b k counters a a' x x' (plan_exactly b k counters a x d) (plan_exactly b k counters a' x' e)

-- ---- a store

greatest_is : (w n : ℕ) (bs : List ℕ) (x : ℕ) → 0 < n → Greatest w n bs x → x ≡ most n (counter w bs)
greatest_is w n bs x l g =
    let (t, p, h) = g.reached in
    let (u, q, e) = most_at n (counter w bs) l in
    let over = g.exceeded u (counter w bs u) q (counter_held w u bs) in
    omega (arith, most_le n (counter w bs) t p, held_is w t x bs h)

-- a stuck cell's value and a sound cell's bit are what a cell holds
cell_holds : (s v f x : Bool) → (s ≡ true → x ≡ v) → (s ≡ false → x ≡ f) → x ≡ cond s v f
cell_holds true v f x g h = g refl
cell_holds false v f x g h = h refl

pub store_exactly : (b : Block) (k : ℕ) (counters cells : List ℕ) (a : Answer) (cells' : List ℕ)
    → StoreDemands b k counters cells a cells' → StoreExactly b k counters cells a cells'
unfolding stored holds flips bit
store_exactly b k counters cells a cells' d = record {
  number = first_one _ _ _ d.first (store_first b k counters (length cells));
  index_is = names_index k (b.rows + b.columns) counters a.number a.index d.names;
  untouched = d.untouched;
  cells_are = λ z. is_words b.rows b.columns _ cells' (d.inside z).0 (λ i p. (d.inside z).1 i)
      (λ i j p q. cell_holds (stuck b i j) (bit b.values i j) _ (bit cells' i j) (d.held z i j p q)
      (λ h. d.sound z i j _ _ p q h (counter_held (width k) i counters) (counter_held (width k) (b.rows + j) counters)));
  levels_are = λ z. greatest_is (width k) (b.rows + b.columns) counters a.levels (omega (arith, (store_range b k counters cells (store_accepted b k counters (length cells) a.number d.first z)).rows.0)) (d.deepest z);
  faults_are = λ z. d.every_fault z ∙ sym (faults_are_cells b.rows b.columns b.mask (store_mask b k counters cells (store_accepted b k counters (length cells) a.number d.first z)));
  kinds_are = d.kinds;
}

pub one_store_by_demands : OneStoreByDemands
one_store_by_demands b k counters cells a a' x x' d e =
    one_store b k counters cells a a' x x' (store_exactly b k counters cells a x d) (store_exactly b k counters cells a' x' e)
