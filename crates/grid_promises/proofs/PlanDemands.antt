-- What is demanded of a plan holds of every one that ends exactly as it should. Assumes nothing.
use Prim.Native.Nat.{ℕ, ◌+◌, ◌*◌, ◌^◌, ◌<◌}
use mathlib.Core.Path.{◌≡◌, refl, sym, ap, subst, ◌∙◌}
use mathlib.Core.Bool.{not}
use mathlib.Core.List.{List}
use mathlib.Core.Logic.{◌↔◌, inl, inr}
use native.Mathlib.Omega.{arith}
use lib.ListN.{length}
use Rattle.bits.specs.Bits.{Below}
use Rattle.bits.specs.First.{First}
use Rattle.bits.proofs.TestLaws.{iff_false, false_iff, iff_stable}
use Rattle.bits.proofs.FirstLaws.{hit, miss, last, NoneOf}
use Rattle.rdis.specs.Block.{Block}
use Rattle.rdis.specs.Levels.{Outcome, masked, unmaskable, plan}
use Rattle.rdis.specs.Chains.{HasChain}
use Rattle.rdis.specs.Facts.{LevelsUsed, CountsLevels}
use Rattle.rdis.specs.Packing.{width, in_order, row_counter, column_counter}
use Rattle.rdis.specs.Theorems.{Masked, Packs}
use Rattle.rdis.proofs.LevelLaws.{refused_by_chain, levels_by_chain}
use Rattle.rdis.proofs.CounterLaws.{counters_at_most}
use Rattle.rdis.proofs.TakenLaws.{levels_counted, counts_ext}
use Rattle.rdis.proofs.PackingLaws.{width_holds, counters_back, plan_packs}
use Rattle.rdis.proofs.CountLaws.{faults_are_cells}
use Rattle.rdis.proofs.FaultLaws.{levels_by_kind}
use Rattle.grid_promises.specs.Calls.{used, rows_of, columns_of}
use Rattle.grid_promises.specs.Refusals.{InRange, PlanLengths, PastBlock}
use Rattle.grid_promises.specs.Refusals.{plan_refusals}
use Rattle.grid_promises.specs.Demands.{BoundsLevels, WellFormed, HeldLines}
use Rattle.grid_promises.specs.Promises.{PlanExactly, Plan}
use Rattle.grid_promises.specs.Theorems.{BoundFollows}
use Rattle.grid_promises.specs.declared.Answer.{Answer}
use Rattle.grid_promises.proofs.RefusalLaws.{in_range_lem, plan_sized_lem, within, past_iff, spare_iff, held_is, plan_first, plan_accepted}

pub bound_follows : BoundFollows
bound_follows b a c l = omega (arith, c.sum, l.wrong, l.right)

-- an outcome that does not refuse is made of what it says
is_masked : (o : Outcome) → (o ≡ unmaskable → ⊥) → o ≡ masked (used o) (rows_of o) (columns_of o)
is_masked (masked l r c) h = refl
is_masked unmaskable h = absurd (h refl)

-- where no refusal applies, the block is as it should be and the levels mask its faults
module _ (b : Block) (k counters : ℕ) (none : NoneOf (plan_refusals b k counters)) where
  pub plan_range : InRange b.rows b.columns k
  plan_range = iff_stable _ (in_range_lem b.rows b.columns k) none.0

  pub plan_lengths : PlanLengths b k counters
  plan_lengths = iff_stable _ (plan_sized_lem b k counters) none.1.0

  pub plan_mask : Below (2 ^ b.columns) b.mask
  plan_mask = (within b.columns b.mask).0 (false_iff _ (past_iff b.columns b.mask) (λ p. none.1.1.0 (inr (inl p))))

  pub planned : Masked b k (used (plan b k)) (rows_of (plan b k)) (columns_of (plan b k))
  planned = is_masked (plan b k) (λ p. none.1.1.1.0 ((refused_by_chain b k).0 p))

  pub plan_fits : k < 2 ^ width k
  plan_fits = width_holds k plan_range.levels.1

module _ (b : Block) (k : ℕ) (counters : List ℕ) (a : Answer) (counters' : List ℕ) (e : PlanExactly b k counters a counters') where
  found : First (plan_refusals b k (length counters)) a.number
  found = subst (First _) (sym e.number) (plan_first b k (length counters))

  seven : InRange b.rows b.columns k → PlanLengths b k (length counters) → (PastBlock b → ⊥) → (a.number ≡ 7) ↔ HasChain b (2 * k + 1)
  seven r l h = let rest = miss (miss (miss found (λ n. n r)) (λ n. n l)) h in (λ q. last rest (omega arith), hit rest)

  -- it is accepted
  module _ (z : a.number ≡ 0) where
    none : NoneOf (plan_refusals b k (length counters))
    none = plan_accepted b k (length counters) a.number found z

    masks : Masked b k (used (plan b k)) (rows_of (plan b k)) (columns_of (plan b k))
    masks = planned b k (length counters) none

    fits : k < 2 ^ width k
    fits = plan_fits b k (length counters) none

    packs : Packs (width k) (b.rows + b.columns) (in_order b.rows b.columns (rows_of (plan b k)) (columns_of (plan b k))) counters'
    packs = subst (Packs (width k) (b.rows + b.columns) _) (sym (e.counters_are z)) (plan_packs b k _ _ _ masks (width k) fits)

    bounds : BoundsLevels a
    bounds =
        let (x, y) = levels_by_kind b k _ _ _ masks in
        record { wrong = rw (e.levels_are z, (e.kinds_are z).wrong) x; right = rw (e.levels_are z, (e.kinds_are z).right) y }

    formed : WellFormed (width k) (b.rows + b.columns) counters'
    formed = record { size = packs.size; bytes = packs.bytes; clear = iff_false _ (spare_iff (width k) (b.rows + b.columns) counters') (ap not packs.spare) }

    counts : (r c : ℕ → ℕ) → HeldLines (width k) b.rows b.columns counters' r c → CountsLevels b r c
    counts r c h =
        let (p, q) = counters_at_most b k _ _ _ masks in
        let few = (levels_by_chain b k _ _ _ masks).most in
        let (x, y) = counters_back (width k) b.rows b.columns (rows_of (plan b k)) (columns_of (plan b k)) (λ i _. omega (arith, p i, fits)) (λ j _. omega (arith, q j, fits)) in
        let bytes = e.counters_are z in
        counts_ext b _ _ r c
        (λ i l. sym (x i l) ∙ sym (ap (λ bs. row_counter (width k) bs i) bytes) ∙ held_is (width k) i (r i) counters' (h.rows i l))
        (λ j l. sym (y j l) ∙ sym (ap (λ bs. column_counter (width k) b.rows bs j) bytes) ∙ held_is (width k) (b.rows + j) (c j) counters' (h.columns j l))
        (levels_counted b k _ _ _ masks)

  pub plan_demands : Plan b k counters a counters'
  plan_demands = record {
    exactly = e;
    demands = record {
      first = found;
      names_none = e.index_is;
      untouched = e.untouched;
      unmaskable = seven;
      deepest = λ z. subst (LevelsUsed b k) (sym (e.levels_are z)) (levels_by_chain b k _ _ _ (masks z));
      every_fault = λ z. e.faults_are z ∙ faults_are_cells b.rows b.columns b.mask (plan_mask b k (length counters) (none z));
      few_levels = λ z. bound_follows b a (e.kinds_are z) (bounds z);
      kinds = e.kinds_are;
      few_of_each = bounds;
      well_formed = formed;
      counted = counts;
    };
  }
