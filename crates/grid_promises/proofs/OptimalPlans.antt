-- A plan is refused with 7 exactly where every store would be refused with 13, and no store's counters are less than a plan's. Assumes nothing.
use Prim.Native.Nat.{ℕ, zero, suc, ◌+◌, ◌-◌, ◌*◌, ◌<◌, ◌≤◌}
use mathlib.Core.Path.{◌≡◌, refl, sym, ap, subst, ◌∙◌}
use mathlib.Core.Bool.{true, false}
use mathlib.Core.List.{List, [], ◌∷◌}
use mathlib.Core.Logic.{inl, ⊎_elim}
use native.Mathlib.Omega.{arith}
use lib.ListN.{length, replicate, length-replicate}
use lib.Pow.{pow_pos}
use Rattle.bits.specs.Bits.{has, number}
use Rattle.bits.specs.First.{◌when◌, First}
use Rattle.bits.proofs.TestLaws.{clash, false_iff, lt_or_le}
use Rattle.bits.proofs.FirstLaws.{hit, miss, last, NoneOf, accepts}
use Rattle.bits.proofs.BitLaws.{has_zero, has_ext}
use Rattle.bits.proofs.ByteLaws.{get_or_zeros, at_zeros}
use Rattle.bits.proofs.DigitLaws.{byte_bit}
use Rattle.rdis.specs.Block.{Block}
use Rattle.rdis.specs.Chains.{HasChain}
use Rattle.rdis.specs.Cells.{misreads}
use Rattle.rdis.specs.Packing.{width, bytes_for, counter, row_counter, column_counter}
use Rattle.rdis.specs.Theorems.{AtMost}
use Rattle.rdis.proofs.CountLaws.{two_kinds, faults_are_cells}
use Rattle.rdis.proofs.OptimalCounters.{chain_misreads, least, fewest}
use Rattle.grid_promises.specs.Calls.{store_number, bad_index}
use Rattle.grid_promises.specs.Refusals.{InRange, PlanLengths, StoreLengths, PastBlock, Held, Above, plan_refusals, store_refusals}
use Rattle.grid_promises.specs.Demands.{PlanDemands, StoreDemands}
use Rattle.grid_promises.specs.Promises.{Store}
use Rattle.grid_promises.specs.Theorems.{StoreExists, Allowed, NeverStored, RefusedIfNeverStored, NoWorse, StoreThenPlan}
use Rattle.grid_promises.specs.declared.Answer.{Answer}
use Rattle.grid_promises.proofs.RefusalLaws.{plan_to_store, counter_held, held_is, misread_iff, store_first, store_accepted}
use Rattle.grid_promises.proofs.StoreDemands.{store_mask, store_demands, store_refused_lem}
use Rattle.grid_promises.proofs.ByDemands.{lines, plan_few}
use Rattle.grid_promises.proofs.PlanThenStore.{plan_then_store}

-- ---- any store has an answer

module _ (b : Block) (k : ℕ) (counters cells : List ℕ) where
  numbered : (n : ℕ) → store_number b k counters (length cells) ≡ n → (s : Answer) × (cells' : List ℕ) × Store b k counters cells s cells'
  unfolding bad_index
  numbered zero e =
      let none = store_accepted b k counters (length cells) 0 (subst (First _) e (store_first b k counters (length cells))) refl in
      let sum = faults_are_cells b.rows b.columns b.mask (store_mask b k counters cells none) ∙ two_kinds b in (
        _,
        _,
        store_demands b k counters cells _ _ (record {
          number = sym e;
          index_is = refl;
          untouched = λ l. absurd (omega arith);
          cells_are = λ _. refl;
          levels_are = λ _. refl;
          faults_are = λ _. refl;
          kinds_are = λ _. record { wrong = refl; right = refl; sum = sum };
        }),
      )
  numbered (suc n) e = (_, cells, store_refused_lem b k counters cells n e)

pub store_exists : StoreExists
store_exists b k counters cells = numbered b k counters cells (store_number b k counters (length cells)) refl

-- ---- counters that a store is lent, up to x

module _ (b : Block) (k x : ℕ) (counters : List ℕ) (up_to_lem : (t y : ℕ) → t < b.rows + b.columns → Held (width k) counters t y → y ≤ x) where
  at_most : AtMost b x (row_counter (width k) counters) (column_counter (width k) b.rows counters)
  at_most = (
    λ i p. up_to_lem i _ (omega arith) (counter_held (width k) i counters),
    λ j p. up_to_lem (b.rows + j) _ (omega arith) (counter_held (width k) (b.rows + j) counters),
  )

  -- where there is a chain of 2x + 1 cells, some stuck cell reads wrong by them
  reads_wrong : HasChain b (2 * x + 1) → misreads b (row_counter (width k) counters) (column_counter (width k) b.rows counters) ≡ true
  reads_wrong h = chain_misreads b x _ _ h at_most

up_to_k : (k n : ℕ) (counters : List ℕ) → (Above k n counters → ⊥) → (t y : ℕ) → t < n → Held (width k) counters t y → y ≤ k
up_to_k k n counters h t y l held = ⊎_elim (λ p. absurd (h (t, l, (y, held, p)))) (λ p. p) (lt_or_le k y)

-- ---- counters of 0 are allowed

module _ (b : Block) (k : ℕ) where
  none_set : (m p : ℕ) → has (number 256 (replicate m 0)) p ≡ false
  none_set m p = sym (byte_bit (replicate m 0) p (λ i. rw (get_or_zeros m i) (omega arith))) ∙ at_zeros m p

  abbrev zeros : List ℕ
  zeros = replicate (bytes_for (width k) (b.rows + b.columns)) 0

  zeros_few : Above k (b.rows + b.columns) zeros → ⊥
  zeros_few (t, l, (x, (u, f), h)) =
      omega (arith, has_ext (width k) x 0 u (pow_pos (width k)) (λ q p. f q p ∙ none_set (bytes_for (width k) (b.rows + b.columns)) _ ∙ sym (has_zero q)))

  zeros_allowed : Allowed b k zeros
  zeros_allowed = record {
    formed = record {
      size = length-replicate (bytes_for (width k) (b.rows + b.columns)) 0;
      bytes = λ i. rw (get_or_zeros (bytes_for (width k) (b.rows + b.columns)) i) (omega arith);
      clear = λ (p, l, h). clash h (none_set (bytes_for (width k) (b.rows + b.columns)) p);
    };
    most = zeros_few;
  }

-- ---- refused

module _ (b : Block) (k : ℕ) (old counters : List ℕ) (p : Answer) (d : PlanDemands b k old p counters) where
  -- with 7 none of 1, 2 and 3 applies, and there is the chain: by allowed counters nothing is left to a store but 13
  refused : p.number ≡ 7 → NeverStored b k
  refused e lent cells cells' s a l f =
      let range : (InRange b.rows b.columns k → ⊥) → ⊥ = λ n. omega (arith, hit d.first n) in
      let lengths : (PlanLengths b k (length old) → ⊥) → ⊥ = λ n. omega (arith, hit (miss d.first range) n) in
      let past : PastBlock b → ⊥ = λ n. omega (arith, hit (miss (miss d.first range) lengths) n) in
      let chain : HasChain b (2 * k + 1) = last (miss (miss (miss d.first range) lengths) past) (omega arith) in
      hit (miss (miss (miss (miss f.first range) (λ n. lengths (λ m. n (plan_to_store m a.formed.size l)))) (⊎_elim past a.formed.clear)) a.most)
      ((misread_iff b k lent).0 (reads_wrong b k k lent (up_to_k k (b.rows + b.columns) lent a.most) chain))

  module _ (never : NeverStored b k) where
    abbrev cells : List ℕ
    cells = replicate b.rows 0

    size : length cells ≡ b.rows
    size = length-replicate b.rows 0

    -- a store by counters of 0 answers 13 too: so none of 1, 2 and 3 applies to it, nor to the plan
    chain_left : length old ≡ bytes_for (width k) (b.rows + b.columns) → (s : Answer) × (cells' : List ℕ) × Store b k (zeros b k) cells s cells'
        → First ((7 when HasChain b (2 * k + 1)) ∷ []) p.number
    chain_left l (s, cells', f) =
        let first = f.demands.first in
        let z : s.number ≡ 13 = never (zeros b k) cells cells' s (zeros_allowed b k) size f.demands in
        let range : (InRange b.rows b.columns k → ⊥) → ⊥ = λ n. omega (arith, hit first n) in
        let lengths : (StoreLengths b k (length (zeros b k)) (length cells) → ⊥) → ⊥ = λ n. omega (arith, hit (miss first range) n) in
        let past : PastBlock b → ⊥ = λ n. omega (arith, hit (miss (miss first range) lengths) (inl n)) in
        miss (miss (miss d.first range) (λ n. lengths (λ m. n (subst (PlanLengths b k) ((zeros_allowed b k).formed.size ∙ sym l) m.planned)))) past

    -- where the plan is accepted, a store by its counters is
    not_accepted : p.number ≡ 0 → (s : Answer) × (cells' : List ℕ) × Store b k counters cells s cells' → ⊥
    not_accepted z (s, cells', f) =
        let e = f.demands in
        let accepted : s.number ≡ 0 = ap (λ a. a.number) (plan_then_store b k old counters cells cells' p s d z size e).accepted ∙ z in
        omega (arith, never counters cells cells' s (record { formed = d.well_formed z; most = plan_few b k old p counters d z }) size e)

    seven : length old ≡ bytes_for (width k) (b.rows + b.columns) → p.number ≡ 7
    seven l =
        ⊎_elim (λ (h, e). e) (λ (h, z). absurd (not_accepted z (store_exists b k counters cells))) (chain_left l (store_exists b k (zeros b k) cells)).found

pub refused_if_never_stored : RefusedIfNeverStored
refused_if_never_stored b k old counters p d l = (refused b k old counters p d, λ never. seven b k old counters p d never l)

-- ---- accepted

module _ (b : Block) (k : ℕ) (counters cells cells' old counters' : List ℕ) (s p : Answer) (e : StoreDemands b k counters cells s cells') (z : s.number ≡ 0)
    (l : length old ≡ length counters) (d : PlanDemands b k old p counters') where
  none : NoneOf (store_refusals b k counters (length cells))
  none = store_accepted b k counters (length cells) s.number e.first z

  right : misreads b (row_counter (width k) counters) (column_counter (width k) b.rows counters) ≡ false
  right = false_iff _ (misread_iff b k counters) none.1.1.1.1.0

  plan_none : NoneOf (plan_refusals b k (length old))
  plan_none = (
    none.0,
    (
      λ n. none.1.0 (λ m. n (subst (PlanLengths b k) (sym l) m.planned)),
      (λ n. none.1.1.0 (inl n), (λ n. clash (reads_wrong b k k counters (up_to_k k (b.rows + b.columns) counters none.1.1.1.0) n) right, tt)),
    ),
  )

  accepted : p.number ≡ 0
  accepted = accepts _ _ plan_none d.first

  each_line : (t : ℕ) → t < b.rows + b.columns → counter (width k) counters' t ≤ counter (width k) counters t
  each_line t u =
      let (rows, columns) = least b _ _ right _ _ (d.counted accepted _ _ (lines (width k) b.rows b.columns counters')) in
      let at : ℕ → Type 0 = λ i. counter (width k) counters' i ≤ counter (width k) counters i in
      ⊎_elim (rows t) (λ v. let q : b.rows + (t - b.rows) ≡ t = omega arith in subst at q (columns (t - b.rows) (omega arith))) (lt_or_le t b.rows)

  no_worse : NoWorse b k counters counters' s p
  no_worse = record {
    accepted = accepted;
    levels = fewest b k p.levels s.levels _ _ (d.deepest accepted) right (at_most b k s.levels counters (e.deepest z).exceeded);
    lines = λ t x y u f g. omega (arith, each_line t u, held_is (width k) t x counters' f, held_is (width k) t y counters g);
  }

pub store_then_plan : StoreThenPlan
store_then_plan b k counters cells cells' old counters' s p e z l d = no_worse b k counters cells cells' old counters' s p e z l d
