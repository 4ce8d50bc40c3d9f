-- No counters do better than a plan's: where it fails, none that are allowed would do, and else its own are the least. Assumes nothing.
use Prim.Native.Nat.{ℕ, zero, suc, ◌+◌, ◌-◌, ◌*◌, ◌%◌, ◌≤◌, ◌<◌, min}
use mathlib.Core.Path.{◌≡◌, refl, sym, ap, subst, ◌∙◌}
use mathlib.Core.Bool.{Bool, true, false, not, xor, cond, ◌&&◌}
use mathlib.Core.Logic.{⊎_elim}
use native.Mathlib.Omega.{arith}
use borrow.Author.Tests.{not-true}
use lib.Dec.{eqb}
use Rattle.bits.specs.Bits.{has}
use Rattle.bits.proofs.TestLaws.{clash, true_or_false, xor_none, xor_back}
use Rattle.rdis.specs.Block.{Block, bit, stuck, differs, faulty}
use Rattle.rdis.specs.Levels.{Subgrid, whole, taken, Outcome, masked, unmaskable, plan}
use Rattle.rdis.specs.Cells.{flips, misreads}
use Rattle.rdis.specs.Chains.{Cell, Way, by_row, by_column, line}
use Rattle.rdis.specs.Facts.{LevelsUsed, CountsLevels}
use Rattle.rdis.specs.Theorems.{Masked, AtMost, ChainExceeds, ChainMisreads, RefusedIfNoCounters, MaskedIfAny, LeastCounters, FewestLevels}
use Rattle.rdis.proofs.Walks.{turns_once, colour}
use Rattle.rdis.proofs.Taking.{own, each, In, line_out, left_out, Long, long_suc, long_zero}
use Rattle.rdis.proofs.LevelLaws.{chain_long, refused_by_chain, levels_by_chain}
use Rattle.rdis.proofs.CounterLaws.{tally, counters_at_most}
use Rattle.rdis.proofs.CellLaws.{none_misread, plan_reads}
use Rattle.rdis.proofs.TakenLaws.{even, levels_counted}

-- ---- one cell

-- where the smaller of two counters that are at least t is odd exactly if t is even, both are above t
both_above : (t x y : ℕ) → t ≤ x → t ≤ y → eqb (min x y % 2) 1 ≡ colour true t → (t < x) × (t < y)
both_above t x y p q h = (omega (arith, other), omega (arith, other))
  where
    one_parity : (z : ℕ) → z < 2 → eqb z 1 ≡ eqb z 0 → ⊥
    one_parity zero l e = clash e refl
    one_parity (suc zero) l e = clash refl e
    one_parity (suc (suc z)) l e = omega arith

    other : min x y ≡ t → ⊥
    other e = one_parity (t % 2) (omega arith) (ap (λ n. eqb (n % 2) 1) (sym e) ∙ h ∙ even t)

-- a stuck cell of the colour w that does not read wrong is inverted exactly if w
is_flipped : (s d v f w : Bool) → s && xor (xor f v) d ≡ false → s && cond w (xor d v) (not (xor d v)) ≡ true → f ≡ w
is_flipped true d v f w g h = sym same ∙ go w (xor d v) h
  where
    same : xor d v ≡ f
    same = ap (λ x. xor x v) ((xor_none (xor f v) d).0 g) ∙ xor_back f v

    go : (w x : Bool) → cond w x (not x) ≡ true → x ≡ w
    go true x e = e
    go false x e = not-true x e
is_flipped false d v f w g h = clash h refl

-- ---- counters by which no stuck cell reads wrong

module _ (b : Block) (r c : ℕ → ℕ) (right : misreads b r c ≡ false) where
  -- a stuck cell of the colour of level t whose counters are at least t has both above t
  exceeds : (t i j : ℕ) → i < b.rows → j < b.columns → t ≤ r i → t ≤ c j → faulty b (colour true t) i j ≡ true → (t < r i) × (t < c j)
  unfolding flips faulty differs
  exceeds t i j p q x y h =
      both_above t (r i) (c j) x y
      (is_flipped (stuck b i j) (bit b.data· i j) (bit b.values i j) (flips r c i j) (colour true t) ((none_misread b r c).0 right i j p q) h)

  -- so each level raises the counters of the lines that it takes
  abbrev Lines : ℕ → Subgrid → Type 0
  Lines t s = (d : Way) (i : ℕ) → has (own d s) i ≡ true → t ≤ tally d r c i

  raised : (t : ℕ) (s : Subgrid) (e : Cell) → Lines t s → In b s (colour true t) e → (d : Way) → t < tally d r c (line d e)
  raised t s e h f =
      let reached : (d : Way) → t ≤ tally d r c (line d e) = λ d. h d (line d e) (f.lines d) in
      let (x, y) = exceeds t e.row e.column f.cell.0 f.cell.1 (reached by_row) (reached by_column) f.cell.2 in
      each (λ d. t < tally d r c (line d e)) x y

  lines_raised : (t : ℕ) (s : Subgrid) → Lines t s → Lines (suc t) (taken b (colour true t) s)
  lines_raised t s h d i q = let (_, (e, f, p)) = line_out b (colour true t) s d i q in rw p (raised t s e h f d)

  -- a walk for k levels more ends on a cell with both counters above t + k
  above : (k t : ℕ) (s : Subgrid) → Lines t s → Long b (colour true t) s k
      → (i : ℕ) × (j : ℕ) × (i < b.rows) × (j < b.columns) × (t + k < r i) × (t + k < c j)
  above zero t s h x =
      let (e, f) = left_out b (colour true t) s ((long_zero b (colour true t) s).0 x) in
      (e.row, e.column, f.cell.0, f.cell.1, omega (arith, raised t s e h f by_row), omega (arith, raised t s e h f by_column))
  above (suc k) t s h x =
      let s' = taken b (colour true t) s in
      let y = subst (λ w. Long b w s' k) (sym (turns_once not true t)) ((long_suc b (colour true t) s k).0 x) in
      let (i, j, p, q, u, v) = above k (suc t) s' (lines_raised t s h) y in
      (i, j, p, q, omega arith, omega arith)

  -- level by level, they are at least those that count the levels
  at_least : (r' c' : ℕ → ℕ) → CountsLevels b r' c' → (t : ℕ) → ((i : ℕ) → i < b.rows → t ≤ r' i → t ≤ r i) × ((j : ℕ) → j < b.columns → t ≤ c' j → t ≤ c j)
  at_least r' c' h zero = (λ i l p. omega arith, λ j l p. omega arith)
  at_least r' c' h (suc t) =
      let (x, y) = at_least r' c' h t in (
        λ i l p. let (u, (j, m, v, f)) = (h.rows i t l).0 (omega arith) in (exceeds t i j l m (x i l u) (y j m v) (ap (λ w. faulty b w i j) (even t) ∙ f)).0,
        λ j l p. let (u, (i, m, v, f)) = (h.columns j t l).0 (omega arith) in (exceeds t i j m l (x i m v) (y j l u) (ap (λ w. faulty b w i j) (even t) ∙ f)).1,
      )

  pub least : (r' c' : ℕ → ℕ) → CountsLevels b r' c' → ((i : ℕ) → i < b.rows → r' i ≤ r i) × ((j : ℕ) → j < b.columns → c' j ≤ c j)
  least r' c' h = (λ i l. (at_least r' c' h (r' i)).0 i l (omega arith), λ j l. (at_least r' c' h (c' j)).1 j l (omega arith))

-- ---- the theorems

pub chain_exceeds : ChainExceeds
chain_exceeds b k r c h right =
    let (i, j, p, q, u, v) = above b r c right k 0 (whole b) (λ d i _. omega arith) ((chain_long b k).0 h) in
    (i, j, p, q, omega arith, omega arith)

pub chain_misreads : ChainMisreads
chain_misreads b k r c h (most, _) =
    ⊎_elim (λ e. e) (λ e. let (i, j, p, q, u, v) = chain_exceeds b k r c h e in absurd (omega (arith, most i p))) (true_or_false (misreads b r c))

plan_at_most : (b : Block) (k l : ℕ) (r c : ℕ → ℕ) → Masked b k l r c → AtMost b k r c
plan_at_most b k l r c e =
    let (x, y) = counters_at_most b k l r c e in
    let most = (levels_by_chain b k l r c e).most in
    (λ i _. omega (arith, x i, most), λ j _. omega (arith, y j, most))

pub refused_if_no_counters : RefusedIfNoCounters
refused_if_no_counters b k = (λ e r c. chain_misreads b k r c ((refused_by_chain b k).0 e), λ h. go h (plan b k) refl)
  where
    go : ((r c : ℕ → ℕ) → AtMost b k r c → misreads b r c ≡ true) → (o : Outcome) → plan b k ≡ o → o ≡ unmaskable
    go h unmaskable e = refl
    go h (masked l r c) e = clash (h r c (plan_at_most b k l r c e)) (plan_reads b k l r c e)

pub masked_if_any : MaskedIfAny
masked_if_any b k r c most right = go (plan b k) refl
  where
    go : (o : Outcome) → plan b k ≡ o → (l : ℕ) × (r' : ℕ → ℕ) × (c' : ℕ → ℕ) × Masked b k l r' c'
    go unmaskable e = clash ((refused_if_no_counters b k).0 e r c most) right
    go (masked l r' c') e = (l, r', c', e)

pub least_counters : LeastCounters
least_counters b k l r c r' c' e right = least b r' c' right r c (levels_counted b k l r c e)

pub fewest : (b : Block) (k l m : ℕ) (r c : ℕ → ℕ) → LevelsUsed b k l → misreads b r c ≡ false → AtMost b m r c → l ≤ m
fewest b k zero m r c u right most = omega arith
fewest b k (suc l) m r c u right most =
    let e : 2 * suc l - 1 ≡ 2 * l + 1 = omega arith in
    let (i, j, p, q, x, y) = chain_exceeds b l r c (rw (← e) (u.reached (omega arith))) right in
    omega (arith, most.0 i p)

pub fewest_levels : FewestLevels
fewest_levels b k l m r c r' c' e = fewest b k l m r' c' (levels_by_chain b k l r c e)
