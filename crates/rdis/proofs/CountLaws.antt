-- Counts of cells: the mask's ones, the stuck cells and their two kinds, and that distinct cells which pass a test are at most so many as do. Assumes nothing.
use Prim.Native.Nat.{ℕ, zero, suc, ◌+◌, ◌≤◌, ◌<◌}
use mathlib.Core.Path.{◌≡◌, refl, sym, ap, ◌∙◌}
use mathlib.Core.Bool.{Bool, true, false, not, ◌&&◌, and-true, and-false}
use mathlib.Core.List.{List}
use native.Mathlib.Omega.{arith}
use borrow.Author.Tests.{eqb-true}
use lib.Count.{ones}
use lib.Dec.{eqb}
use lib.ListN.{get_or}
use Rattle.bits.specs.Bits.{num, sum}
use Rattle.bits.proofs.TestLaws.{false_when, and_left, and_right, eqb_same}
use Rattle.bits.proofs.BoundLaws.{sum_ext, sum_le, sum_add, sum_raise}
use Rattle.bits.proofs.BitLaws.{ones_bits, bits_ones}
use Rattle.rdis.specs.Block.{bit, stuck, differs, faulty, count, stuck_cells, faults}
use Rattle.rdis.specs.Chains.{Cell}
use Rattle.rdis.specs.Theorems.{FaultsAreCells, TwoKinds}

-- ---- the mask

pub faults_are_cells : FaultsAreCells
unfolding faults count bit
faults_are_cells m n mask h = sum_ext m (λ i. ones (get_or mask i 0)) (λ i. sum n (λ j. num (bit mask i j))) (λ i _. ones_bits n (get_or mask i 0) (h i))

-- whatever the mask, its stuck cells are at most its ones
pub cells_faults : (m n : ℕ) (mask : List ℕ) → stuck_cells m n mask ≤ faults m mask
unfolding faults count bit
cells_faults m n mask = sum_le m (λ i. sum n (λ j. num (bit mask i j))) (λ i. ones (get_or mask i 0)) (λ i _. bits_ones n (get_or mask i 0))

-- ---- the two kinds

pub count_ext : (m n : ℕ) (p q : ℕ → ℕ → Bool) → ((i j : ℕ) → i < m → j < n → p i j ≡ q i j) → count m n p ≡ count m n q
unfolding count
count_ext m n p q e = sum_ext m _ _ (λ i l. sum_ext n _ _ (λ j k. ap num (e i j l k)))

-- where each cell that passes p passes one of q and r, and no other does
count_both : (m n : ℕ) (p q r : ℕ → ℕ → Bool) → ((i j : ℕ) → num (p i j) ≡ num (q i j) + num (r i j)) → count m n p ≡ count m n q + count m n r
unfolding count
count_both m n p q r e =
    sum_ext m _ _ (λ i _. sum_ext n _ _ (λ j _. e i j) ∙ sum_add n (λ j. num (q i j)) (λ j. num (r i j)))
    ∙ sum_add m (λ i. sum n (λ j. num (q i j))) (λ i. sum n (λ j. num (r i j)))

one_kind : (s x : Bool) → num s ≡ num (s && x) + num (s && not x)
one_kind true true = refl
one_kind true false = refl
one_kind false x = refl

pub two_kinds : TwoKinds
unfolding faulty
two_kinds b = count_both b.rows b.columns (stuck b) (faulty b true) (faulty b false) (λ i j. one_kind (stuck b i j) (differs b i j))

-- ---- distinct cells

-- the test, with the cell (a, c) left out
without : (ℕ → ℕ → Bool) → ℕ → ℕ → ℕ → ℕ → Bool
without p a c i j = p i j && not (eqb i a && eqb j c)

without_same : (p : ℕ → ℕ → Bool) (a c : ℕ) → without p a c a c ≡ false
unfolding without
without_same p a c = rw (eqb_same a, eqb_same c) (and-false (p a c))

without_other : (p : ℕ → ℕ → Bool) (a c i j : ℕ) → (i ≡ a → j ≡ c → ⊥) → p i j ≡ without p a c i j
unfolding without
without_other p a c i j h =
    let e : eqb i a && eqb j c ≡ false = false_when _ (λ x. h (eqb-true i a (and_left (eqb i a) (eqb j c) x)) (eqb-true j c (and_right (eqb i a) (eqb j c) x))) in
    rw e (sym (and-true (p i j)))

count_without : (m n : ℕ) (p : ℕ → ℕ → Bool) (a c : ℕ) → a < m → c < n → p a c ≡ true → count m n p ≡ 1 + count m n (without p a c)
unfolding count
count_without m n p a c l k h =
    sum_raise m (λ i. sum n (λ j. num (p i j))) (λ i. sum n (λ j. num (without p a c i j))) a 1 l
    (sum_raise n (λ j. num (p a j)) (λ j. num (without p a c a j)) c 1 k (rw (h, without_same p a c)) (λ j q. ap num (without_other p a c a j (λ _ e. q e))))
    (λ i q. sum_ext n (λ j. num (p i j)) (λ j. num (without p a c i j)) (λ j _. ap num (without_other p a c i j (λ e _. q e))))

pub distinct_cells : (m n N : ℕ) (f : ℕ → Cell) (p : ℕ → ℕ → Bool)
    → ((k : ℕ) → k < N → ((f k).row < m) × ((f k).column < n) × (p (f k).row (f k).column ≡ true))
    → ((k l : ℕ) → k < l → l < N → (f k).row ≡ (f l).row → (f k).column ≡ (f l).column → ⊥)
    → N ≤ count m n p
distinct_cells m n zero f p h apart = omega arith
distinct_cells m n (suc N) f p h apart =
    let a = (f N).row in
    let c = (f N).column in
    let (x, y, z) = h N (omega arith) in
    let others : N ≤ count m n (without p a c) =
    distinct_cells m n N f (without p a c)
    (λ k l. let (u, v, t) = h k (omega arith) in (u, v, sym (without_other p a c (f k).row (f k).column (λ e g. apart k N l (omega arith) e g)) ∙ t))
    (λ k l q r. apart k l q (omega arith)) in
    omega (arith, count_without m n p a c x y z)
