-- Up to three levels a read, a plan's bytes and a store's cells are what they were before there were more; and the longest counters. Assumes nothing.
use Prim.Native.Nat.{ℕ, ◌+◌, ◌*◌, ◌≤◌}
use mathlib.Core.Path.{◌≡◌, sym, ap, ap₂, ◌∙◌}
use mathlib.Core.Bool.{Bool, true, false, not, cond, ◌&&◌, ◌||◌}
use mathlib.Core.List.{List}
use native.Mathlib.Nat.{mul-le-mul}
use native.Mathlib.Omega.{arith}
use borrow.Author.Tests.{le-leb}
use lib.Dec.{eqb, leb, ltb}
use lib.ListN.{length}
use Rattle.bits.specs.Bits.{some, first}
use Rattle.rdis.specs.Levels.{plan}
use Rattle.rdis.specs.Cells.{stored}
use Rattle.rdis.specs.Packing.{width, bytes_for, in_order, counter, row_counter, column_counter, spare_clear, above, first_above}
use Rattle.rdis.proofs.PackingLaws.{old_width_kept}
use Rattle.grid_promises.specs.Calls.{between, in_range, counters_sized, past, read_number, bad_index, rows_of, columns_of}
use Rattle.grid_promises.specs.Theorems.{LongestCounters, OldPlanKept, OldStoreKept, old_read_number, OldReadKept}

-- the number of a read by whether the range is kept and by the width of a counter
abbrev number_by : ℕ → ℕ → ℕ → List ℕ → List ℕ → ℕ → Bool → ℕ → ℕ
number_by m n k cells counters out range w =
    cond (not range) 1
    (cond (not ((eqb (length cells) m && eqb out m) && eqb (length counters) (bytes_for w (m + n)))) 2
    (cond (past n cells || not (spare_clear w (m + n) counters)) 3 (cond (some (m + n) (λ t. ltb k (counter w counters t))) 4 0)))

-- K up to three lies in both ranges
same_range : (m n k : ℕ) → k ≤ 3 → in_range m n k ≡ between 1 64 m && (between 1 64 n && between 1 3 k)
unfolding in_range
same_range m n k h = ap (λ t. between 1 64 m && (between 1 64 n && (leb 1 k && t))) (le-leb k 7 (omega arith) ∙ sym (le-leb k 3 h))

old_number : (m n k : ℕ) (cells counters : List ℕ) (out : ℕ) → k ≤ 3 → read_number m n k cells counters out ≡ old_read_number m n k cells counters out
unfolding read_number counters_sized above
old_number m n k cells counters out h = ap₂ (number_by m n k cells counters out) (same_range m n k h) (old_width_kept k h).bits

pub old_plan_kept : OldPlanKept
old_plan_kept b k counters a x h e z = e.counters_are z ∙ (old_width_kept k h).packs (in_order b.rows b.columns (rows_of (plan b k)) (columns_of (plan b k)))

pub old_store_kept : OldStoreKept
old_store_kept b k counters cells a x h e z =
    e.cells_are z ∙ ap (λ w. stored b (row_counter w counters) (column_counter w b.rows counters)) (old_width_kept k h).bits

-- three bits at most, of 128 counters
few_bits : (a b : Bool) → let w : ℕ = cond a 1 (cond b 2 3) in w ≤ 3
few_bits true b = omega arith
few_bits false true = omega arith
few_bits false false = omega arith

pub longest_counters : LongestCounters
unfolding width bytes_for
longest_counters m n k r =
    let w : ℕ = cond (leb k 1) 1 (cond (leb k 3) 2 3) in
    let few : m + n ≤ 128 = omega (arith, r.rows.1, r.columns.1) in
    let bits : w * (m + n) ≤ 3 * 128 = mul-le-mul (few_bits (leb k 1) (leb k 3)) few in
    omega arith

pub old_read_kept : OldReadKept
unfolding bad_index first_above
old_read_kept m n k cells counters out a x h e = record {
  number = e.number ∙ old_number m n k cells counters (length out) h;
  index = e.index_is ∙ ap (λ w. cond (eqb a.number 4) (first (m + n) (λ t. ltb k (counter w counters t))) 0) (old_width_kept k h).bits;
  untouched = e.untouched;
  shown = λ z. e.shown z ∙ (old_width_kept k h).reads m n counters cells;
}
