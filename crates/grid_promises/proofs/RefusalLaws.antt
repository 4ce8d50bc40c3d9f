-- The tests of a number test what the refusals say, and the number is the first refusal that applies. Assumes nothing.
use Prim.Native.Nat.{ℕ, ◌+◌, ◌*◌, ◌/◌, ◌^◌, ◌≤◌}
use mathlib.Core.Path.{◌≡◌, refl, sym, ap, subst, ◌∙◌}
use mathlib.Core.Bool.{Bool, true, false, not, xor}
use mathlib.Core.List.{List, [], ◌∷◌}
use mathlib.Core.Logic.Iff
use mathlib.Core.Logic.{◌↔◌, ◌⊎◌, ◌≢◌, inl, inr, ⊎_elim}
use native.Mathlib.Nat.{mod-lt}
use native.Mathlib.Omega.{arith}
use borrow.Author.Tests.{leb-false, lt-leb}
use lib.Dec.{leb, lit<}
use lib.ListN.{length, get_or}
use lib.Pow.{pow_pos}
use Rattle.bits.specs.Bits.{has, number, Below}
use Rattle.bits.specs.First.{Refusal, ◌when◌, First}
use Rattle.bits.proofs.TestLaws.{clash, true_or_false, xor_none, lt_or_le, leb_iff, ltb_iff, eqb_iff, not_iff, and_iff, or_iff}
use Rattle.bits.proofs.FirstLaws.{skip, told, last, missed, first_test, first_none, NoneOf, accepted}
use Rattle.bits.proofs.BoundLaws.{none_below, some_none, some_iff}
use Rattle.bits.proofs.BitLaws.{has_zero, has_ext, has_low, has_shr, high_bit}
use Rattle.bits.proofs.ByteLaws.{past_end, below_all}
use Rattle.rdis.specs.Block.{Block, bit, stuck}
use Rattle.rdis.specs.Levels.{Outcome, masked, unmaskable, plan}
use Rattle.rdis.specs.Chains.{HasChain}
use Rattle.rdis.specs.Cells.{flips, misreads}
use Rattle.rdis.specs.Packing.{width, bytes_for, counter, row_counter, column_counter, spare_clear, above}
use Rattle.rdis.proofs.LevelLaws.{refused_by_chain}
use Rattle.grid_promises.specs.Calls.{between, in_range, counters_sized, past, read_sized, read_past, read_number, rows_sized, plan_sized, plan_past, refusal, plan_number, store_sized, store_past, store_number}
use Rattle.grid_promises.specs.Refusals.{InRange, ReadLengths, PlanLengths, StoreLengths, Past, Spare, Held, Above, inverted, PastBlock, Misread}
use Rattle.grid_promises.specs.Refusals.{read_refusals, plan_refusals, store_refusals}

-- ---- each test

between_iff : (first last x : ℕ) → (between first last x ≡ true) ↔ ((first ≤ x) × (x ≤ last))
between_iff first last x = and_iff (leb first x) (leb_iff first x) (leb x last) (leb_iff x last)

pub in_range_lem : (m n k : ℕ) → (in_range m n k ≡ true) ↔ InRange m n k
unfolding in_range
in_range_lem m n k =
    Iff.trans (and_iff _ (between_iff _ _ m) _ (and_iff _ (between_iff _ _ n) _ (between_iff _ _ k)))
    (λ (x, (y, z)). record { rows = x; columns = y; levels = z }, λ r. (r.rows, (r.columns, r.levels)))

pub counters_sized_lem : (m n k counters : ℕ) → (counters_sized m n k counters ≡ true) ↔ (counters ≡ bytes_for (width k) (m + n))
unfolding counters_sized
counters_sized_lem m n k counters = eqb_iff counters (bytes_for (width k) (m + n))

pub read_sized_lem : (m n k cells counters out : ℕ) → (read_sized m n k cells counters out ≡ true) ↔ ReadLengths m n k cells counters out
read_sized_lem m n k cells counters out =
    Iff.trans (and_iff _ (and_iff _ (eqb_iff cells m) _ (eqb_iff out m)) _ (counters_sized_lem m n k counters))
    (λ ((x, y), z). record { cell_words = x; counter_bytes = z; out_words = y }, λ r. ((r.cell_words, r.out_words), r.counter_bytes))

rows_sized_lem : (b : Block) → (rows_sized b ≡ true) ↔ ((length b.data· ≡ b.rows) × ((length b.mask ≡ b.rows) × (length b.values ≡ b.rows)))
rows_sized_lem b =
    and_iff _ (eqb_iff (length b.data·) b.rows) _ (and_iff _ (eqb_iff (length b.mask) b.rows) _ (eqb_iff (length b.values) b.rows))

pub plan_sized_lem : (b : Block) (k counters : ℕ) → (plan_sized b k counters ≡ true) ↔ PlanLengths b k counters
plan_sized_lem b k counters =
    Iff.trans (and_iff _ (rows_sized_lem b) _ (counters_sized_lem b.rows b.columns k counters)) (
      λ ((x, (y, z)), v). record { data_words = x; mask_words = y; value_words = z; counter_bytes = v },
      λ r. ((r.data_words, (r.mask_words, r.value_words)), r.counter_bytes),
    )

pub store_sized_lem : (b : Block) (k counters cells : ℕ) → (store_sized b k counters cells ≡ true) ↔ StoreLengths b k counters cells
store_sized_lem b k counters cells =
    Iff.trans (and_iff _ (and_iff _ (rows_sized_lem b) _ (eqb_iff cells b.rows)) _ (counters_sized_lem b.rows b.columns k counters)) (
      λ (((x, (y, z)), u), v). record { planned = record { data_words = x; mask_words = y; value_words = z; counter_bytes = v }; cell_words = u },
      λ r. let p = r.planned in (((p.data_words, (p.mask_words, p.value_words)), r.cell_words), p.counter_bytes),
    )

-- lengths that are right for a plan are right for a store too, with counters and cells of their own lengths
pub plan_to_store : {b : Block} {k old counters cells : ℕ} → PlanLengths b k old → counters ≡ bytes_for (width k) (b.rows + b.columns) → cells ≡ b.rows
    → StoreLengths b k counters cells
plan_to_store m c l = record { planned = record { data_words = m.data_words; mask_words = m.mask_words; value_words = m.value_words; counter_bytes = c }; cell_words = l }

-- words without bits past the last column are numbers of n bits
pub within : (n : ℕ) (ws : List ℕ) → (past n ws ≡ false) ↔ Below (2 ^ n) ws
unfolding past
within n ws = (
  λ h. below_all (length ws) (2 ^ n) ws (pow_pos n) refl (λ i l. leb-false (2 ^ n) (get_or ws i 0) (none_below (length ws) _ h i l)),
  λ h. some_none (length ws) _ (λ i l. lt-leb (2 ^ n) (get_or ws i 0) (h i)),
)

pub past_iff : (n : ℕ) (ws : List ℕ) → (past n ws ≡ true) ↔ Past n ws
unfolding past bit
past_iff n ws =
    Iff.trans (some_iff (length ws) _ _ (λ i. Iff.trans (leb_iff (2 ^ n) (get_or ws i 0)) (high_bit n (get_or ws i 0)))) (
      λ (i, l, (j, p, q)). (i, j, p, q),
      λ (i, j, p, q). (i, ⊎_elim (λ l. l) (λ l. clash q (ap (λ x. has x j) (past_end ws i l) ∙ has_zero j)) (lt_or_le i (length ws)), (j, p, q)),
    )

pub spare_iff : (w n : ℕ) (bs : List ℕ) → (not (spare_clear w n bs) ≡ true) ↔ Spare w n bs
unfolding spare_clear
spare_iff w n bs =
    Iff.trans (Iff.trans (not_iff _ (ltb_iff (number 256 bs) (2 ^ (w * n)))) (λ h. ⊎_elim (λ l. absurd (h l)) (λ l. l) (lt_or_le (number 256 bs) (2 ^ (w * n))), λ h l. omega arith))
    (high_bit (w * n) (number 256 bs))

read_past_iff : (m n k : ℕ) (cells counters : List ℕ) → (read_past m n k cells counters ≡ true) ↔ (Past n cells ⊎ Spare (width k) (m + n) counters)
read_past_iff m n k cells counters = or_iff _ (past_iff n cells) _ (spare_iff (width k) (m + n) counters)

pub plan_past_iff : (b : Block) → (plan_past b ≡ true) ↔ PastBlock b
plan_past_iff b = or_iff _ (past_iff b.columns b.data·) _ (or_iff _ (past_iff b.columns b.mask) _ (past_iff b.columns b.values))

store_past_iff : (b : Block) (k : ℕ) (counters : List ℕ) → (store_past b k counters ≡ true) ↔ (PastBlock b ⊎ Spare (width k) (b.rows + b.columns) counters)
store_past_iff b k counters = or_iff _ (plan_past_iff b) _ (spare_iff (width k) (b.rows + b.columns) counters)

-- a counter is what its bits make, and nothing else is
pub counter_held : (w t : ℕ) (bs : List ℕ) → Held w bs t (counter w bs t)
unfolding counter
counter_held w t bs = (mod-lt (number 256 bs / 2 ^ (w * t)) (pow_pos w), λ q p. has_low w (number 256 bs / 2 ^ (w * t)) q p ∙ has_shr (number 256 bs) (w * t) q)

pub held_is : (w t x : ℕ) (bs : List ℕ) → Held w bs t x → counter w bs t ≡ x
held_is w t x bs (l, f) = let (m, g) = counter_held w t bs in has_ext w (counter w bs t) x m l (λ q p. g q p ∙ sym (f q p))

pub above_iff : (n k : ℕ) (counters : List ℕ) → (above k n counters ≡ true) ↔ Above k n counters
unfolding above
above_iff n k counters = some_iff n _ _ (λ t. Iff.trans (ltb_iff k (counter (width k) counters t)) (
  λ h. (counter (width k) counters t, counter_held (width k) t counters, h),
  λ (x, held, h). rw (held_is (width k) t x counters held) h,
))

-- two bits differ
differ_iff : (a b : Bool) → (xor a b ≡ true) ↔ (a ≢ b)
differ_iff a b = (λ h e. clash h ((xor_none a b).1 (sym e)), λ n. ⊎_elim (λ h. h) (λ h. absurd (n (sym ((xor_none a b).0 h)))) (true_or_false (xor a b)))

pub misread_iff : (b : Block) (k : ℕ) (counters : List ℕ)
    → (misreads b (row_counter (width k) counters) (column_counter (width k) b.rows counters) ≡ true) ↔ Misread b k counters
unfolding misreads flips
misread_iff b k counters =
    let r = row_counter (width k) counters in
    let c = column_counter (width k) b.rows counters in
    Iff.trans
    (some_iff b.rows _ _ (λ i. some_iff b.columns _ _ (λ j.
    and_iff (stuck b i j) (λ h. h, λ h. h) (xor (inverted (r i) (c j) (bit b.values i j)) (bit b.data· i j)) (differ_iff (inverted (r i) (c j) (bit b.values i j)) (bit b.data· i j))))) (
      λ (i, p, (j, q, (s, w))). record {
        i = i;
        j = j;
        inside = (p, q);
        is_stuck = s;
        x = r i;
        y = c j;
        of_row = counter_held (width k) i counters;
        of_column = counter_held (width k) (b.rows + j) counters;
        wrong = w;
      },
      λ m. (
        m.i,
        m.inside.0,
        (
          m.j,
          m.inside.1,
          (
            m.is_stuck,
            subst (λ x. inverted x (c m.j) (bit b.values m.i m.j) ≢ bit b.data· m.i m.j) (sym (held_is (width k) m.i m.x counters m.of_row))
                (subst (λ y. inverted m.x y (bit b.values m.i m.j) ≢ bit b.data· m.i m.j) (sym (held_is (width k) (b.rows + m.j) m.y counters m.of_column)) m.wrong),
          ),
        ),
      ),
    )

-- ---- a read

module _ (m n k : ℕ) (cells counters : List ℕ) (out : ℕ) where
  abbrev pub reads : List Refusal
  reads = read_refusals m n k cells counters out

  pub read_first : First reads (read_number m n k cells counters out)
  unfolding read_number
  read_first =
      first_test 1 _ _ _ _ (not_iff _ (in_range_lem m n k)) (λ _.
      first_test 2 _ _ _ _ (not_iff _ (read_sized_lem m n k (length cells) (length counters) out)) (λ _.
      first_test 3 _ _ _ _ (read_past_iff m n k cells counters) (λ _.
      first_test 4 0 _ [] _ (above_iff (m + n) k counters) (λ _. first_none))))

  pub read_4 : (x : ℕ) → First reads x → x ≡ 4 → Above k (m + n) counters
  read_4 x f z = last (skip (skip (skip f (λ e. omega arith)) (λ e. omega arith)) (λ e. omega arith)) (omega arith)

-- ---- a plan

module _ (b : Block) (k counters : ℕ) where
  abbrev pub plans : List Refusal
  plans = plan_refusals b k counters

  -- the levels refuse exactly where there is the chain
  by_levels : (o : Outcome) → plan b k ≡ o → First ((7 when HasChain b (2 * k + 1)) ∷ []) (refusal o)
  by_levels (masked l r c) e =
      record { found = inr (λ h. let f : plan b k ≡ unmaskable = (refused_by_chain b k).1 h in let g : ◌≡◌ {A = ℕ} 0 1 = cc in omega arith, refl) }
  by_levels unmaskable e = record { found = inl ((refused_by_chain b k).0 e, refl) }

  pub plan_first : First plans (plan_number b k counters)
  unfolding plan_number
  plan_first =
      first_test 1 _ _ _ _ (not_iff _ (in_range_lem b.rows b.columns k)) (λ _.
      first_test 2 _ _ _ _ (not_iff _ (plan_sized_lem b k counters)) (λ _.
      first_test 3 _ _ _ _ (plan_past_iff b) (λ _. by_levels (plan b k) refl)))

  pub plan_accepted : (x : ℕ) → First plans x → x ≡ 0 → NoneOf plans
  plan_accepted x f z = accepted _ x (lit< tt, (lit< tt, (lit< tt, (lit< tt, tt)))) f z

-- ---- a store

module _ (b : Block) (k : ℕ) (counters : List ℕ) (cells : ℕ) where
  abbrev pub stores : List Refusal
  stores = store_refusals b k counters cells

  pub store_first : First stores (store_number b k counters cells)
  unfolding store_number
  store_first =
      first_test 1 _ _ _ _ (not_iff _ (in_range_lem b.rows b.columns k)) (λ _.
      first_test 2 _ _ _ _ (not_iff _ (store_sized_lem b k (length counters) cells)) (λ _.
      first_test 3 _ _ _ _ (store_past_iff b k counters) (λ _.
      first_test 4 _ _ _ _ (above_iff (b.rows + b.columns) k counters) (λ _.
      first_test 13 0 _ [] _ (misread_iff b k counters) (λ _. first_none)))))

  pub store_4 : (x : ℕ) → First stores x → x ≡ 4 → Above k (b.rows + b.columns) counters
  store_4 x f z = told (skip (skip (skip f (λ e. omega arith)) (λ e. omega arith)) (λ e. omega arith)) (λ r. omega (arith, missed (skip r (λ e. omega arith))))

  pub store_accepted : (x : ℕ) → First stores x → x ≡ 0 → NoneOf stores
  store_accepted x f z = accepted _ x (lit< tt, (lit< tt, (lit< tt, (lit< tt, (lit< tt, tt))))) f z
