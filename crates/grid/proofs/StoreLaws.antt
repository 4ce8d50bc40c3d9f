-- What a code proof cites at each return of a store: from the tests' values and the inverted data to the whole promise. Assumes nothing.
use Prim.Native.Nat.{ℕ, ◌+◌, ◌^◌, ◌<◌, ◌≤◌}
use mathlib.Core.Path.{◌≡◌, refl, sym, ap, subst, ◌∙◌}
use mathlib.Core.Bool.{Bool, true, false, not, xor, cond, ◌&&◌}
use mathlib.Core.List.{List}
use mathlib.Core.Logic.{⊎_elim}
use Rattle.std.specs.Prelude.{Result, Ok, Err}
use native.Mathlib.Omega.{arith}
use lib.Dec.{eqb}
use lib.ListN.{length, get_or}
use Rattle.bits.specs.Bits.{Below}
use Rattle.bits.proofs.TestLaws.{clash, same_test, and_left, lt_or_le}
use Rattle.bits.proofs.BoundLaws.{some_in, some_out}
use Rattle.bits.proofs.BitLaws.{has_high}
use Rattle.bits.proofs.ByteLaws.{has_words}
use Rattle.words.proofs.CopyLaws.{as_long_lem}
use Rattle.rdis.specs.Block.{Block, bit, stuck}
use Rattle.rdis.specs.Cells.{flips, reading, misread, misreads}
use Rattle.rdis.specs.Packing.{width, row_counter, column_counter, above, spare_clear}
use Rattle.rdis.proofs.CellLaws.{length_reading, stored_inverted}
use Rattle.grid_sets.proofs.RoomLaws.{accepts}
use Rattle.refusals.proofs.NumberLaws.{number_some}
use Rattle.refusals.specs.Numbers.{number, index, number_of}
use Rattle.refusals.specs.declared.Refusal.{Refusal}
use Rattle.refusals.specs.declared.Refusal.TheVariants.{BitPastEnd, Misread}
use Rattle.grid_promises.specs.Calls.{in_range, past, read_number, block, plan_past, store_sized, store_number, bad_index}
use Rattle.grid_promises.specs.Refusals.{StoreLengths}
use Rattle.grid_promises.specs.Promises.{Store}
use Rattle.grid_promises.specs.declared.Answer.{Answer}
use Rattle.grid_promises.proofs.RefusalLaws.{in_range_lem, read_sized_lem, store_sized_lem}
use Rattle.grid_promises.proofs.StoreDemands.{store_demands}
use Rattle.grid_promises.proofs.IndexLaws.{no_index}
use Rattle.grid_checks.specs.Numbers.{judged, store_judged}
use Rattle.grid_levels.specs.Steps.{block_of, Accepts, answered}
use Rattle.grid.specs.Steps.{ShowSized, StoreSized, Shows, any_differs}
use Rattle.grid_levels.proofs.Returns.{passes, judged_refusal, none_of, mask_inside}

refused_store : (b : Block) (k : ℕ) (counters cells : List ℕ) (e : Refusal) → number e ≡ store_number b k counters (length cells)
    → index e ≡ bad_index k (b.rows + b.columns) counters (number e) → Store b k counters cells (answered (Err e)) cells
refused_store b k counters cells e n i =
    store_demands b k counters cells (answered (Err e)) cells (record {
      number = n;
      index_is = i;
      untouched = λ _. (record { levels = refl; faults = refl; wrong = refl; right = refl }, refl);
      cells_are = λ z. absurd (omega (arith, number_some e, z));
      levels_are = λ z. absurd (omega (arith, number_some e, z));
      faults_are = λ z. absurd (omega (arith, number_some e, z));
      kinds_are = λ z. absurd (omega (arith, number_some e, z));
    })

-- ---- numbers and lengths

module _ (m n k : ℕ) (d mask values counters cells : List ℕ) where
  abbrev b : Block
  b = block m n d mask values

  abbrev number_judged : ℕ
  number_judged = store_judged m n k (length d) (length mask) (length values) (length counters) (length cells)

  pub store_judged_lem : (e : Refusal) → number e ≡ number_judged → Store b k counters cells (answered (Err e)) cells
  unfolding judged store_number
  store_judged_lem e h =
      let (x, other, i) = judged_refusal (in_range m n k) (store_sized b k (length counters) (length cells)) _ e h in
      refused_store b k counters cells e x (i ∙ sym (no_index k (m + n) counters (number e) other))

  module _ (z : 0 ≡ number_judged) where
    right : (in_range m n k ≡ true) × (store_sized b k (length counters) (length cells) ≡ true)
    unfolding judged
    right = passes (in_range m n k) (store_sized b k (length counters) (length cells)) (sym z)

    store_lengths : StoreLengths b k (length counters) (length cells)
    store_lengths = (store_sized_lem b k (length counters) (length cells)).0 right.1

    -- as many words of each, at most 64
    pub store_rows : (length d ≤ 64) × (length mask ≡ length d) × (length values ≡ length d)
    store_rows =
        let l = store_lengths.planned in
        let w = l.data_words in
        (rw w ((in_range_lem m n k).0 right.0).rows.1, l.mask_words ∙ sym w, l.value_words ∙ sym w)

    pub store_goes_on : StoreSized n k d counters cells
    store_goes_on =
        let l = store_lengths.planned in
        let w = l.data_words in
        record { planned = record { ranges = rw w right.0; sizes = rw w l.counter_bytes }; room = store_lengths.cell_words ∙ sym w }

    pub store_comes_back : (a : Answer) (cells' : List ℕ) → Store (block_of n d mask values) k counters cells a cells' → Store b k counters cells a cells'
    store_comes_back a cells' p = subst (λ y. Store (block y n d mask values) k counters cells a cells') store_lengths.planned.data_words p

-- ---- the words that are judged for 13

-- a bit that is not the stuck value reads as one that is not the data bit
turned : (f d v : Bool) → xor (xor f d) v ≡ xor (xor f v) d
unfolding xor
turned true true true = refl
turned true true false = refl
turned true false true = refl
turned true false false = refl
turned false true true = refl
turned false true false = refl
turned false false true = refl
turned false false false = refl

module _ (b : Block) (r c : ℕ → ℕ) (narrow : b.columns ≤ 64) (masks : Below (2 ^ b.columns) b.mask) where
  abbrev shown : List ℕ
  shown = reading b.rows b.columns r c b.data·

  abbrev judges : ℕ → ℕ → Bool
  judges i j = stuck b i j && xor (bit shown i j) (bit b.values i j)

  judged_cell : (i j : ℕ) → i < b.rows → j < b.columns → judges i j ≡ misread b r c i j
  unfolding reading bit
  judged_cell i j p q =
      ap (λ x. stuck b i j && x)
      (ap (λ x. xor x (bit b.values i j)) (has_words b.rows b.columns _ i j p q) ∙ turned (flips r c i j) (bit b.data· i j) (bit b.values i j))

  -- a stuck cell is within the columns
  stuck_inside : (i j : ℕ) → stuck b i j ≡ true → j < b.columns
  unfolding bit
  stuck_inside i j h = ⊎_elim (λ l. l) (λ l. clash h (has_high b.columns (get_or b.mask i 0) j (masks i) l)) (lt_or_le j b.columns)

  pub judged_is : any_differs shown b.mask b.values ≡ misreads b r c
  unfolding any_differs misreads
  judged_is = rw (length_reading b.rows b.columns r c b.data·) (same_test _ _
      (λ h.
      let (j, _, g) = some_out 64 _ h in
      let (i, p, f) = some_out b.rows _ g in
      let q = stuck_inside i j (and_left _ _ f) in
      some_in b.rows _ i p (some_in b.columns _ j q (sym (judged_cell i j p q) ∙ f)))
      (λ h.
      let (i, p, g) = some_out b.rows _ h in
      let (j, q, f) = some_out b.columns _ g in
      some_in 64 _ j (omega arith) (some_in b.rows _ i p (judged_cell i j p q ∙ f))))

-- ---- the ways to return

-- counters that are refused
not_right : (s a : Bool) (y : ℕ) → (cond {A = ℕ} (not s) 3 (cond a 4 0) ≡ 0 → ⊥) → cond {A = ℕ} (not s) 3 (cond a 4 0) ≡ cond (not s) 3 (cond a 4 y)
not_right true true y h = refl
not_right true false y h = absurd (h refl)
not_right false a y h = refl

module _ (n k : ℕ) (d mask values counters cells : List ℕ) (masks : length mask ≡ length d) (stuck_at : length values ≡ length d) (s : StoreSized n k d counters cells) where
  abbrev own : Block
  own = block_of n d mask values

  lengths_right : store_sized own k (length counters) (length cells) ≡ true
  lengths_right =
      let p = s.planned in
      (store_sized_lem own k (length counters) (length cells)).1
      (record { planned = record { data_words = refl; mask_words = masks; value_words = stuck_at; counter_bytes = p.sizes }; cell_words = s.room })

  pub store_past_lem : plan_past own ≡ true → Store own k counters cells (answered (Err BitPastEnd)) cells
  unfolding store_number
  store_past_lem h =
      refused_store own k counters cells BitPastEnd (rw (s.planned.ranges, lengths_right, h)) (sym (no_index k (length d + n) counters 3 (λ z. omega arith)))

  -- the data, within the columns, is read by the counters
  pub shows_on : plan_past own ≡ false → (apart : List ℕ) → length apart ≡ length d → ShowSized n k d counters apart
  shows_on inside apart l =
      record { ranges = s.planned.ranges; sizes = s.planned.sizes; room = l; inside = (none_of (past n d) (past n mask) (past n values) inside).0 }

  module _ (inside : plan_past own ≡ false) (apart apart' : List ℕ) (l : length apart ≡ length d) where
    abbrev rows : ℕ → ℕ
    rows = row_counter (width k) counters

    abbrev columns : ℕ → ℕ
    columns = column_counter (width k) (length d) counters

    ranges : in_range (length d) n k ≡ true
    ranges = s.planned.ranges

    -- of the counters alone: numbers and lengths are right, and the data is within the columns
    number_is : (r : Result ℕ Refusal) → Shows (length d) n k k d counters apart r apart'
        → number_of r ≡ cond (not (spare_clear (width k) (length d + n) counters)) 3 (cond (above k (length d + n) counters) 4 0)
    unfolding read_number
    number_is r i =
        let sizes = (read_sized_lem (length d) n k (length d) (length counters) (length apart)).1 (record { cell_words = refl; counter_bytes = s.planned.sizes; out_words = l }) in
        i.reads.exactly.number ∙ rw (ranges, sizes, (none_of (past n d) (past n mask) (past n values) inside).0)

    pub store_refused_lem : (e : Refusal) → Shows (length d) n k k d counters apart (Err e) apart' → Store own k counters cells (answered (Err e)) cells
    unfolding store_number
    store_refused_lem e i =
        let f = number_is (Err e) i in
        refused_store own k counters cells e
        (f ∙ rw (ranges, lengths_right, inside) (not_right (spare_clear (width k) (length d + n) counters) (above k (length d + n) counters) _ (λ z. omega (arith, number_some e, f ∙ z))))
        i.reads.exactly.index_is

    -- the counters are accepted, and what they show of the data is judged
    module _ (levels : ℕ) (i : Shows (length d) n k k d counters apart (Ok levels) apart') where
      shown_is : apart' ≡ reading (length d) n rows columns d
      shown_is = i.reads.exactly.shown refl

      as_many : length apart' ≡ length d
      as_many = ap length shown_is ∙ length_reading (length d) n rows columns d

      right_counters : (spare_clear (width k) (length d + n) counters ≡ true) × (above k (length d + n) counters ≡ false)
      right_counters = accepts (spare_clear (width k) (length d + n) counters) (above k (length d + n) counters) (sym (number_is (Ok levels) i))

      module _ (wrong : Bool) (e : wrong ≡ any_differs apart' mask values) where
        judged_right : wrong ≡ misreads own rows columns
        judged_right =
            e ∙ ap (λ x. any_differs x mask values) shown_is
            ∙ judged_is own rows columns ((in_range_lem (length d) n k).0 ranges).columns.1 (mask_inside n d mask values inside)

        pub store_misread : wrong ≡ true → Store own k counters cells (answered (Err Misread)) cells
        unfolding store_number
        store_misread h =
            let right : misreads own rows columns ≡ true = sym judged_right ∙ h in
            refused_store own k counters cells Misread (rw (ranges, lengths_right, inside, right_counters.0, right_counters.1, right))
            (sym (no_index k (length d + n) counters 13 (λ z. omega arith)))

        pub store_done : (a : Answer) (cells' : List ℕ) → wrong ≡ false → Accepts d mask values levels a
            → cells' ≡ cond (eqb (length cells) (length apart')) apart' cells → Store own k counters cells a cells'
        unfolding store_number
        store_done a cells' h f g =
            let right : misreads own rows columns ≡ false = sym judged_right ∙ h in
            store_demands own k counters cells a cells' (record {
              number = f.number ∙ rw (ranges, lengths_right, inside, right_counters.0, right_counters.1, right);
              index_is = f.index ∙ sym (no_index k (length d + n) counters a.number (λ z. omega (arith, f.number)));
              untouched = λ l. absurd (omega (arith, f.number));
              cells_are = λ _.
                  g ∙ sym (as_long_lem (length cells) (length apart') apart' cells (s.room ∙ sym as_many)) ∙ shown_is ∙ stored_inverted own rows columns right;
              levels_are = λ _. f.levels ∙ i.greatest refl;
              faults_are = λ _. f.faults_are;
              kinds_are = λ _. f.kinds_are n (mask_inside n d mask values inside);
            })
