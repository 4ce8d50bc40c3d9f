-- A finish: what is demanded of it holds of every one that ends exactly as it should, and it has no second end. Assumes nothing.
use Prim.Native.Nat.{ℕ, ◌+◌, ◌≤◌}
use mathlib.Core.Path.{◌≡◌, refl, sym, ap, subst, ◌∙◌}
use mathlib.Core.Bool.{Bool, true, false, not, cond, ◌&&◌}
use mathlib.Core.List.{List, []}
use mathlib.Core.Logic.Iff
use mathlib.Core.Logic.{⊎_elim}
use native.Mathlib.Omega.{arith}
use borrow.Author.Tests.{le-ltb}
use lib.Dec.{eqb}
use lib.ListN.{length}
use Rattle.bits.specs.Bits.{words, Below}
use Rattle.bits.specs.First.{Refusal, First}
use Rattle.bits.proofs.TestLaws.{lt_or_le, ltb_iff, eqb_iff, not_iff, or_iff, iff_stable}
use Rattle.bits.proofs.FirstLaws.{hit, skip, last, first_one, first_test, first_none}
use Rattle.bits.proofs.ByteLaws.{words_ext, is_words}
use Rattle.rdis.specs.Block.{bit}
use Rattle.rdis.specs.Cells.{flips, reading}
use Rattle.rdis.specs.Packing.{width, counter, above}
use Rattle.grid_promises.specs.Calls.{counters_sized, read_past, read_number}
use Rattle.grid_promises.specs.Refusals.{InRange, Above, inverted}
use Rattle.grid_promises.specs.Promises.{Read}
use Rattle.grid_promises.specs.declared.ReadAnswer.{ReadAnswer}
use Rattle.grid_promises.proofs.RefusalLaws.{in_range_lem, read_sized_lem, past_iff, spare_iff, above_iff, counter_held}
use Rattle.grid_promises.proofs.IndexLaws.{index_names, names_index}
use Rattle.grid_promises.proofs.ReadDemands.{read_demands}
use Rattle.grid_promises.proofs.OneAnswer.{same_shown, same_left}
use Rattle.fragment_promises.specs.Transfers.{size, counters_of, cells_of, finish_number}
use Rattle.fragment_promises.specs.Demands.{cell_bit, length_refusals, finish_refusals, FinishDemands}
use Rattle.fragment_promises.specs.Promises.{FinishExactly, Finish, OneFinish, OneFinishByDemands, FinishMeasured}
use Rattle.fragment_promises.proofs.BlockLaws.{whole_lengths, cell_bit_lem, past_bytes}

-- ---- the number

-- the output's length is tested before the block's and again by the read
tested_twice : (c o s : Bool) (x : ℕ) → cond (not o) 2 (cond (not ((c && o) && s)) 2 x) ≡ cond (not ((c && o) && s)) 2 x
tested_twice c true s x = refl
tested_twice true false s x = refl
tested_twice false false s x = refl

module _ (m n k taken : ℕ) (bs : List ℕ) where
  -- a whole block: the number is the read's
  pub finish_reads : (out : ℕ) → InRange m n k → taken ≤ size m n k → size m n k ≤ length bs
      → finish_number m n k taken bs out ≡ read_number m n k (cells_of m n k bs) (counters_of m n k bs) out
  unfolding finish_number read_number
  finish_reads out r p q =
      rw ((in_range_lem m n k).1 r, le-ltb _ _ p, le-ltb _ _ q)
      (tested_twice (eqb (length (cells_of m n k bs)) m) (eqb out m) (counters_sized m n k (length (counters_of m n k bs))) _)

  -- with a right output too: what is left of the read's tests
  reads_on : (out : ℕ) → InRange m n k → out ≡ m → size m n k ≤ length bs
      → read_number m n k (cells_of m n k bs) (counters_of m n k bs) out ≡ cond (read_past m n k (cells_of m n k bs) (counters_of m n k bs)) 3 (cond (above k (m + n) (counters_of m n k bs)) 4 0)
  unfolding read_number
  reads_on out r e l = rw ((in_range_lem m n k).1 r, (read_sized_lem m n k (length (cells_of m n k bs)) (length (counters_of m n k bs)) out).1 (whole_lengths m n k bs out e l))

  pub finish_first : (out : ℕ) → Below 256 bs → First (finish_refusals m n k taken bs out) (finish_number m n k taken bs out)
  unfolding finish_number
  finish_first out h =
      first_test 1 _ _ _ _ (not_iff _ (in_range_lem m n k)) (λ r.
      first_test 9 _ _ _ _ (ltb_iff (size m n k) taken) (λ _.
      first_test 2 _ _ _ _ (not_iff _ (eqb_iff out m)) (λ o.
      first_test 8 _ _ _ _ (ltb_iff (length bs) (size m n k)) (λ l.
      subst (First _) (sym (reads_on out (iff_stable _ (in_range_lem m n k) r) (iff_stable _ (eqb_iff out m) o) (omega arith)))
      (first_test 3 _ _ _ _ (or_iff _ (Iff.trans (past_iff n (cells_of m n k bs)) (past_bytes m n k bs h)) _ (spare_iff (width k) (m + n) (counters_of m n k bs))) (λ _.
      first_test 4 0 _ [] _ (above_iff (m + n) k (counters_of m n k bs)) (λ _. first_none)))))))

  -- 4 is given only where a counter is above K
  finish_four : (x out : ℕ) → First (finish_refusals m n k taken bs out) x → x ≡ 4 → Above k (m + n) (counters_of m n k bs)
  finish_four x out f z =
      last (skip (skip (skip (skip (skip f (λ e. omega arith)) (λ e. omega arith)) (λ e. omega arith)) (λ e. omega arith)) (λ e. omega arith)) (omega arith)

-- accepted: the numbers are good, no lump was refused, and all the bytes are there. What is judged after them does not count
module _ (m n k taken held out : ℕ) (others : List Refusal) (x : ℕ) (f : First (length_refusals m n k taken held out others) x) (z : x ≡ 0) where
  pub accepted_range : InRange m n k
  accepted_range = iff_stable _ (in_range_lem m n k) (λ h. omega (arith, hit f h))

  pub accepted_taken : taken ≤ size m n k
  accepted_taken = ⊎_elim (λ l. absurd (omega (arith, hit (skip f (λ e. omega arith)) l))) (λ l. l) (lt_or_le (size m n k) taken)

  pub accepted_held : size m n k ≤ held
  accepted_held =
      ⊎_elim (λ l. absurd (omega (arith, hit (skip (skip (skip f (λ e. omega arith)) (λ e. omega arith)) (λ e. omega arith)) l))) (λ l. l) (lt_or_le held (size m n k))

-- ---- what is demanded

-- the output that is demanded, cell by cell
demanded : (m n k taken : ℕ) (bs out : List ℕ) (a : ReadAnswer) (x : List ℕ) → FinishDemands m n k taken bs out a x → a.number ≡ 0
    → x ≡ words m n (λ i j. inverted (counter (width k) (counters_of m n k bs) i) (counter (width k) (counters_of m n k bs) (m + j)) (cell_bit m n k bs i j))
unfolding bit
demanded m n k taken bs out a x d z =
    is_words m n _ x (d.inside z).0 (λ i p. (d.inside z).1 i)
    (λ i j p q. d.shows z i j _ _ p q (counter_held (width k) i (counters_of m n k bs)) (counter_held (width k) (m + j) (counters_of m n k bs)))

module _ (m n k taken : ℕ) (bs out : List ℕ) (a : ReadAnswer) (after : List ℕ) where
  finish_whole : FinishExactly m n k taken bs out a after → InRange m n k → taken ≤ size m n k → size m n k ≤ length bs
      → Read m n k (cells_of m n k bs) (counters_of m n k bs) out a after
  finish_whole e r p q = read_demands m n k (cells_of m n k bs) (counters_of m n k bs) out a after (record {
    number = e.number ∙ finish_reads m n k taken bs (length out) r p q;
    index_is = e.index_is;
    untouched = e.untouched;
    shown = e.shown;
  })

  pub finish_promise : Below 256 bs → FinishExactly m n k taken bs out a after → Finish m n k taken bs out a after
  finish_promise h e =
      let found : First (finish_refusals m n k taken bs (length out)) a.number = subst (First (finish_refusals m n k taken bs (length out))) (sym e.number) (finish_first m n k taken bs (length out) h) in
      let range = accepted_range m n k taken (length bs) (length out) _ a.number found in
      let read : a.number ≡ 0 → Read m n k (cells_of m n k bs) (counters_of m n k bs) out a after = λ z.
      finish_whole e (range z) (accepted_taken m n k taken (length bs) (length out) _ a.number found z) (accepted_held m n k taken (length bs) (length out) _ a.number found z) in
      record {
        exactly = e;
        demands = record {
          first = found;
          names = index_names k (m + n) (counters_of m n k bs) a.number a.index (finish_four m n k taken bs a.number (length out) found) e.index_is;
          untouched = e.untouched;
          inside = λ z. (read z).demands.inside z;
          shows = λ z i j x y p q u v.
              (read z).demands.shows z i j x y p q u v
              ∙ ap (inverted x y) (cell_bit_lem m n k bs h i j p (omega (arith, (range z).columns.1)));
        };
        ordinary = finish_whole e;
      }

  -- the demands alone make a whole block's finish the ordinary read
  pub demands_exactly : Below 256 bs → FinishDemands m n k taken bs out a after → FinishExactly m n k taken bs out a after
  unfolding reading flips bit
  demands_exactly h d = record {
    number = first_one _ _ _ d.first (finish_first m n k taken bs (length out) h);
    index_is = names_index k (m + n) (counters_of m n k bs) a.number a.index d.names;
    untouched = d.untouched;
    shown = λ z.
        let few = (accepted_range m n k taken (length bs) (length out) _ a.number d.first z).columns.1 in
        let counters = counters_of m n k bs in
        demanded m n k taken bs out a after d z
        ∙ words_ext m n _ _ (λ i j p q. ap (inverted (counter (width k) counters i) (counter (width k) counters (m + j))) (sym (cell_bit_lem m n k bs h i j p (omega arith))));
  }

  pub demands_read : Below 256 bs → InRange m n k → taken ≤ size m n k → size m n k ≤ length bs → FinishDemands m n k taken bs out a after
      → Read m n k (cells_of m n k bs) (counters_of m n k bs) out a after
  demands_read h r p q d = finish_whole (demands_exactly h d) r p q

-- ---- no second end

pub finish_measured : FinishMeasured
finish_measured m n k taken bs out out' a a' x x' l r s =
    let e = r.exactly in
    let f = s.exactly in
    same_shown k (m + n) (counters_of m n k bs) a a' x x' _ (e.number ∙ ap (finish_number m n k taken bs) l ∙ sym f.number) e.index_is f.index_is e.shown f.shown

pub one_finish : OneFinish
one_finish m n k taken bs out a a' x x' e f =
    same_left k (m + n) (counters_of m n k bs) a a' x x' _ (e.number ∙ sym f.number) e.index_is f.index_is e.shown f.shown out e.untouched f.untouched

pub one_finish_by_demands : OneFinishByDemands
one_finish_by_demands m n k taken bs out a a' x x' d e =
    let named = names_index k (m + n) (counters_of m n k bs) in
    same_left k (m + n) (counters_of m n k bs) a a' x x' _ (first_one _ _ _ d.first e.first) (named a.number a.index d.names)
    (named a'.number a'.index e.names) (demanded m n k taken bs out a x d) (demanded m n k taken bs out a' x' e) out d.untouched e.untouched
