-- Reads by counters of two widths that are the same numbers end the same, whatever the cells and the output. Assumes nothing.
use Prim.Native.Nat.{ℕ, ◌+◌, ◌<◌, ◌≤◌}
use mathlib.Core.Path.{◌≡◌, sym, ◌∙◌}
use mathlib.Core.Bool.{true, false}
use mathlib.Core.List.{List}
use mathlib.Core.Logic.{◌≢◌}
use native.Mathlib.Omega.{arith}
use lib.ListN.{length}
use Rattle.bits.proofs.TestLaws.{false_iff}
use Rattle.rdis.specs.Packing.{width, bytes_for, counter, row_counter, column_counter, spare_clear, above}
use Rattle.rdis.proofs.CellLaws.{reading_ext}
use Rattle.grid_promises.specs.Calls.{in_range, counters_sized, read_number}
use Rattle.grid_promises.specs.Refusals.{InRange, Above}
use Rattle.grid_promises.specs.Promises.{ReadExactly}
use Rattle.grid_promises.specs.declared.ReadAnswer.{ReadAnswer}
use Rattle.grid_promises.proofs.RefusalLaws.{in_range_lem, counters_sized_lem, above_iff, held_is, read_4, read_first}
use Rattle.grid_promises.proofs.IndexLaws.{no_index}
use Rattle.grid_promises.proofs.OneAnswer.{either_way}

-- the bytes of counters that a read at K = k takes: of their size, with no spare bit and no counter above K
pub record Readable (m n k : ℕ) (bs : List ℕ) : Type 0 where
  pub range : InRange m n k
  pub size : length bs ≡ bytes_for (width k) (m + n)
  pub clear : spare_clear (width k) (m + n) bs ≡ true
  pub few : (t : ℕ) → t < m + n → counter (width k) bs t ≤ k

pub record Tested (m n k : ℕ) (bs : List ℕ) : Type 0 where
  pub range : in_range m n k ≡ true
  pub sized : counters_sized m n k (length bs) ≡ true
  pub clear : spare_clear (width k) (m + n) bs ≡ true
  pub none : above k (m + n) bs ≡ false

module _ (m n k : ℕ) (bs : List ℕ) (s : Readable m n k bs) where
  pub no_above : Above k (m + n) bs → ⊥
  no_above (t, l, (x, held, h)) = omega (arith, s.few t l, held_is (width k) t x bs held)

  -- so what a call tests of them comes out right
  pub tested : Tested m n k bs
  tested = record {
    range = (in_range_lem m n k).1 s.range;
    sized = (counters_sized_lem m n k (length bs)).1 s.size;
    clear = s.clear;
    none = false_iff _ (above_iff (m + n) k bs) no_above;
  }

  -- and a read by them names none
  no_four : (cells : List ℕ) (out : ℕ) → read_number m n k cells bs out ≢ 4
  no_four cells out z =
      no_above (read_4 m n k cells bs out _ (read_first m n k cells bs out) z)

  index_none : (cells out : List ℕ) (a : ReadAnswer) (x : List ℕ) → ReadExactly m n k cells bs out a x → a.index ≡ 0
  index_none cells out a x e = e.index_is ∙ no_index k (m + n) bs a.number (λ z. no_four cells (length out) (sym e.number ∙ z))

module _ (m n k k' : ℕ) (bs bs' : List ℕ) (s : Readable m n k bs) (s' : Readable m n k' bs')
    (same : (t : ℕ) → t < m + n → counter (width k') bs' t ≡ counter (width k) bs t) where
  -- what is judged of the counters is right at both, so the cells and the lengths alone decide
  same_number : (cells : List ℕ) (out : ℕ) → read_number m n k cells bs out ≡ read_number m n k' cells bs' out
  unfolding read_number
  same_number cells out =
      let p = tested m n k bs s in
      let q = tested m n k' bs' s' in
      rw (p.range, q.range, p.sized, q.sized, p.clear, q.clear, p.none, q.none)

  pub same_reading : (cells out : List ℕ) (a a' : ReadAnswer) (x x' : List ℕ)
      → ReadExactly m n k cells bs out a x → ReadExactly m n k' cells bs' out a' x' → (a ≡ a') × (x ≡ x')
  same_reading cells out a a' x x' e f =
      let number : a.number ≡ a'.number = e.number ∙ same_number cells (length out) ∙ sym f.number in
      let index : a.index ≡ a'.index = index_none m n k bs s cells out a x e ∙ sym (index_none m n k' bs' s' cells out a' x' f) in (
        λ i. record { number = number i; index = index i },
        either_way a.number
            (λ l. e.untouched l ∙ sym (f.untouched (rw (← number) l)))
            (λ z. e.shown z
            ∙ reading_ext m n (row_counter (width k) bs) (column_counter (width k) m bs) (row_counter (width k') bs') (column_counter (width k') m bs')
            (λ i l. sym (same i (omega arith))) (λ j l. sym (same (m + j) (omega arith))) cells
            ∙ sym (f.shown (sym number ∙ z))),
      )
