-- After a conversion stores end as before it, and a further conversion ends as one conversion would. Assumes nothing.
use Prim.Native.Nat.{ℕ, ◌+◌, ◌<◌, ◌≤◌}
use mathlib.Core.Path.{◌≡◌, refl, sym, ap, ◌∙◌}
use mathlib.Core.List.{List}
use native.Mathlib.Omega.{arith}
use borrow.Author.Tests.{le-leb}
use lib.ListN.{length}
use Rattle.bits.specs.Bits.{most}
use Rattle.bits.proofs.BoundLaws.{list_ext, most_le, most_at}
use Rattle.rdis.specs.Block.{Block}
use Rattle.rdis.specs.Packing.{width, packed, unpacked, counter, row_counter, column_counter}
use Rattle.rdis.proofs.CellLaws.{misreads_ext, stored_ext}
use Rattle.grid_promises.specs.Calls.{store_number}
use Rattle.grid_promises.specs.Demands.{Names, StoreDemands}
use Rattle.grid_promises.specs.Conversion.{convert_in_range, convert_sized, convert_number, ConvertDemands, StoresKept, ConvertTwice}
use Rattle.grid_promises.specs.declared.Answer.{Answer}
use Rattle.grid_promises.specs.declared.ConvertAnswer.{ConvertAnswer}
use Rattle.grid_promises.proofs.IndexLaws.{names_none_lem}
use Rattle.grid_promises.proofs.OneAnswer.{either_way, same_counts, same_end}
use Rattle.grid_promises.proofs.ByDemands.{store_exactly}
use Rattle.grid_promises.proofs.SameReads.{Readable, no_above, tested}
use Rattle.grid_promises.proofs.ConvertLaws.{convert_accepted, convert_range}
use Rattle.grid_promises.proofs.ConvertDemands.{same, before_readable, after_readable}
use Rattle.grid_promises.proofs.OneConversion.{convert_exactly}

-- counters of which none is above K are not named
no_index : (m n k : ℕ) (bs : List ℕ) → Readable m n k bs → (number index : ℕ) → Names k (m + n) bs number index → index ≡ 0
no_index m n k bs s number index d = names_none_lem k (m + n) bs number index d (no_above m n k bs s)

-- ---- stores

-- the greatest of equal numbers
most_same : (n : ℕ) (f g : ℕ → ℕ) → 0 < n → ((t : ℕ) → t < n → g t ≡ f t) → most n f ≡ most n g
most_same n f g h same =
    let (t, l, q) = most_at n f h in
    let (u, p, r) = most_at n g h in
    omega (arith, most_le n g t l, most_le n f u p, same t l, same u p)

module _ (b : Block) (k k' : ℕ) (bs bs' : List ℕ) (s : Readable b.rows b.columns k bs) (s' : Readable b.rows b.columns k' bs')
    (same : (t : ℕ) → t < b.rows + b.columns → counter (width k') bs' t ≡ counter (width k) bs t) where
  same_row : (i : ℕ) → i < b.rows → row_counter (width k) bs i ≡ row_counter (width k') bs' i
  same_row i l = sym (same i (omega arith))

  same_column : (j : ℕ) → j < b.columns → column_counter (width k) b.rows bs j ≡ column_counter (width k') b.rows bs' j
  same_column j l = sym (same (b.rows + j) (omega arith))

  same_number : (cells : ℕ) → store_number b k bs cells ≡ store_number b k' bs' cells
  unfolding store_number
  same_number cells =
      let p = tested b.rows b.columns k bs s in
      let q = tested b.rows b.columns k' bs' s' in
      rw (p.range, q.range, p.sized, q.sized, p.clear, q.clear, p.none, q.none, misreads_ext b _ _ _ _ same_row same_column)

  same_storing : (cells : List ℕ) (a a' : Answer) (x x' : List ℕ) → StoreDemands b k bs cells a x → StoreDemands b k' bs' cells a' x' → (a ≡ a') × (x ≡ x')
  same_storing cells a a' x x' d d' =
      let e = store_exactly b k bs cells a x d in
      let f = store_exactly b k' bs' cells a' x' d' in
      let number : a.number ≡ a'.number = e.number ∙ same_number (length cells) ∙ sym f.number in
      let index : a.index ≡ a'.index = no_index b.rows b.columns k bs s _ _ d.names ∙ sym (no_index b.rows b.columns k' bs' s' _ _ d'.names) in
      same_end a a' cells cells x x' number index e.untouched f.untouched (λ z.
      let z' : a'.number ≡ 0 = sym number ∙ z in
      let greatest = most_same (b.rows + b.columns) (counter (width k) bs) (counter (width k') bs') (omega (arith, s.range.rows.0)) same in (
        same_counts b b a a' (λ w. refl) (e.levels_are z ∙ greatest ∙ sym (f.levels_are z')) (e.faults_are z ∙ sym (f.faults_are z')) (e.kinds_are z) (f.kinds_are z'),
        e.cells_are z ∙ stored_ext b _ _ _ _ same_row same_column ∙ sym (f.cells_are z'),
      )) refl

pub stores_kept : StoresKept
stores_kept b k k' counters out after a d z cells s s' x x' e f =
    let E = convert_exactly b.rows b.columns k k' counters out a after d in
    same_storing b k k' counters after (before_readable b.rows b.columns k k' counters out a after E z)
    (after_readable b.rows b.columns k k' counters out a after E z) (same b.rows b.columns k k' counters out a after E z) cells s s' x x' e f

-- ---- further conversions

module _ (m n k k' k'' : ℕ) (bs bs' : List ℕ) (h : k ≤ k'') (h' : k' ≤ k'') (s : Readable m n k bs) (s' : Readable m n k' bs')
    (same : (t : ℕ) → t < m + n → counter (width k') bs' t ≡ counter (width k) bs t) where
  same_judged : (out : ℕ) → convert_number m n k' k'' bs' out ≡ convert_number m n k k'' bs out
  unfolding convert_number convert_in_range convert_sized
  same_judged out =
      let p = tested m n k bs s in
      let q = tested m n k' bs' s' in
      rw (p.range, q.range, le-leb k k'' h, le-leb k' k'' h', p.sized, q.sized, p.clear, q.clear, p.none, q.none)

  same_converting : (out : List ℕ) (c c' : ConvertAnswer) (x x' : List ℕ) → ConvertDemands m n k' k'' bs' out c x → ConvertDemands m n k k'' bs out c' x' → (c ≡ c') × (x ≡ x')
  unfolding unpacked
  same_converting out c c' x x' d d' =
      let e = convert_exactly m n k' k'' bs' out c x d in
      let f = convert_exactly m n k k'' bs out c' x' d' in
      let number : c.number ≡ c'.number = e.number ∙ same_judged (length out) ∙ sym f.number in
      let index : c.index ≡ c'.index = no_index m n k' bs' s' _ _ d.names ∙ sym (no_index m n k bs s _ _ d'.names) in (
        λ i. record { number = number i; index = index i },
        either_way c.number
            (λ l. e.untouched l ∙ sym (f.untouched (rw (← number) l)))
            (λ z. e.bytes_are z ∙ ap (packed (width k'')) (list_ext (m + n) _ _ same) ∙ sym (f.bytes_are (sym number ∙ z))),
      )

pub convert_twice : ConvertTwice
convert_twice m n k k' k'' counters mid after out a c c' x x' h d z e f =
    let E = convert_exactly m n k k' counters mid a after d in
    let larger = (convert_range m n k k' counters (length mid) (convert_accepted m n k k' counters (length mid) a.number d.first z)).larger in
    same_converting m n k k' k'' counters after (omega (arith, larger, h)) h (before_readable m n k k' counters mid a after E z)
    (after_readable m n k k' counters mid a after E z) (same m n k k' counters mid a after E z) out c c' x x' e f
