-- What is demanded of a store holds of every one that ends exactly as it should. Assumes nothing.
use Prim.Native.Nat.{ℕ, suc, ◌+◌, ◌^◌, ◌<◌}
use mathlib.Core.Path.{◌≡◌, refl, sym, ap, ap₂, subst, ◌∙◌}
use mathlib.Core.Bool.{false}
use mathlib.Core.List.{List}
use mathlib.Core.Logic.{◌↔◌, ◌⊎◌, inl, inr, ⊎_elim}
use native.Mathlib.Omega.{arith}
use lib.ListN.{length}
use Rattle.bits.specs.Bits.{Below}
use Rattle.bits.specs.First.{First}
use Rattle.bits.proofs.TestLaws.{iff_false, false_iff, iff_stable}
use Rattle.bits.proofs.BoundLaws.{most_le, most_at}
use Rattle.bits.proofs.FirstLaws.{hit, miss, last, NoneOf, accepts}
use Rattle.bits.proofs.ByteLaws.{length_words, words_below}
use Rattle.rdis.specs.Block.{Block, Sized, bit, stuck}
use Rattle.rdis.specs.Cells.{flips, stored, reading}
use Rattle.rdis.specs.Packing.{width, counter, row_counter, column_counter}
use Rattle.rdis.proofs.CellLaws.{stuck_held, sound_stored, stored_reads}
use Rattle.rdis.proofs.CountLaws.{faults_are_cells}
use Rattle.grid_promises.specs.Calls.{store_number, bad_index}
use Rattle.grid_promises.specs.Refusals.{InRange, StoreLengths, PastBlock, Spare, Above, Held, inverted, Misread, read_refusals, store_refusals}
use Rattle.grid_promises.specs.Demands.{Greatest}
use Rattle.grid_promises.specs.Promises.{Read, StoreExactly, Store}
use Rattle.grid_promises.specs.declared.Answer.{Answer}
use Rattle.grid_promises.proofs.RefusalLaws.{in_range_lem, store_sized_lem, within, past_iff, counter_held, held_is, misread_iff, read_first, store_4, store_first, store_accepted}
use Rattle.grid_promises.proofs.IndexLaws.{index_names}
use Rattle.grid_promises.proofs.ReadDemands.{read_demands}

module _ (b : Block) (k : ℕ) (counters cells : List ℕ) (none : NoneOf (store_refusals b k counters (length cells))) where
  pub store_range : InRange b.rows b.columns k
  store_range = iff_stable _ (in_range_lem b.rows b.columns k) none.0

  pub store_lengths : StoreLengths b k (length counters) (length cells)
  store_lengths = iff_stable _ (store_sized_lem b k (length counters) (length cells)) none.1.0

  store_data : Below (2 ^ b.columns) b.data·
  store_data = (within b.columns b.data·).0 (false_iff _ (past_iff b.columns b.data·) (λ p. none.1.1.0 (inl (inl p))))

  pub store_mask : Below (2 ^ b.columns) b.mask
  store_mask = (within b.columns b.mask).0 (false_iff _ (past_iff b.columns b.mask) (λ p. none.1.1.0 (inl (inr (inl p)))))

  -- by these counters the stored cells read as the data
  store_shows : let r = row_counter (width k) counters in let c = column_counter (width k) b.rows counters in reading b.rows b.columns r c (stored b r c) ≡ b.data·
  store_shows = (stored_reads b _ _ (store_lengths.planned.data_words, store_data)).0 (false_iff _ (misread_iff b k counters) none.1.1.1.1.0)

module _ (b : Block) (k : ℕ) (counters cells : List ℕ) (a : Answer) (cells' : List ℕ) (e : StoreExactly b k counters cells a cells') where
  found : First (store_refusals b k counters (length cells)) a.number
  found = subst (First _) (sym e.number) (store_first b k counters (length cells))

  thirteen : InRange b.rows b.columns k → StoreLengths b k (length counters) (length cells) → (PastBlock b ⊎ Spare (width k) (b.rows + b.columns) counters → ⊥)
      → (Above k (b.rows + b.columns) counters → ⊥) → (a.number ≡ 13) ↔ Misread b k counters
  thirteen r l h g = let rest = miss (miss (miss (miss found (λ n. n r)) (λ n. n l)) h) g in (λ q. last rest (omega arith), hit rest)

  -- it is accepted
  module _ (z : a.number ≡ 0) where
    none : NoneOf (store_refusals b k counters (length cells))
    none = store_accepted b k counters (length cells) a.number found z

    greatest : Greatest (width k) (b.rows + b.columns) counters a.levels
    greatest =
        let (t, l, q) = most_at (b.rows + b.columns) (counter (width k) counters) (omega (arith, (store_range b k counters cells none).rows.0)) in
        record {
          reached = (t, l, subst (Held (width k) counters t) (q ∙ sym (e.levels_are z)) (counter_held (width k) t counters));
          exceeded = λ t y l h.
              omega (arith, most_le (b.rows + b.columns) (counter (width k) counters) t l, held_is (width k) t y counters h, e.levels_are z);
        }

    cells_sized : Sized b.rows b.columns cells'
    unfolding stored
    cells_sized = subst (Sized b.rows b.columns) (sym (e.cells_are z)) (length_words b.rows b.columns _, words_below b.rows b.columns _)

    sound_cells : (i j x y : ℕ) → i < b.rows → j < b.columns → stuck b i j ≡ false → Held (width k) counters i x → Held (width k) counters (b.rows + j) y
        → bit cells' i j ≡ inverted x y (bit b.data· i j)
    unfolding flips
    sound_cells i j x y p q h u v =
        ap (λ ws. bit ws i j) (e.cells_are z) ∙ sound_stored b _ _ i j p q h
        ∙ ap₂ (λ r c. inverted r c (bit b.data· i j)) (held_is (width k) i x counters u) (held_is (width k) (b.rows + j) y counters v)

    -- what it leaves is read: no refusal applies
    read_none : (out : List ℕ) → length out ≡ b.rows → NoneOf (read_refusals b.rows b.columns k cells' counters (length out))
    read_none out l = (
      none.0,
      (
        λ h. h (record { cell_words = cells_sized.0; counter_bytes = (store_lengths b k counters cells none).planned.counter_bytes; out_words = l }),
        (⊎_elim (iff_false _ (past_iff b.columns cells') ((within b.columns cells').1 cells_sized.1)) (λ h. none.1.1.0 (inr h)), (none.1.1.1.0, tt)),
      ),
    )

    reads_back_lem : (out : List ℕ) → length out ≡ b.rows → Read b.rows b.columns k cells' counters out (record { number = 0; index = 0 }) b.data·
    unfolding bad_index
    reads_back_lem out l = read_demands b.rows b.columns k cells' counters out (record { number = 0; index = 0 }) b.data· (record {
      number = sym (accepts _ _ (read_none out l) (read_first b.rows b.columns k cells' counters (length out)));
      index_is = refl;
      untouched = λ q. absurd (omega arith);
      shown = λ _. sym (rw (e.cells_are z) (store_shows b k counters cells none));
    })

  pub store_demands : Store b k counters cells a cells'
  store_demands = record {
    exactly = e;
    demands = record {
      first = found;
      names = index_names k (b.rows + b.columns) counters a.number a.index (store_4 b k counters (length cells) a.number found) e.index_is;
      untouched = e.untouched;
      misread = thirteen;
      deepest = greatest;
      every_fault = λ z. e.faults_are z ∙ faults_are_cells b.rows b.columns b.mask (store_mask b k counters cells (none z));
      kinds = e.kinds_are;
      inside = cells_sized;
      held = λ z i j p q h. ap (λ ws. bit ws i j) (e.cells_are z) ∙ stuck_held b _ _ i j p q h;
      sound = sound_cells;
    };
    reads_back = reads_back_lem;
  }

-- one that is refused, with the number that is computed: every count is 0
abbrev pub uncounted : ℕ → ℕ → Answer
uncounted number index = record { number = number; levels = 0; faults = 0; wrong = 0; right = 0; index = index }

pub store_refused_lem : (b : Block) (k : ℕ) (counters cells : List ℕ) (n : ℕ) → store_number b k counters (length cells) ≡ suc n
    → Store b k counters cells (uncounted (suc n) (bad_index k (b.rows + b.columns) counters (suc n))) cells
store_refused_lem b k counters cells n e = store_demands b k counters cells _ cells (record {
  number = sym e;
  index_is = refl;
  untouched = λ _. (record { levels = refl; faults = refl; wrong = refl; right = refl }, refl);
  cells_are = λ z. absurd (omega arith);
  levels_are = λ z. absurd (omega arith);
  faults_are = λ z. absurd (omega arith);
  kinds_are = λ z. absurd (omega arith);
})
