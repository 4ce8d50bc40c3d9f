-- What is demanded of a read holds of every one that ends exactly as it should. Assumes nothing.
use Prim.Native.Nat.{ℕ, ◌+◌}
use mathlib.Core.Path.{sym, ap, ap₂, subst, ◌∙◌}
use mathlib.Core.List.{List}
use lib.ListN.{length}
use Rattle.bits.specs.First.{First}
use Rattle.bits.proofs.ByteLaws.{length_words, words_below, has_words}
use Rattle.rdis.specs.Block.{Sized, bit}
use Rattle.rdis.specs.Cells.{flips, reading}
use Rattle.rdis.specs.Packing.{width}
use Rattle.grid_promises.specs.Refusals.{inverted}
use Rattle.grid_promises.specs.Refusals.{read_refusals}
use Rattle.grid_promises.specs.Promises.{ReadExactly, Read}
use Rattle.grid_promises.specs.declared.ReadAnswer.{ReadAnswer}
use Rattle.grid_promises.proofs.RefusalLaws.{held_is, read_4, read_first}
use Rattle.grid_promises.proofs.IndexLaws.{index_names}

module _ (m n k : ℕ) (cells counters out : List ℕ) (a : ReadAnswer) (after : List ℕ) (e : ReadExactly m n k cells counters out a after) where
  found : First (read_refusals m n k cells counters (length out)) a.number
  found = subst (First _) (sym e.number) (read_first m n k cells counters (length out))

  pub read_demands : Read m n k cells counters out a after
  unfolding reading bit flips
  read_demands = record {
    exactly = e;
    demands = record {
      first = found;
      names = index_names k (m + n) counters a.number a.index (read_4 m n k cells counters (length out) a.number found) e.index_is;
      untouched = e.untouched;
      inside = λ z. subst (Sized m n) (sym (e.shown z)) (length_words m n _, words_below m n _);
      shows = λ z i j x y p q u v.
          ap (λ ws. bit ws i j) (e.shown z) ∙ has_words m n _ i j p q
          ∙ ap₂ (λ a b. inverted a b (bit cells i j)) (held_is (width k) i x counters u) (held_is (width k) (m + j) y counters v);
    };
  }
