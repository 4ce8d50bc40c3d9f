-- What is demanded of a conversion holds of every one that ends exactly as it should, and readings stay what they were. Assumes nothing.
use Prim.Native.Nat.{ℕ, ◌+◌, ◌<◌}
use mathlib.Core.Path.{◌≡◌, sym, ap, subst, ◌∙◌}
use mathlib.Core.List.{List}
use native.Mathlib.Omega.{arith}
use borrow.Author.Tests.{not-false}
use lib.ListN.{length}
use Rattle.bits.specs.Bits.{Below}
use Rattle.bits.specs.First.{First}
use Rattle.bits.proofs.FirstLaws.{NoneOf}
use Rattle.bits.proofs.TestLaws.{false_iff}
use Rattle.rdis.specs.Packing.{width, packed, unpacked, counter}
use Rattle.rdis.proofs.PackingLaws.{pack_unpack}
use Rattle.grid_promises.specs.Demands.{WellFormed}
use Rattle.grid_promises.specs.Promises.{ReadExactly}
use Rattle.grid_promises.specs.Conversion.{convert_refusals, ConvertExactly, Convert}
use Rattle.grid_promises.specs.declared.ReadAnswer.{ReadAnswer}
use Rattle.grid_promises.specs.declared.ConvertAnswer.{ConvertAnswer}
use Rattle.grid_promises.proofs.RefusalLaws.{spare_iff}
use Rattle.grid_promises.proofs.IndexLaws.{index_names}
use Rattle.grid_promises.proofs.ConvertLaws.{convert_first, convert_4, convert_accepted, held_over}
use Rattle.grid_promises.proofs.ConvertLaws.{convert_range, convert_lengths, convert_clear, convert_few, convert_formed, convert_same}
use Rattle.grid_promises.proofs.SameReads.{Readable, same_reading}

module _ (m n k k' : ℕ) (counters out : List ℕ) (a : ConvertAnswer) (after : List ℕ) (e : ConvertExactly m n k k' counters out a after) where
  found : First (convert_refusals m n k k' counters (length out)) a.number
  found = subst (First (convert_refusals m n k k' counters (length out))) (sym e.number) (convert_first m n k k' counters (length out))

  -- it is accepted
  module _ (z : a.number ≡ 0) where
    none : NoneOf (convert_refusals m n k k' counters (length out))
    none = convert_accepted m n k k' counters (length out) a.number found z

    formed : WellFormed (width k') (m + n) after
    formed = subst (WellFormed (width k') (m + n)) (sym (e.bytes_are z)) (convert_formed m n k k' counters (length out) none)

    pub same : (t : ℕ) → t < m + n → counter (width k') after t ≡ counter (width k) counters t
    same t l = ap (λ bs. counter (width k') bs t) (e.bytes_are z) ∙ convert_same m n k k' counters (length out) none t l

    pub before_readable : Readable m n k counters
    before_readable = record {
      range = (convert_range m n k k' counters (length out) none).before;
      size = (convert_lengths m n k k' counters (length out) none).counter_bytes;
      clear = convert_clear m n k k' counters (length out) none;
      few = convert_few m n k k' counters (length out) none;
    }

    pub after_readable : Readable m n k' after
    after_readable = record {
      range = (convert_range m n k k' counters (length out) none).after;
      size = formed.size;
      clear = not-false _ (false_iff _ (spare_iff (width k') (m + n) after) formed.clear);
      few = λ t l. omega (arith, same t l, convert_few m n k k' counters (length out) none t l, (convert_range m n k k' counters (length out) none).larger);
    }

    pub reads_same_lem : (cells o : List ℕ) (r r' : ReadAnswer) (x x' : List ℕ)
        → ReadExactly m n k cells counters o r x → ReadExactly m n k' cells after o r' x' → (r ≡ r') × (x ≡ x')
    reads_same_lem = same_reading m n k k' counters after before_readable after_readable same

    -- at an equal target bytes are packed again as they were
    same_bytes : Below 256 counters → k ≡ k' → after ≡ counters
    same_bytes bytes q =
        e.bytes_are z ∙ ap (λ l. packed (width l) (unpacked (width k) (m + n) counters)) (sym q)
        ∙ pack_unpack (width k) (m + n) counters before_readable.size bytes before_readable.clear

  pub convert_demands : Below 256 counters → Convert m n k k' counters out a after
  convert_demands bytes = record {
    exactly = e;
    demands = record {
      first = found;
      names = index_names k (m + n) counters a.number a.index (convert_4 m n k k' counters (length out) a.number found) e.index_is;
      untouched = e.untouched;
      well_formed = formed;
      kept = λ z t x l. held_over (width k) (width k') t x counters after (same z t l);
    };
    equal_target = λ z. same_bytes z bytes;
    reads_same = λ z cells o r r' x x' f g. reads_same_lem z cells o r r' x x' f.exactly g.exactly;
  }
