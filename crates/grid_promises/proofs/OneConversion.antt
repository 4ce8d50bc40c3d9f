-- The demands of a conversion say all that its exact part says, and both leave one answer; an accepted one leaves every reading as it was. Assumes nothing.
use Prim.Native.Nat.{ℕ, ◌+◌, ◌<◌}
use mathlib.Core.Path.{◌≡◌, refl, sym, ap, ◌∙◌}
use mathlib.Core.List.{List}
use native.Mathlib.Omega.{arith}
use borrow.Author.Tests.{not-false}
use lib.ListN.{length}
use Rattle.bits.proofs.TestLaws.{false_iff}
use Rattle.bits.proofs.BoundLaws.{list_ext}
use Rattle.bits.proofs.FirstLaws.{hit, first_one}
use Rattle.rdis.specs.Packing.{width, unpacked, counter}
use Rattle.rdis.specs.Theorems.{Packs}
use Rattle.rdis.proofs.PackingLaws.{packed_only, length_unpacked}
use Rattle.grid_promises.specs.Calls.{bad_index}
use Rattle.grid_promises.specs.Demands.{WellFormed}
use Rattle.grid_promises.specs.Conversion.{convert_number, ConvertDemands, ConvertExactly}
use Rattle.grid_promises.specs.Conversion.{OneConvert, OneConvertByDemands, SmallerRefused, OutputKeepsLength, ConvertMeasured, ReadsKept}
use Rattle.grid_promises.specs.declared.ConvertAnswer.{ConvertAnswer}
use Rattle.grid_promises.proofs.RefusalLaws.{spare_iff, counter_held, held_is}
use Rattle.grid_promises.proofs.IndexLaws.{names_index}
use Rattle.grid_promises.proofs.OneAnswer.{either_way}
use Rattle.grid_promises.proofs.ByDemands.{read_exactly}
use Rattle.grid_promises.proofs.ConvertLaws.{convert_first, convert_accepted, convert_lengths, convert_fits}
use Rattle.grid_promises.proofs.ConvertDemands.{reads_same_lem}

-- ---- the demands give the exact part

-- well-formed bytes whose counters are those of other bytes pack them
packs_same : (w w' n : ℕ) (bs bs' : List ℕ) → WellFormed w' n bs' → ((t : ℕ) → t < n → counter w' bs' t ≡ counter w bs t) → Packs w' n (unpacked w n bs) bs'
unfolding unpacked
packs_same w w' n bs bs' formed same = record {
  size = formed.size;
  bytes = formed.bytes;
  spare = not-false _ (false_iff _ (spare_iff w' n bs') formed.clear);
  back = list_ext n (counter w' bs') (counter w bs) same;
}

pub convert_exactly : (m n k k' : ℕ) (counters out : List ℕ) (a : ConvertAnswer) (after : List ℕ)
    → ConvertDemands m n k k' counters out a after → ConvertExactly m n k k' counters out a after
convert_exactly m n k k' counters out a after d = record {
  number = first_one _ _ _ d.first (convert_first m n k k' counters (length out));
  index_is = names_index k (m + n) counters a.number a.index d.names;
  untouched = d.untouched;
  bytes_are = λ z.
      (packed_only (width k') (m + n) (unpacked (width k) (m + n) counters) after (length_unpacked (width k) (m + n) counters)
      (convert_fits m n k k' counters (length out) (convert_accepted m n k k' counters (length out) a.number d.first z))).0
      (packs_same (width k) (width k') (m + n) counters after (d.well_formed z)
      (λ t l. held_is (width k') t (counter (width k) counters t) after (d.kept z t _ l (counter_held (width k) t counters))));
}

-- ---- one answer

same_conversions : (m n k k' : ℕ) (counters out out' : List ℕ) (a a' : ConvertAnswer) (x x' : List ℕ)
    → length out ≡ length out' → ConvertExactly m n k k' counters out a x → ConvertExactly m n k k' counters out' a' x' → (a ≡ a') × (a.number ≡ 0 → x ≡ x')
same_conversions m n k k' counters out out' a a' x x' l e f =
    let same : a.number ≡ a'.number = e.number ∙ ap (convert_number m n k k' counters) l ∙ sym f.number in
    let index : a.index ≡ a'.index = e.index_is ∙ ap (bad_index k (m + n) counters) same ∙ sym f.index_is in
    (λ i. record { number = same i; index = index i }, λ z. e.bytes_are z ∙ sym (f.bytes_are (sym same ∙ z)))

pub convert_measured : ConvertMeasured
convert_measured m n k k' counters out out' a a' x x' l e f = same_conversions m n k k' counters out out' a a' x x' l e.exactly f.exactly

pub one_convert : OneConvert
one_convert m n k k' counters out a a' x x' e f =
    let (same, accepted) = same_conversions m n k k' counters out out a a' x x' refl e f in
    (same, either_way a.number (λ l. e.untouched l ∙ sym (f.untouched (rw (← same) l))) accepted)

pub one_convert_by_demands : OneConvertByDemands
one_convert_by_demands m n k k' counters out a a' x x' d e =
    one_convert m n k k' counters out a a' x x' (convert_exactly m n k k' counters out a x d) (convert_exactly m n k k' counters out a' x' e)

-- ---- a smaller target, and the output's length

pub smaller_refused : SmallerRefused
smaller_refused m n k k' counters out a after h d = hit d.first (λ r. omega (arith, r.larger))

pub output_keeps_length : OutputKeepsLength
output_keeps_length m n k k' counters out a after d =
    either_way a.number (λ l. ap length (d.untouched l))
    (λ z. (d.well_formed z).size ∙ sym (convert_lengths m n k k' counters (length out) (convert_accepted m n k k' counters (length out) a.number d.first z)).out_bytes)

-- ---- readings

pub reads_kept : ReadsKept
reads_kept m n k k' counters out after a d z cells o r r' x x' e f =
    reads_same_lem m n k k' counters out a after (convert_exactly m n k k' counters out a after d) z cells o r r' x x'
    (read_exactly m n k cells counters o r x e) (read_exactly m n k' cells after o r' x' f)
