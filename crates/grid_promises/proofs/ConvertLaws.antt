-- The number of a conversion is the first refusal that applies; and what holds of the counters where none does. Assumes nothing.
use Prim.Native.Nat.{ℕ, ◌+◌, ◌^◌, ◌<◌, ◌≤◌}
use mathlib.Core.Path.{◌≡◌, refl, ap, subst, ◌∙◌}
use mathlib.Core.Bool.{true, not}
use mathlib.Core.List.{List, []}
use mathlib.Core.Logic.Iff
use mathlib.Core.Logic.{◌↔◌, ⊎_elim}
use native.Mathlib.Omega.{arith}
use borrow.Author.Tests.{not-false}
use lib.Dec.{lit<}
use lib.ListN.{length}
use lib.Pow.{pow_pos}
use Rattle.bits.specs.Bits.{Below}
use Rattle.bits.specs.First.{First}
use Rattle.bits.proofs.TestLaws.{lt_or_le, leb_iff, false_iff, iff_false, iff_stable, not_iff, and_iff}
use Rattle.bits.proofs.FirstLaws.{skip, last, first_test, first_none, NoneOf, accepted}
use Rattle.bits.proofs.ByteLaws.{below_all}
use Rattle.rdis.specs.Packing.{width, packed, unpacked, counter, spare_clear}
use Rattle.rdis.specs.Theorems.{Packs}
use Rattle.rdis.proofs.PackingLaws.{width_holds, packed_only, length_unpacked, counter_unpacked, counter_packed}
use Rattle.grid_promises.specs.Refusals.{Held, Above}
use Rattle.grid_promises.specs.Demands.{WellFormed}
use Rattle.grid_promises.specs.Conversion.{convert_in_range, convert_sized, convert_number, ConvertInRange, ConvertLengths}
use Rattle.grid_promises.specs.Conversion.{convert_refusals}
use Rattle.grid_promises.proofs.RefusalLaws.{in_range_lem, counters_sized_lem, spare_iff, above_iff, counter_held, held_is}

-- ---- each test

pub convert_in_range_lem : (m n k k' : ℕ) → (convert_in_range m n k k' ≡ true) ↔ ConvertInRange m n k k'
unfolding convert_in_range
convert_in_range_lem m n k k' =
    Iff.trans (and_iff _ (and_iff _ (in_range_lem m n k) _ (in_range_lem m n k')) _ (leb_iff k k'))
    (λ ((x, y), z). record { before = x; after = y; larger = z }, λ r. ((r.before, r.after), r.larger))

pub convert_sized_lem : (m n k k' counters out : ℕ) → (convert_sized m n k k' counters out ≡ true) ↔ ConvertLengths m n k k' counters out
unfolding convert_sized
convert_sized_lem m n k k' counters out =
    Iff.trans (and_iff _ (counters_sized_lem m n k counters) _ (counters_sized_lem m n k' out))
    (λ (x, y). record { counter_bytes = x; out_bytes = y }, λ r. (r.counter_bytes, r.out_bytes))

-- ---- the number

module _ (m n k k' : ℕ) (counters : List ℕ) (out : ℕ) where
  pub convert_first : First (convert_refusals m n k k' counters out) (convert_number m n k k' counters out)
  unfolding convert_number
  convert_first =
      first_test 1 _ _ _ _ (not_iff _ (convert_in_range_lem m n k k')) (λ _.
      first_test 2 _ _ _ _ (not_iff _ (convert_sized_lem m n k k' (length counters) out)) (λ _.
      first_test 3 _ _ _ _ (spare_iff (width k) (m + n) counters) (λ _.
      first_test 4 0 _ [] _ (above_iff (m + n) k counters) (λ _. first_none))))

  pub convert_4 : (x : ℕ) → First (convert_refusals m n k k' counters out) x → x ≡ 4 → Above k (m + n) counters
  convert_4 x f z = last (skip (skip (skip f (λ e. omega arith)) (λ e. omega arith)) (λ e. omega arith)) (omega arith)

  pub convert_accepted : (x : ℕ) → First (convert_refusals m n k k' counters out) x → x ≡ 0 → NoneOf (convert_refusals m n k k' counters out)
  convert_accepted x f z = accepted _ x (lit< tt, (lit< tt, (lit< tt, (lit< tt, tt)))) f z

-- ---- it is accepted

module _ (m n k k' : ℕ) (counters : List ℕ) (out : ℕ) (none : NoneOf (convert_refusals m n k k' counters out)) where
  abbrev numbers : List ℕ
  numbers = unpacked (width k) (m + n) counters

  pub convert_range : ConvertInRange m n k k'
  convert_range = iff_stable _ (convert_in_range_lem m n k k') none.0

  pub convert_lengths : ConvertLengths m n k k' (length counters) out
  convert_lengths = iff_stable _ (convert_sized_lem m n k k' (length counters) out) none.1.0

  pub convert_clear : spare_clear (width k) (m + n) counters ≡ true
  convert_clear = not-false _ (false_iff _ (spare_iff (width k) (m + n) counters) none.1.1.0)

  -- no counter is above K, so the target's width holds them all
  pub convert_few : (t : ℕ) → t < m + n → counter (width k) counters t ≤ k
  convert_few t l =
      ⊎_elim (λ h. absurd (none.1.1.1.0 (t, l, (_, counter_held (width k) t counters, h)))) (λ h. h) (lt_or_le k (counter (width k) counters t))

  pub convert_fits : Below (2 ^ width k') numbers
  convert_fits = below_all (m + n) (2 ^ width k') numbers (pow_pos (width k')) (length_unpacked (width k) (m + n) counters) (λ t l.
      omega (
        arith,
        counter_unpacked (width k) (m + n) t counters l,
        convert_few t l,
        convert_range.larger,
        width_holds k' convert_range.after.levels.1,
      ))

  convert_packs : Packs (width k') (m + n) numbers (packed (width k') numbers)
  convert_packs = (packed_only (width k') (m + n) numbers _ (length_unpacked (width k) (m + n) counters) convert_fits).1 refl

  -- the bytes at the target are as a read there wants them, and hold what the bytes at K do
  pub convert_formed : WellFormed (width k') (m + n) (packed (width k') numbers)
  convert_formed = record {
    size = convert_packs.size;
    bytes = convert_packs.bytes;
    clear = iff_false _ (spare_iff (width k') (m + n) (packed (width k') numbers)) (ap not convert_packs.spare);
  }

  pub convert_same : (t : ℕ) → t < m + n → counter (width k') (packed (width k') numbers) t ≡ counter (width k) counters t
  convert_same t l =
      counter_packed (width k') t numbers convert_fits (rw (length_unpacked (width k) (m + n) counters) l) ∙ counter_unpacked (width k) (m + n) t counters l

-- bytes that hold the same counter hold what the others do
pub held_over : (w w' t x : ℕ) (bs bs' : List ℕ) → counter w' bs' t ≡ counter w bs t → Held w bs t x → Held w' bs' t x
held_over w w' t x bs bs' e h = subst (Held w' bs' t) (e ∙ held_is w t x bs h) (counter_held w' t bs')
