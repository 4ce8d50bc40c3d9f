-- What an accepted plan gave, converted, is what a plan at the target gives. Assumes nothing.
use Prim.Native.Nat.{ℕ, ◌+◌, ◌^◌, ◌≤◌}
use mathlib.Core.Path.{◌≡◌, refl, sym, ap, ◌∙◌}
use mathlib.Core.List.{List}
use native.Mathlib.Omega.{arith}
use lib.ListN.{length}
use Rattle.bits.proofs.FirstLaws.{NoneOf, accepts}
use Rattle.rdis.specs.Block.{Block}
use Rattle.rdis.specs.Levels.{Outcome, masked, unmaskable, plan}
use Rattle.rdis.specs.Packing.{width, bytes_for, in_order, packed, unpacked}
use Rattle.rdis.specs.Theorems.{Masked}
use Rattle.rdis.proofs.LevelLaws.{refused_by_chain, more_allowed}
use Rattle.rdis.proofs.PackingLaws.{length_in_order, plan_below, unpack_pack}
use Rattle.grid_promises.specs.Calls.{used, rows_of, columns_of}
use Rattle.grid_promises.specs.Refusals.{InRange, plan_refusals}
use Rattle.grid_promises.specs.Demands.{PlanDemands}
use Rattle.grid_promises.specs.Conversion.{convert_refusals, PlanThenConvert}
use Rattle.grid_promises.specs.declared.Answer.{Answer}
use Rattle.grid_promises.proofs.RefusalLaws.{plan_accepted}
use Rattle.grid_promises.proofs.PlanDemands.{plan_range, plan_lengths, planned, plan_fits}
use Rattle.grid_promises.proofs.OneAnswer.{same_answer, same_counts}
use Rattle.grid_promises.proofs.ByDemands.{plan_exactly, plan_few}
use Rattle.grid_promises.proofs.OneConversion.{convert_exactly}

masks_or_not : (o : Outcome) (l : ℕ) (r c : ℕ → ℕ) → o ≡ masked l r c → o ≡ unmaskable → ⊥
masks_or_not o l r c p q = let z : ◌≡◌ {A = ℕ} 0 1 = cc in omega arith

module _ (b : Block) (k k' : ℕ) (old counters : List ℕ) (p : Answer) (h : k ≤ k') (h' : k' ≤ 7) (d : PlanDemands b k old p counters) (z : p.number ≡ 0) where
  none : NoneOf (plan_refusals b k (length old))
  none = plan_accepted b k (length old) p.number d.first z

  masks : Masked b k (used (plan b k)) (rows_of (plan b k)) (columns_of (plan b k))
  masks = planned b k (length old) none

  -- the target's plan is the same
  same_plan : plan b k' ≡ plan b k
  same_plan = more_allowed b k k' _ _ _ h masks ∙ sym masks

  abbrev numbers : List ℕ
  numbers = in_order b.rows b.columns (rows_of (plan b k)) (columns_of (plan b k))

  packs : counters ≡ packed (width k) numbers
  packs = (plan_exactly b k old p counters d).counters_are z

  range : InRange b.rows b.columns k
  range = plan_range b k (length old) none

  range' : InRange b.rows b.columns k'
  range' = record { rows = range.rows; columns = range.columns; levels = (omega (arith, range.levels.0), h') }

  -- no refusal of the conversion applies, and none of the plan at the target
  convert_none : (out : ℕ) → out ≡ bytes_for (width k') (b.rows + b.columns) → NoneOf (convert_refusals b.rows b.columns k k' counters out)
  convert_none out l = (
    λ f. f (record { before = range; after = range'; larger = h }),
    (
      λ f. f (record { counter_bytes = (d.well_formed z).size; out_bytes = l }),
      ((d.well_formed z).clear, (plan_few b k old p counters d z, tt)),
    ),
  )

  plan_none : (counters : ℕ) → counters ≡ bytes_for (width k') (b.rows + b.columns) → NoneOf (plan_refusals b k' counters)
  plan_none counters l =
      let m = plan_lengths b k (length old) none in (
        λ f. f range',
        (
          λ f. f (record { data_words = m.data_words; mask_words = m.mask_words; value_words = m.value_words; counter_bytes = l }),
          (none.1.1.0, (λ f. masks_or_not (plan b k') _ _ _ (same_plan ∙ masks) ((refused_by_chain b k').1 f), tt)),
        ),
      )

  unpacks : unpacked (width k) (b.rows + b.columns) counters ≡ numbers
  unpacks =
      let below = plan_below b k _ _ _ masks (2 ^ width k) (plan_fits b k (length old) none) in
      ap (unpacked (width k) (b.rows + b.columns)) packs
      ∙ unpack_pack (width k) (b.rows + b.columns) numbers (length_in_order b.rows b.columns _ _) below

pub plan_then_convert : PlanThenConvert
plan_then_convert b k k' old counters old' counters' out after p p' a h h' l l' d z d' e =
    let taken = accepts _ _ (convert_none b k k' old counters p h h' d z (length out) l') e.first in
    let plans = accepts _ _ (plan_none b k k' old counters p h h' d z (length old') l) d'.first in
    let same = same_plan b k k' old counters p h h' d z in
    let E = plan_exactly b k old p counters d in
    let E' = plan_exactly b k' old' p' counters' d' in
    let levels = E'.levels_are plans ∙ ap used same ∙ sym (E.levels_are z) in (
      taken,
      same_answer p' p (plans ∙ sym z) (d'.names_none ∙ sym d.names_none)
          (same_counts b b p' p (λ w. refl) levels (d'.every_fault plans ∙ sym (d.every_fault z)) (d'.kinds plans) (d.kinds z)),
      (convert_exactly b.rows b.columns k k' counters out a after e).bytes_are taken ∙ ap (packed (width k')) (unpacks b k k' old counters p h h' d z)
          ∙ ap (λ o. packed (width k') (in_order b.rows b.columns (rows_of o) (columns_of o))) (sym same) ∙ sym (E'.counters_are plans),
    )
