-- The index that goes with a number: what is computed is what is demanded. Assumes nothing.
use Prim.Native.Nat.{ℕ, ◌≤◌, ◌<◌}
use mathlib.Core.Path.{◌≡◌, sym, ap, subst, ◌∙◌}
use mathlib.Core.Bool.{cond}
use mathlib.Core.List.{List}
use mathlib.Core.Logic.{◌≢◌}
use native.Mathlib.Decide.{ℕ_discrete}
use borrow.Author.Tests.{eq-eqb, ne_eqb, lt-ltb, le-ltb, ltb-true, ltb-false}
use lib.Dec.{ltb}
use Rattle.bits.proofs.BoundLaws.{first_found, first_is}
use Rattle.rdis.specs.Packing.{width, counter, first_above}
use Rattle.grid_promises.specs.Calls.{bad_index}
use Rattle.grid_promises.specs.Refusals.{Above}
use Rattle.grid_promises.specs.Demands.{FirstAbove, Names}
use Rattle.grid_promises.proofs.RefusalLaws.{counter_held, held_is}

module _ (k n : ℕ) (bs : List ℕ) where
  -- of counters of which one is above k, the first is
  first_above_lem : Above k n bs → FirstAbove k n bs (first_above k n bs)
  unfolding first_above
  first_above_lem (t, l, (x, held, h)) =
      let f = first_found n (λ t. ltb k (counter (width k) bs t)) t l (lt-ltb k _ (subst (λ y. k < y) (sym (held_is (width k) t x bs held)) h)) in
      record {
        inside = f.inside;
        above = (_, counter_held (width k) _ bs, ltb-true k _ f.passes);
        before = λ s y p held. subst (λ y. y ≤ k) (held_is (width k) s y bs held) (ltb-false k _ (f.before s p));
      }

  -- and none but it is
  is_first_above : (t : ℕ) → FirstAbove k n bs t → t ≡ first_above k n bs
  unfolding first_above
  is_first_above t f =
      let (x, held, h) = f.above in
      sym (first_is n _ t (record {
        inside = f.inside;
        passes = lt-ltb k _ (subst (λ y. k < y) (sym (held_is (width k) t x bs held)) h);
        before = λ s p. le-ltb k _ (f.before s _ p (counter_held (width k) s bs));
      }))

  module _ (number : ℕ) where
    index_of_four : number ≡ 4 → bad_index k n bs number ≡ first_above k n bs
    unfolding bad_index
    index_of_four e = ap (λ t. cond t (first_above k n bs) 0) (eq-eqb number 4 e)

    pub no_index : number ≢ 4 → bad_index k n bs number ≡ 0
    unfolding bad_index
    no_index h = ap (λ t. cond t (first_above k n bs) 0) (ne_eqb number 4 h)

  module _ (number index : ℕ) where
    -- an index that is right with 4 and with any other number
    pub index_is_lem : (number ≡ 4 → index ≡ first_above k n bs) → (number ≢ 4 → index ≡ 0) → index ≡ bad_index k n bs number
    index_is_lem f g = elim (ℕ_discrete number 4) [ yes z ↦ f z ∙ sym (index_of_four number z) | no h ↦ g h ∙ sym (no_index number h) ]

    pub index_names : (number ≡ 4 → Above k n bs) → index ≡ bad_index k n bs number → Names k n bs number index
    index_names f e =
        record { first = λ z. subst (FirstAbove k n bs) (sym (e ∙ index_of_four number z)) (first_above_lem (f z)); none = λ h. e ∙ no_index number h }

    pub names_index : Names k n bs number index → index ≡ bad_index k n bs number
    names_index s = index_is_lem (λ z. is_first_above index (s.first z)) s.none

    -- where no counter is above k, none is named
    pub names_none_lem : Names k n bs number index → (Above k n bs → ⊥) → index ≡ 0
    names_none_lem s h = s.none (λ z. let f = s.first z in h (index, f.inside, f.above))
