-- A block's length, what a record stands at, and the three ways in which a lump goes. Assumes nothing.
use Prim.Native.Nat.{ℕ, ◌+◌, ◌<◌, ◌≤◌}
use mathlib.Core.Path.{◌≡◌, refl}
use mathlib.Core.Bool.{Bool, true, false, cond}
use mathlib.Core.List.{List, [], ◌∷◌}
use mathlib.Core.Logic.{◌⊎◌, inl, inr, ⊎_elim}
use native.Mathlib.Omega.{arith}
use borrow.Author.Tests.{leb-true, leb-false, eqb-true, eqb-false}
use lib.Dec.{eqb, leb}
use lib.ListN.{length}
use Rattle.bits.specs.First.{◌when◌, First}
use Rattle.bits.proofs.TestLaws.{lt_or_le, ltb_iff, not_iff, iff_stable}
use Rattle.bits.proofs.FirstLaws.{hit, miss, missed, first_test, first_none}
use Rattle.grid_promises.specs.Refusals.{InRange}
use Rattle.grid_promises.proofs.RefusalLaws.{in_range_lem}
use Rattle.grid_promises.proofs.OldReads.{longest_counters}
use Rattle.fragment_promises.specs.declared.Transfer.{Transfer}
use Rattle.fragment_promises.specs.Transfers.{size, size_of, standing, standing_of, extended, noted, lumped}
use Rattle.fragment_promises.specs.Demands.{Good}

-- every block has room: the longest is that of 64 rows and columns with counters of three bits
pub size_most : (m n k : ℕ) → InRange m n k → size m n k ≤ 560
unfolding size
size_most m n k r = omega (arith, longest_counters m n k r, r.rows.1)

-- ---- what numbers stand at

module _ (m n k taken : ℕ) where
  pub stands : First ((1 when (InRange m n k → ⊥)) ∷ (9 when (size m n k < taken)) ∷ []) (standing m n k taken)
  unfolding standing
  stands = first_test 1 _ _ _ _ (not_iff _ (in_range_lem m n k)) (λ _. first_test 9 0 _ [] _ (ltb_iff (size m n k) taken) (λ _. first_none))

  pub stands_bad : (InRange m n k → ⊥) → standing m n k taken ≡ 1
  stands_bad h = hit stands h

  pub stands_long : InRange m n k → size m n k < taken → standing m n k taken ≡ 9
  stands_long r l = hit (miss stands (λ h. h r)) l

  pub stands_well : InRange m n k → taken ≤ size m n k → standing m n k taken ≡ 0
  stands_well r l = missed (miss (miss stands (λ h. h r)) (λ h. omega arith))

  pub well_range : standing m n k taken ≡ 0 → InRange m n k
  well_range z = iff_stable _ (in_range_lem m n k) (λ h. omega (arith, stands_bad h))

  pub well_taken : standing m n k taken ≡ 0 → taken ≤ size m n k
  well_taken z = ⊎_elim (λ l. absurd (omega (arith, stands_long (well_range z) l))) (λ l. l) (lt_or_le (size m n k) taken)

-- ---- and a record

module _ (t : Transfer) where
  pub well_good : standing_of t ≡ 0 → Good t
  well_good = well_range t.rows t.columns t.k t.taken

  pub well_size : standing_of t ≡ 0 → t.taken ≤ size_of t
  well_size = well_taken t.rows t.columns t.k t.taken

  pub well_fits : standing_of t ≡ 0 → t.taken ≤ 560
  well_fits z = omega (arith, well_size z, size_most _ _ _ (well_good z))

  -- refused: which of the two
  pub ill : 0 < standing_of t → (Good t → ⊥) ⊎ (size_of t < t.taken)
  ill l = ⊎_elim inr (λ h. inl (λ r. omega (arith, stands_well _ _ _ t.taken r h))) (lt_or_le (size_of t) t.taken)

  -- ---- the three ways of a lump

  pub by_lump : (bs : List ℕ) (P : Transfer → Type 0) → (0 < standing_of t → P t) → (standing_of t ≡ 0 → t.taken + length bs ≤ size_of t → P (extended t bs))
      → (standing_of t ≡ 0 → size_of t < t.taken + length bs → P (noted t)) → P (lumped t bs)
  unfolding lumped
  by_lump bs P stays taken refused = stood (eqb (standing_of t) 0) refl
    where
      fitted : standing_of t ≡ 0 → (b : Bool) → leb (t.taken + length bs) (size_of t) ≡ b → P (cond b (extended t bs) (noted t))
      fitted z true e = taken z (leb-true _ _ e)
      fitted z false e = refused z (leb-false _ _ e)

      stood : (b : Bool) → eqb (standing_of t) 0 ≡ b → P (cond b (cond (leb (t.taken + length bs) (size_of t)) (extended t bs) (noted t)) t)
      stood true e = fitted (eqb-true _ _ e) (leb (t.taken + length bs) (size_of t)) refl
      stood false e = let h : standing_of t ≡ 0 → ⊥ = eqb-false (standing_of t) 0 e in stays (omega arith)
