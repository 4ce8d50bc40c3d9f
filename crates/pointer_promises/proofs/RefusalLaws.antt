-- The number of a call is the first refusal that applies, and that is the lowest. Assumes nothing.
use mathlib.Core.Path.{◌≡◌, refl, sym, subst}
use mathlib.Core.Bool.{Bool, true, false, not, cond, ◌&&◌}
use mathlib.Core.List.{List, [], ◌∷◌}
use mathlib.Core.Logic.Iff
use mathlib.Core.Logic.{◌↔◌}
use Prim.Native.Nat.{ℕ, zero, suc}
use native.Mathlib.Omega.{arith}
use lib.Dec.{eqb}
use lib.ListN.{length}
use Rattle.bits.specs.First.{Refusal, ◌when◌, First}
use Rattle.bits.proofs.TestLaws.{leb_iff, ltb_iff, eqb_iff, iff_stable, not_iff, and_iff}
use Rattle.bits.proofs.FirstLaws.{first_test, first_none, rising_lowest}
use Rattle.pointer_promises.specs.Pointer.{size, spare, formed, held, repeats, or_else, in_range, measured, verdict, read_number, write_judged, write_number}
use Rattle.pointer_promises.specs.Refusals.{InRange, Fewest, ReadLengths, WriteLengths, WellFormed, NoneLeft, row_refusals, read_refusals, write_refusals}
use Rattle.pointer_promises.specs.Theorems.{ReadLowest, WriteLowest}
use Rattle.pointer_promises.proofs.FormedLaws.{size_iff, spare_iff, formed_iff}
use Rattle.pointer_promises.proofs.ServedLaws.{twice_iff, none_left_iff}

-- ---- numbers that are tried in turn

or_else_assoc : (x y z : ℕ) → or_else (or_else x y) z ≡ or_else x (or_else y z)
or_else_assoc zero y z = refl
or_else_assoc (suc x) y z = refl

or_else_none : (x : ℕ) → or_else x 0 ≡ x
or_else_none zero = refl
or_else_none (suc x) = refl

pub range_iff : (n : ℕ) → (in_range n ≡ true) ↔ InRange n
range_iff n = Iff.trans (and_iff _ (leb_iff _ n) _ (leb_iff n _)) (λ (x, y). (omega arith, omega arith), λ (x, y). (omega arith, omega arith))

-- 1 and 2 come first, in that order
measured_first : (n : ℕ) (fixed : Bool) (l k : ℕ) (a b : Bool) → in_range n ≡ a → fixed && eqb l (size n) ≡ b → or_else (measured n fixed l) k ≡ cond (not a) 1 (cond (not b) 2 k)
unfolding measured
measured_first n fixed l k false b p q = rw p
measured_first n fixed l k true false p q = rw (p, q)
measured_first n fixed l k true true p q = rw (p, q)

-- then 3, 4 and 5
verdict_first : (n : ℕ) (m : List ℕ) (k : ℕ) (a b c : Bool) → spare n m ≡ a → formed n m ≡ b → repeats (held n m) ≡ c
    → or_else (verdict n m) k ≡ cond a 3 (cond (not b) 4 (cond c 5 k))
unfolding verdict
verdict_first n m k true b c p q r = rw p
verdict_first n m k false false c p q r = rw (p, q)
verdict_first n m k false true true p q r = rw (p, q, r)
verdict_first n m k false true false p q r = rw (p, q, r)

-- ---- one cascade for both calls

module _ (Lengths : Type 0) (n : ℕ) (m : List ℕ) (others : List Refusal) where
  -- `fixed` tests the lengths of the buffers of 64 bytes, and k is the first of the others that applies
  row_first : (fixed : Bool) (Fixed : Type 0) (k : ℕ) → (fixed ≡ true) ↔ Fixed → (Fixed × Fewest n (length m)) ↔ Lengths → (InRange n → WellFormed n m → First others k)
      → First (row_refusals Lengths n m others) (or_else (measured n fixed (length m)) (or_else (verdict n m) k))
  row_first fixed Fixed k f g r =
      let lengths = Iff.trans (and_iff fixed f _ (Iff.trans (eqb_iff (length m) (size n)) (size_iff n (length m)))) g in
      subst (First _) (sym (measured_first n fixed (length m) _ (in_range n) (fixed && eqb (length m) (size n)) refl refl))
      (first_test 1 _ _ _ _ (not_iff _ (range_iff n)) (λ p.
      let range : InRange n = iff_stable _ (range_iff n) p in
      first_test 2 _ _ _ _ (not_iff _ lengths) (λ q.
      let long : length m ≡ size n = (size_iff n (length m)).1 (g.1 (iff_stable _ lengths q)).1 in
      subst (First _) (sym (verdict_first n m k (spare n m) (formed n m) (repeats (held n m)) refl refl refl))
      (first_test 3 _ _ _ _ (spare_iff n m long) (λ _.
      first_test 4 _ _ _ _ (not_iff _ (formed_iff n m range)) (λ v.
      let forms : WellFormed n m = iff_stable _ (formed_iff n m range) v in
      first_test 5 _ _ _ _ (twice_iff n m range forms) (λ _. r range forms)))))))

-- ---- the two calls

pub read_first : (n cells : ℕ) (m : List ℕ) (out : ℕ) → First (read_refusals n cells m out) (read_number n cells m out)
unfolding read_number
read_first n cells m out =
    subst (λ k. First (read_refusals n cells m out) (or_else (measured n (eqb cells 64 && eqb out 64) (length m)) k)) (or_else_none (verdict n m))
    (row_first (ReadLengths n cells (length m) out) n m [] (eqb cells 64 && eqb out 64) _ 0 (and_iff _ (eqb_iff _ _) _ (eqb_iff _ _))
    (λ ((x, y), z). record { cell_bytes = x; metadata_bytes = z; out_bytes = y }, λ r. ((r.cell_bytes, r.out_bytes), r.metadata_bytes))
    (λ _ _. first_none))

module _ (n : ℕ) (wanted mask values : List ℕ) (cells : ℕ) (m : List ℕ) where
  pub write_first : First (write_refusals n wanted mask values cells m) (write_number n wanted mask values cells m)
  unfolding write_number write_judged
  write_first =
      subst (First (write_refusals n wanted mask values cells m)) (sym (or_else_assoc (measured n _ (length m)) (verdict n m) _))
      (row_first (WriteLengths n (length wanted) (length mask) (length values) cells (length m)) n m ((6 when NoneLeft n wanted mask values m) ∷ []) _ _ _
      (and_iff _ (and_iff _ (and_iff _ (eqb_iff _ _) _ (eqb_iff _ _)) _ (eqb_iff _ _)) _ (eqb_iff _ _)) (
        λ ((((w, k), v), c), z). record { data_bytes = w; mask_bytes = k; value_bytes = v; cell_bytes = c; metadata_bytes = z },
        λ r. ((((r.data_bytes, r.mask_bytes), r.value_bytes), r.cell_bytes), r.metadata_bytes),
      )
      (λ range formed. first_test 6 0 _ [] _ (Iff.trans (ltb_iff _ _) (none_left_iff n m range formed wanted mask values)) (λ _. first_none)))

-- ---- the numbers rise

pub read_lowest : ReadLowest
read_lowest n cells m out a out' r = (rising_lowest _ _ refl).0 r.first

pub write_lowest : WriteLowest
write_lowest n wanted mask values cells m a cells' m' w = (rising_lowest _ _ refl).0 w.first
