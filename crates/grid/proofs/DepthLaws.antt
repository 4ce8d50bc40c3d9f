-- The greatest counter, counted over the pairs of sets. Assumes nothing.
use Prim.Native.Nat.{ℕ, zero, suc, ◌+◌, ◌≤◌}
use mathlib.Core.Path.{◌≡◌, refl, ap, ◌∙◌}
use mathlib.Core.Bool.{Bool, true, false, cond}
use mathlib.Core.List.{List}
use native.Mathlib.Numerals.{add-one}
use native.Mathlib.Omega.{arith}
use lib.ListN.{length, take}
use Rattle.std.specs.List.{count_by, zip}
use Rattle.std.proofs.lemmas.List.Sums.{fold_more}
use Rattle.std.proofs.lemmas.Slice.Zip.{length-zip, get_or-zip}
use Rattle.bits.specs.Bits.{num, sum}
use Rattle.grid_sets.specs.Sets.{some_line, filled}
use Rattle.grid.specs.Steps.{has_line}

counts : (t : Bool) (x : ℕ) → x + cond t 1 0 ≡ num t + x
counts true x = omega arith
counts false x = omega arith

module _ (rows columns : List ℕ) where
  pub filled_is : (n : ℕ) → n ≤ length rows → n ≤ length columns → count_by has_line (take n (zip rows columns)) ≡ filled rows columns n
  unfolding filled sum
  filled_is zero l m = refl
  filled_is (suc n) l m =
      let more = rw add-one at (fold_more (λ a p. a + cond (has_line p) 1 0) 0 (zip rows columns) n (0, 0) (omega (arith, length-zip rows columns))) in
      more ∙ ap (λ p. count_by has_line (take n (zip rows columns)) + cond (has_line p) 1 0) (get_or-zip rows columns n (0, 0) l m)
      ∙ counts (some_line rows columns n) (count_by has_line (take n (zip rows columns))) ∙ ap (λ x. num (some_line rows columns n) + x) (filled_is n (omega arith) (omega arith))
