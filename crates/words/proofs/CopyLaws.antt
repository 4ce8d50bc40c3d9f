-- Laws of a copy of words. Assumes nothing.
use Prim.Native.Nat.{ℕ, ◌+◌, ◌<◌}
use mathlib.Core.Path.{◌≡◌, refl, sym, ◌∙◌}
use mathlib.Core.Bool.{cond}
use mathlib.Core.List.{List}
use native.Mathlib.Numerals.{add-one}
use native.Mathlib.Omega.{arith}
use borrow.Author.Tests.{eq-eqb, ne_eqb}
use lib.Dec.{eqb}
use lib.ListN.{length, get_or, take, set}
use lib.Seq.{take-suc, take-suc-set, take_all}

pub copy_more : (i : ℕ) (from into : List ℕ) → i < length from → length into ≡ length from → take i into ≡ take i from → take (i + 1) (set into i (get_or from i 0)) ≡ take (i + 1) from
copy_more i from into l s h = rw (add-one, take-suc-set into i (get_or from i 0) (omega arith), take-suc from i 0 l, h)

pub copy_done : (i : ℕ) (from into : List ℕ) → i ≡ length from → length into ≡ length from → take i into ≡ take i from → into ≡ from
copy_done i from into e s h = sym (take_all i into (omega arith)) ∙ h ∙ take_all i from (omega arith)

-- whether there is as much room decides
pub as_long_lem : (m n : ℕ) (from into : List ℕ) → m ≡ n → from ≡ cond (eqb m n) from into
as_long_lem m n from into e = rw (eq-eqb m n e) refl

pub not_as_long : (m n : ℕ) (from into : List ℕ) → (m ≡ n → ⊥) → into ≡ cond (eqb m n) from into
not_as_long m n from into h = rw (ne_eqb m n h) refl
