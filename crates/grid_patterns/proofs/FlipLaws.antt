-- Laws of one pair of sets: the words of the rows in one set are inverted one by one, at the columns of the other. Assumes nothing.
use Prim.Native.Nat.{ℕ, ◌^◌, ◌<◌}
use mathlib.Core.Path.{◌≡◌, refl, sym, ap, ap₂, ◌∙◌}
use mathlib.Core.Bool.{Bool, true, false, not, xor, ◌&&◌}
use mathlib.Core.List.{List}
use native.Mathlib.Nat.{lt_trans}
use native.Mathlib.Decide.{ℕ_discrete}
use borrow.Author.Tests.{eqb-true, eq-eqb, ne_eqb}
use lib.Bits.{bit_xor, xor_comm, xor_lt}
use lib.Dec.{eqb}
use lib.ListN.{length, get_or, set, length-set}
use lib.Seq.{get_or-set_same, get_or-set_other}
use Rattle.bits.specs.Bits.{has, words, Below}
use Rattle.bits.proofs.TestLaws.{clash, xor_false}
use Rattle.bits.proofs.BitLaws.{has_xor, has_zero}
use Rattle.bits.proofs.ByteLaws.{below_set, is_words}
use Rattle.rdis.specs.Block.{bit}
use Rattle.words.specs.SetBits.{TakesLowest}
use Rattle.words.proofs.SetBitsLaws.{place_below}

-- where the rows `rest` are left, inverting those too makes of `into` what inverting all makes of `before`
pub record Flipping (before : List ℕ) (rows columns : ℕ) (into : List ℕ) (rest : ℕ) : Type 0 where
  pub same : length into ≡ length before
  pub fits : Below (2 ^ 64) into
  pub few : rest < 2 ^ length before
  pub bits : (i j : ℕ) → xor (has rest i && has columns j) (bit into i j) ≡ xor (has rows i && has columns j) (bit before i j)

-- a row of the set (r) that is inverted (e) leaves the set
row_done : (r e c b : Bool) → (e ≡ true → r ≡ true) → xor ((r && not e) && c) (xor (e && c) b) ≡ xor (r && c) b
unfolding xor
row_done true true c b h = xor_false (xor c b)
row_done true false c b h = ap (xor c) (xor_false b)
row_done false false c b h = xor_false (xor false b)
row_done false true c b h = clash (h refl) refl

-- the bits, where the word of row t is inverted at the columns c
flipped : (ws : List ℕ) (t c i j : ℕ) → t < length ws → bit (set ws t (bit_xor (get_or ws t 0) c)) i j ≡ xor (eqb i t && has c j) (bit ws i j)
unfolding bit
flipped ws t c i j l = go (ℕ_discrete i t)
  where
    go : Dec (i ≡ t) → has (get_or (set ws t (bit_xor (get_or ws t 0) c)) i 0) j ≡ xor (eqb i t && has c j) (has (get_or ws i 0) j)
    go (yes e) = rw (eq-eqb i t e, e, get_or-set_same ws t (bit_xor (get_or ws t 0) c) 0 l, xor_comm (get_or ws t 0) c) (has_xor c (get_or ws t 0) j)
    go (no n) = rw (ne_eqb i t n, get_or-set_other ws t i (bit_xor (get_or ws t 0) c) 0 n) (sym (xor_false (has (get_or ws i 0) j)))

module _ (before : List ℕ) (rows columns : ℕ) where
  pub flip_starts : rows < 2 ^ length before → Below (2 ^ 64) before → Flipping before rows columns before rows
  flip_starts l h = record { same = refl; fits = h; few = l; bits = λ i j. refl }

  module _ (into : List ℕ) (rest : ℕ) (s : Flipping before rows columns into rest) where
    pub flip_done : rest ≡ 0 → into ≡ words (length before) 64 (λ i j. xor (has rows i && has columns j) (bit before i j))
    unfolding bit
    flip_done e =
        is_words (length before) 64 (λ i j. xor (has rows i && has columns j) (bit before i j)) into s.same (λ i _. s.fits i)
        (λ i j _ _. sym (xor_false (bit into i j)) ∙ ap (λ t. xor (t && has columns j) (bit into i j)) (sym (has_zero i) ∙ ap (λ x. has x i) (sym e)) ∙ s.bits i j)

    -- the next row that is left is i, and then y are left
    module _ (i y : ℕ) (next : TakesLowest rest i y) where
      -- it has a word
      pub flip_inside : i < length into
      flip_inside = rw s.same (place_below (length before) rest i y s.few next)

      pub flip_more : columns < 2 ^ 64 → Flipping before rows columns (set into i (bit_xor (get_or into i 0) columns)) y
      flip_more c =
          record {
            same = length-set into i (bit_xor (get_or into i 0) columns) ∙ s.same;
            fits = below_set (2 ^ 64) into i (bit_xor (get_or into i 0) columns) s.fits (xor_lt 64 (get_or into i 0) columns (s.fits i) c);
            few = lt_trans next.fewer s.few;
            bits = λ r j.
                ap₂ (λ x y. xor (x && has columns j) y) (next.others r) (flipped into i columns r j flip_inside)
                ∙ row_done (has rest r) (eqb r i) (has columns j) (bit into r j) (λ e. ap (has rest) (eqb-true r i e) ∙ next.set)
                ∙ s.bits r j;
          }
