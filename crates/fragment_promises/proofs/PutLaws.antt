-- Bytes put into others from a place on: where each of them then stands. Assumes nothing.
use Prim.Native.Nat.{ℕ, ◌+◌, ◌-◌, ◌<◌, ◌≤◌}
use mathlib.Core.Path.{◌≡◌, sym, ap, subst, ◌∙◌}
use mathlib.Core.List.{List, ◌++◌}
use mathlib.Core.Logic.{◌⊎◌, inl, inr, ⊎_elim}
use native.Mathlib.Omega.{arith}
use lib.ListN.{length, get_or, take, drop, length-append, length-drop, get_or-append}
use lib.Seq.{take_at, length-take-le, get_or-append-add, get_or-drop}
use Rattle.bits.proofs.TestLaws.{lt_or_le}
use Rattle.bits.proofs.ByteLaws.{get_or_take}

-- a place is one of the n from place p on, or another
pub by_place : (P : ℕ → Type 0) (p n i : ℕ) → ((i < p) ⊎ (p + n ≤ i) → P i) → ((j : ℕ) → j < n → P (p + j)) → P i
by_place P p n i other inside =
    ⊎_elim (λ l. other (inl l))
    (λ l. ⊎_elim (λ g. let e : p + (i - p) ≡ i = omega arith in subst P e (inside (i - p) (omega arith))) (λ g. other (inr g)) (lt_or_le i (p + n))) (lt_or_le i p)

module _ (p : ℕ) (d bs : List ℕ) (fits : p + length bs ≤ length d) where
  -- bs from place p of d on
  abbrev pub put : List ℕ
  put = take p d ++ bs ++ drop (p + length bs) d

  front : length (take p d) ≡ p
  front = length-take-le p d (omega arith)

  upto : length (take p d ++ bs) ≡ p + length bs
  upto = length-append (take p d) bs ∙ ap (λ x. x + length bs) front

  pub length_put : length put ≡ length d
  length_put = length-append (take p d ++ bs) (drop (p + length bs) d) ∙ omega (arith, upto, length-drop (p + length bs) d)

  pub put_inside : (i : ℕ) → i < length bs → get_or put (p + i) 0 ≡ get_or bs i 0
  put_inside i l =
      get_or-append (take p d ++ bs) (drop (p + length bs) d) 0 (p + i) (omega (arith, upto))
      ∙ ap (λ x. get_or (take p d ++ bs) (x + i) 0) (sym front) ∙ get_or-append-add (take p d) bs i 0

  pub put_before : (i : ℕ) → i < p → get_or put i 0 ≡ get_or d i 0
  put_before i l =
      get_or-append (take p d ++ bs) (drop (p + length bs) d) 0 i (omega (arith, upto))
      ∙ get_or-append (take p d) bs 0 i (omega (arith, front)) ∙ get_or_take p d i l

  pub put_after : (i : ℕ) → p + length bs ≤ i → get_or put i 0 ≡ get_or d i 0
  put_after i l =
      let e : i ≡ length (take p d ++ bs) + (i - (p + length bs)) = omega (arith, upto) in
      let f : p + length bs + (i - (p + length bs)) ≡ i = omega arith in
      ap (λ x. get_or put x 0) e ∙ get_or-append-add (take p d ++ bs) (drop (p + length bs) d) (i - (p + length bs)) 0
      ∙ get_or-drop (p + length bs) d (i - (p + length bs)) 0 ∙ ap (λ x. get_or d x 0) f

  -- the bytes up to the last of them
  pub take_put : take (p + length bs) put ≡ take p d ++ bs
  take_put = take_at (take p d ++ bs) (drop (p + length bs) d) (p + length bs) upto
