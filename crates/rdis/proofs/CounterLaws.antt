-- The counters of a plan: at most the levels used, and as many for some row; and a stuck cell is wrong exactly when they invert it. Assumes nothing.
use Prim.Native.Nat.{ℕ, zero, suc, ◌+◌, ◌%◌, ◌≤◌, ◌<◌, min}
use mathlib.Core.Path.{◌≡◌, refl, sym, ap, subst, ◌∙◌}
use mathlib.Core.Bool.{Bool, true, false, not, cond, not-not}
use mathlib.Core.Logic.{⊎_elim}
use native.Mathlib.Omega.{arith}
use lib.Dec.{eqb}
use Rattle.bits.specs.Bits.{num, has}
use Rattle.bits.proofs.TestLaws.{clash, true_or_false, false_when, num_lt}
use Rattle.bits.proofs.BoundLaws.{some_out}
use Rattle.bits.proofs.BitLaws.{has_word}
use Rattle.rdis.specs.Block.{Block, stuck, differs, faulty}
use Rattle.rdis.specs.Levels.{Subgrid, whole, takes_row, taken, left, Outcome, masked, unmaskable, none, more, levels, plan}
use Rattle.rdis.specs.Cells.{flips}
use Rattle.rdis.specs.Chains.{Way, by_row, by_column}
use Rattle.rdis.specs.Theorems.{Masked, CountersAtMost, LevelsReached, WrongWhereFlipped}
use Rattle.rdis.proofs.Taking.{own, each, inside, line_taken, line_out, left_in}
use Rattle.rdis.proofs.LevelLaws.{levels_ind}

-- a stuck cell that is wrong in one sense is right in the other
pub other_sense : (b : Block) (w : Bool) (i j : ℕ) → stuck b i j ≡ true → faulty b (not w) i j ≡ not (faulty b w i j)
unfolding faulty
other_sense b w i j h = rw h (go w (differs b i j))
  where
    go : (w x : Bool) → cond (not w) x (not x) ≡ not (cond w x (not x))
    go true x = refl
    go false x = sym (not-not x)

odd_suc : (n : ℕ) → not (eqb (n % 2) 1) ≡ eqb (suc n % 2) 1
odd_suc zero = refl
odd_suc (suc zero) = refl
odd_suc (suc (suc n)) =
    let p : suc (suc n) % 2 ≡ n % 2 = omega arith in
    let q : suc (suc (suc n)) % 2 ≡ suc n % 2 = omega arith in
    rw (p, q) (odd_suc n)

-- ---- what the counters of the levels over a subgrid say

abbrev pub tally : Way → (ℕ → ℕ) → (ℕ → ℕ) → ℕ → ℕ
tally by_row r c = r
tally by_column r c = c

pub record Counted (b : Block) (w : Bool) (s : Subgrid) (l : ℕ) (r c : ℕ → ℕ) : Type 0 where
  pub outside : (d : Way) (i : ℕ) → has (own d s) i ≡ false → tally d r c i ≡ 0
  pub most : (d : Way) (i : ℕ) → tally d r c i ≤ l
  pub reached : 1 ≤ l → (i : ℕ) × (i < b.rows) × (r i ≡ l)
  pub odd : (i j : ℕ) → i < b.rows → j < b.columns → has s.rows i ≡ true → has s.columns j ≡ true → stuck b i j ≡ true → faulty b w i j ≡ flips r c i j

abbrev pub Counts : Block → Bool → Subgrid → Outcome → Type 0
Counts b w s unmaskable = Unit {0}
Counts b w s (masked l r c) = Counted b w s l r c

ended : (b : Block) (w : Bool) (s : Subgrid) → left b w s ≡ false → Counts b w s none
unfolding flips
ended b w s e = record {
  outside = each (λ d. (i : ℕ) → has (own d s) i ≡ false → tally d (λ _. 0) (λ _. 0) i ≡ 0) (λ i q. refl) (λ j q. refl);
  most = each (λ d. (i : ℕ) → tally d (λ _. 0) (λ _. 0) i ≤ 0) (λ i. omega arith) (λ j. omega arith);
  reached = λ l. absurd (omega arith);
  odd = λ i j p q x y h. false_when (faulty b w i j) (λ f. clash (left_in b w s (inside (record { row = i; column = j }) x y (p, q, f))) e);
}

-- where a wrong cell is left, a row is taken
row_taken : (b : Block) (w : Bool) (s : Subgrid) → left b w s ≡ true → (i : ℕ) × (i < b.rows) × (has (taken b w s).rows i ≡ true)
unfolding left taken
row_taken b w s e = let (i, p, q) = some_out b.rows (takes_row b w s) e in (i, p, has_word b.rows (takes_row b w s) i p ∙ q)

module _ (b : Block) (w : Bool) (s : Subgrid) (l : ℕ) (r c : ℕ → ℕ) (e : left b w s ≡ true) (h : Counted b (not w) (taken b w s) l r c) where
  -- what is not of the subgrid is not taken
  untaken : (d : Way) (i : ℕ) → has (own d s) i ≡ false → has (own d (taken b w s)) i ≡ false
  untaken d i q = false_when _ (λ x. clash (line_out b w s d i x).0 q)

  raised : (d : Way) (i : ℕ) → tally d (λ i. num (has (taken b w s).rows i) + r i) (λ j. num (has (taken b w s).columns j) + c j) i ≡ num (has (own d (taken b w s)) i) + tally d r c i
  raised by_row i = refl
  raised by_column i = refl

  odd_more : (i j : ℕ) → i < b.rows → j < b.columns → has s.rows i ≡ true → has s.columns j ≡ true → stuck b i j ≡ true
      → (u v : Bool) → has (taken b w s).rows i ≡ u → has (taken b w s).columns j ≡ v → faulty b w i j ≡ eqb (min (num u + r i) (num v + c j) % 2) 1
  unfolding flips
  odd_more i j p q x y g true true a d =
      let e : suc (min (r i) (c j)) ≡ min (1 + r i) (1 + c j) = omega arith in
      sym (not-not (faulty b w i j)) ∙ ap not (sym (other_sense b w i j g) ∙ h.odd i j p q a d g) ∙ odd_suc (min (r i) (c j)) ∙ ap (λ n. eqb (n % 2) 1) e
  odd_more i j p q x y g true false a d =
      let e : 0 ≡ min (1 + r i) (0 + c j) = omega (arith, h.outside by_column j d) in
      false_when _ (λ f. clash (line_taken b w s by_column (inside (record { row = i; column = j }) x y (p, q, f)) refl) d) ∙ ap (λ n. eqb (n % 2) 1) e
  odd_more i j p q x y g false v a d =
      let e : 0 ≡ min (0 + r i) (num v + c j) = omega (arith, h.outside by_row i a) in
      false_when _ (λ f. clash (line_taken b w s by_row (inside (record { row = i; column = j }) x y (p, q, f)) refl) a) ∙ ap (λ n. eqb (n % 2) 1) e

  -- a row that every level inside took was taken, and without a level inside any row that was taken will do
  reached_more : (m : ℕ) → l ≡ m → (i : ℕ) × (i < b.rows) × (num (has (taken b w s).rows i) + r i ≡ suc l)
  reached_more zero z = let (i, p, q) = row_taken b w s e in (i, p, rw q (omega (arith, z, h.most by_row i)))
  reached_more (suc m) z =
      let (i, p, q) = h.reached (omega arith) in
      (i, p, ⊎_elim (λ x. rw x (omega (arith, q))) (λ x. absurd (omega (arith, z, q, h.outside by_row i x))) (true_or_false (has (taken b w s).rows i)))

  counted : Counts b w s (more (taken b w s) (masked l r c))
  unfolding flips
  counted = record {
    outside = λ d i q. raised d i ∙ rw (untaken d i q) (omega (arith, h.outside d i (untaken d i q)));
    most = λ d i. omega (arith, raised d i, num_lt (has (own d (taken b w s)) i), h.most d i);
    reached = λ _. reached_more l refl;
    odd = λ i j p q x y g. odd_more i j p q x y g (has (taken b w s).rows i) (has (taken b w s).columns j) refl refl;
  }

next : (b : Block) (w : Bool) (s : Subgrid) (o : Outcome) → left b w s ≡ true → Counts b (not w) (taken b w s) o → Counts b w s (more (taken b w s) o)
next b w s unmaskable e h = tt
next b w s (masked l r c) e h = counted b w s l r c e h

pub levels_counted : (b : Block) (k : ℕ) (w : Bool) (s : Subgrid) → Counts b w s (levels b k w s)
levels_counted b = levels_ind b (λ _. Counts b) (λ k. ended b) (λ w s e. tt) (λ k. next b)

-- ---- of a plan

counts : (b : Block) (k l : ℕ) (r c : ℕ → ℕ) → Masked b k l r c → Counted b true (whole b) l r c
unfolding plan
counts b k l r c e = subst (Counts b true (whole b)) e (levels_counted b k true (whole b))

pub counters_at_most : CountersAtMost
counters_at_most b k l r c e = ((counts b k l r c e).most by_row, (counts b k l r c e).most by_column)

pub levels_reached : LevelsReached
levels_reached b k l r c e = (counts b k l r c e).reached

pub wrong_where_flipped : WrongWhereFlipped
unfolding whole
wrong_where_flipped b k l r c e i j p q h = (counts b k l r c e).odd i j p q (has_word b.rows (λ _. true) i p) (has_word b.columns (λ _. true) j q) h
