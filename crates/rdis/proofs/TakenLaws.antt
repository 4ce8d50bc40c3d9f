-- Which levels took a line, said without running them; and no other counters say it. Assumes nothing.
use Prim.Native.Nat.{ℕ, zero, suc, ◌+◌, ◌%◌, ◌≤◌, ◌<◌}
use mathlib.Core.Path.{◌≡◌, refl, sym, ap, subst, ◌∙◌}
use mathlib.Core.Bool.{Bool, true, false, not}
use mathlib.Core.Logic.{◌↔◌}
use native.Mathlib.Omega.{arith}
use lib.Dec.{eqb}
use Rattle.bits.specs.Bits.{num, has}
use Rattle.bits.proofs.TestLaws.{clash}
use Rattle.rdis.specs.Block.{Block, faulty}
use Rattle.rdis.specs.Levels.{Subgrid, whole, taken, left, Outcome, masked, unmaskable, none, more, levels, plan}
use Rattle.rdis.specs.Chains.{Cell, Way, by_row, by_column, line}
use Rattle.rdis.specs.Facts.{CountsLevels}
use Rattle.rdis.specs.Theorems.{Masked, LevelsCounted, OneCount}
use Rattle.rdis.proofs.Walks.{colour}
use Rattle.rdis.proofs.Taking.{own, each, In, of_whole, line_taken, line_out, left_in, narrow}
use Rattle.rdis.proofs.CounterLaws.{tally}
use Rattle.rdis.proofs.LevelLaws.{levels_ind}

-- a cell of line i whose lines both were taken by t levels, and which is of the colour of level t
abbrev Reached : Block → Bool → Subgrid → (ℕ → ℕ) → (ℕ → ℕ) → ℕ → Way → ℕ → Type 0
Reached b w s r c t d i = (e : Cell) × (i ≡ line d e) × In b s (colour w t) e × ((x : Way) → t ≤ tally x r c (line x e))

abbrev Takes : Block → Bool → Subgrid → Outcome → Type 0
Takes b w s unmaskable = Unit {0}
Takes b w s (masked l r c) = (t : ℕ) (d : Way) (i : ℕ) → (t < tally d r c i) ↔ Reached b w s r c t d i

nothing : (d : Way) (i : ℕ) → tally d (λ _. 0) (λ _. 0) i ≡ 0
nothing by_row i = refl
nothing by_column i = refl

ended : (b : Block) (w : Bool) (s : Subgrid) → left b w s ≡ false → Takes b w s none
ended b w s z t d i = (λ h. absurd (omega (arith, nothing d i)), λ (e, p, q, f). by t q (f d) (nothing d (line d e)))
  where
    by : (t : ℕ) {e : Cell} → In b s (colour w t) e → t ≤ tally d (λ _. 0) (λ _. 0) (line d e) → tally d (λ _. 0) (λ _. 0) (line d e) ≡ 0 → t < tally d (λ _. 0) (λ _. 0) i
    by zero q l n = clash (left_in b w s q) z
    by (suc t) q l n = absurd (omega (arith, n))

module _ (b : Block) (w : Bool) (s : Subgrid) (r c : ℕ → ℕ) (h : (t : ℕ) (d : Way) (i : ℕ) → (t < tally d r c i) ↔ Reached b (not w) (taken b w s) r c t d i) where
  abbrev r' : ℕ → ℕ
  r' i = num (has (taken b w s).rows i) + r i

  abbrev c' : ℕ → ℕ
  c' j = num (has (taken b w s).columns j) + c j

  raised : (d : Way) (i : ℕ) → tally d r' c' i ≡ num (has (own d (taken b w s)) i) + tally d r c i
  raised by_row i = refl
  raised by_column i = refl

  -- a line with a counter is taken
  is_taken : (d : Way) (i : ℕ) → 0 < tally d r' c' i → has (own d (taken b w s)) i ≡ true
  is_taken d i l = by (has (own d (taken b w s)) i) refl
    where
      by : (u : Bool) → has (own d (taken b w s)) i ≡ u → u ≡ true
      by true q = refl
      by false q =
          let z : num (has (own d (taken b w s)) i) ≡ 0 = ap num q in
          let (e, p, f, _) = (h 0 d i).0 (omega (arith, raised d i, z)) in
          sym q ∙ rw p (f.lines d)

  above : (d : Way) (i t : ℕ) → has (own d (taken b w s)) i ≡ true → (suc t ≤ tally d r' c' i) ↔ (t ≤ tally d r c i)
  above d i t q =
      let one : num (has (own d (taken b w s)) i) ≡ 1 = ap num q in
      (λ l. omega (arith, raised d i, one), λ l. omega (arith, raised d i, one))

  next_takes : (t : ℕ) (d : Way) (i : ℕ) → (t < tally d r' c' i) ↔ Reached b w s r' c' t d i
  next_takes zero d i = (
    λ l. let (_, (e, f, p)) = line_out b w s d i (is_taken d i l) in (e, p, f, λ x. omega arith),
    λ (e, p, f, _). let q = line_taken b w s d f (sym p) in (above d i 0 q).1 (omega arith),
  )
  next_takes (suc t) d i = (
    λ l.
        let q = is_taken d i (omega arith) in
        let (e, p, f, g) = (h t d i).0 ((above d i (suc t) q).0 l) in
        (e, p, narrow b w s f, λ x. (above x (line x e) t (f.lines x)).1 (g x)),
    λ (e, p, f, g).
        let q : (x : Way) → has (own x (taken b w s)) (line x e) ≡ true = λ x. is_taken x (line x e) (omega (arith, g x)) in
        (above d i (suc t) (rw p (q d))).1 ((h t d i).1 (e, p, record { lines = q; cell = f.cell }, λ x. (above x (line x e) t (q x)).0 (g x))),
  )

next : (b : Block) (w : Bool) (s : Subgrid) (o : Outcome) → Takes b (not w) (taken b w s) o → Takes b w s (more (taken b w s) o)
next b w s unmaskable h = tt
next b w s (masked l r c) h = next_takes b w s r c h

levels_take : (b : Block) (k : ℕ) (w : Bool) (s : Subgrid) → Takes b w s (levels b k w s)
levels_take b = levels_ind b (λ _. Takes b) (λ k. ended b) (λ w s e. tt) (λ k w s o e. next b w s o)

-- ---- of a plan

pub even : (t : ℕ) → colour true t ≡ eqb (t % 2) 0
even zero = refl
even (suc zero) = refl
even (suc (suc t)) = let p : suc (suc t) % 2 ≡ t % 2 = omega arith in rw p (even t)

takes : (b : Block) (k l : ℕ) (r c : ℕ → ℕ) → Masked b k l r c → Takes b true (whole b) (masked l r c)
unfolding plan
takes b k l r c e = subst (Takes b true (whole b)) e (levels_take b k true (whole b))

pub levels_counted : LevelsCounted
levels_counted b k l r c m =
    let h = takes b k l r c m in
    record {
      rows = λ i t p. (
        λ q.
            let (e, x, f, g) = (h t by_row i).0 q in
            (omega arith, (e.column, f.cell.1, g by_column, ap (λ y. faulty b y i e.column) (sym (even t)) ∙ ap (λ y. faulty b (colour true t) y e.column) x ∙ f.cell.2)),
        λ (q, (j, l, g, f)).
            let e : Cell = record { row = i; column = j } in
            (h t by_row i).1 (e, refl, of_whole b (colour true t) e (p, l, ap (λ y. faulty b y i j) (even t) ∙ f), each (λ x. t ≤ tally x r c (line x e)) q g),
      );
      columns = λ j t p. (
        λ q.
            let (e, x, f, g) = (h t by_column j).0 q in
            (omega arith, (e.row, f.cell.0, g by_row, ap (λ y. faulty b y e.row j) (sym (even t)) ∙ ap (λ y. faulty b (colour true t) e.row y) x ∙ f.cell.2)),
        λ (q, (i, l, g, f)).
            let e : Cell = record { row = i; column = j } in
            (h t by_column j).1 (e, refl, of_whole b (colour true t) e (l, p, ap (λ y. faulty b y i j) (even t) ∙ f), each (λ x. t ≤ tally x r c (line x e)) g q),
      );
    }

-- ---- other counters

-- counters that are the same inside the grid say the same
pub counts_ext : (b : Block) (r c r' c' : ℕ → ℕ) → ((i : ℕ) → i < b.rows → r i ≡ r' i) → ((j : ℕ) → j < b.columns → c j ≡ c' j) → CountsLevels b r c → CountsLevels b r' c'
counts_ext b r c r' c' x y p = record {
  rows = λ i t l. (
    λ h. let (u, (j, m, v, f)) = (p.rows i t l).0 (rw (x i l) h) in (rw (← x i l) u, (j, m, rw (← y j m) v, f)),
    λ (u, (j, m, v, f)). rw (← x i l) ((p.rows i t l).1 (rw (x i l) u, (j, m, rw (y j m) v, f))),
  );
  columns = λ j t l. (
    λ h. let (u, (i, m, v, f)) = (p.columns j t l).0 (rw (y j l) h) in (rw (← y j l) u, (i, m, rw (← x i m) v, f)),
    λ (u, (i, m, v, f)). rw (← y j l) ((p.columns j t l).1 (rw (y j l) u, (i, m, rw (x i m) v, f))),
  );
}

-- as many levels took the lines, level by level
reached_too : (b : Block) (r c r' c' : ℕ → ℕ) → CountsLevels b r c → CountsLevels b r' c' → (t : ℕ)
    → ((i : ℕ) → i < b.rows → t ≤ r i → t ≤ r' i) × ((j : ℕ) → j < b.columns → t ≤ c j → t ≤ c' j)
reached_too b r c r' c' p q zero = (λ i l h. omega arith, λ j l h. omega arith)
reached_too b r c r' c' p q (suc t) =
    let (x, y) = reached_too b r c r' c' p q t in (
      λ i l h.
          let (u, (j, m, v, f)) = (p.rows i t l).0 (omega arith) in
          let g = (q.rows i t l).1 (x i l u, (j, m, y j m v, f)) in
          omega arith,
      λ j l h.
          let (u, (i, m, v, f)) = (p.columns j t l).0 (omega arith) in
          let g = (q.columns j t l).1 (y j l u, (i, m, x i m v, f)) in
          omega arith,
    )

pub one_count : OneCount
one_count b r c r' c' p q = (
  λ i l.
      let a = (reached_too b r c r' c' p q (r i)).0 i l (omega arith) in
      let d = (reached_too b r' c' r c q p (r' i)).0 i l (omega arith) in
      omega arith,
  λ j l.
      let a = (reached_too b r c r' c' p q (c j)).1 j l (omega arith) in
      let d = (reached_too b r' c' r c q p (c' j)).1 j l (omega arith) in
      omega arith,
)
