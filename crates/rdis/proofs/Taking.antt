-- What a level takes, of rows and of columns alike, and what that does to walks: a level takes both ends off a walk, and a walk of what it took
-- has one cell more at both ends. Assumes nothing.
use Prim.Native.Nat.{ℕ, zero, suc, ◌≤◌, ◌<◌}
use mathlib.Core.Path.{◌≡◌, refl, sym, ap, subst, ◌∙◌}
use mathlib.Core.Bool.{Bool, true, false, not, ◌&&◌, not-not}
use mathlib.Core.Logic.{◌↔◌, ◌⊎◌, inl, inr}
use native.Mathlib.Omega.{arith}
use Rattle.bits.specs.Bits.{some, has}
use Rattle.bits.proofs.TestLaws.{and_in, and_left, and_right}
use Rattle.bits.proofs.BoundLaws.{some_in, some_out}
use Rattle.bits.proofs.BitLaws.{has_word, word_out}
use Rattle.rdis.specs.Block.{Block, faulty}
use Rattle.rdis.specs.Levels.{Subgrid, whole, takes, takes_row, takes_column, taken, left}
use Rattle.rdis.specs.Chains.{Cell, Way, by_row, by_column, turn, line, Step, Is, HasChain, SomeWrong}
use Rattle.rdis.proofs.Walks.{twice, twice_is, turns_once, turns_twice, turn_turn, colour, way, Walk, chain_walk, walk_chain, map_walk, prefix, single, before, after}

-- ---- rows and columns alike

abbrev pub own : Way → Subgrid → ℕ
own by_row s = s.rows
own by_column s = s.columns

-- what holds by row and by column holds by each way, and so does what holds by a way and by the other
pub each : (Q : Way → Type 0) → Q by_row → Q by_column → (d : Way) → Q d
each Q p q by_row = p
each Q p q by_column = q

other : (Q : Way → Type 0) (d : Way) → Q d → Q (turn d) → (x : Way) → Q x
other Q by_row p q = each Q p q
other Q by_column p q = each Q q p

-- a stuck cell of the subgrid, of the colour w
pub record In (b : Block) (s : Subgrid) (w : Bool) (c : Cell) : Type 0 where
  pub lines : (d : Way) → has (own d s) (line d c) ≡ true
  pub cell : Is b w c

pub inside : {b : Block} {s : Subgrid} {w : Bool} (c : Cell) → has s.rows c.row ≡ true → has s.columns c.column ≡ true → Is b w c → In b s w c
inside {b} {s} c p q h = record { lines = each (λ d. has (own d s) (line d c) ≡ true) p q; cell = h }

pub of_whole : (b : Block) (w : Bool) (c : Cell) → Is b w c → In b (whole b) w c
unfolding whole
of_whole b w c h = inside c (has_word b.rows (λ _. true) c.row h.0) (has_word b.columns (λ _. true) c.column h.1) h

-- ---- lines that pass a test with one across

module _ (n own other : ℕ) (test : ℕ → ℕ → Bool) (i : ℕ) where
  takes_in : (j : ℕ) → has own i ≡ true → j < n → has other j ≡ true → test i j ≡ true → takes n own other test i ≡ true
  unfolding takes
  takes_in j p l q h = and_in p (some_in n (λ j. has other j && test i j) j l (and_in q h))

  takes_out : takes n own other test i ≡ true → (has own i ≡ true) × ((j : ℕ) × (j < n) × (has other j ≡ true) × (test i j ≡ true))
  unfolding takes
  takes_out h =
      let (j, l, q) = some_out n (λ j. has other j && test i j) (and_right (has own i) _ h) in
      (and_left _ (some n (λ j. has other j && test i j)) h, (j, l, and_left _ (test i j) q, and_right (has other j) _ q))

-- ---- what a level takes

module _ (b : Block) (w : Bool) (s : Subgrid) where
  takes_row_lem : {e : Cell} → In b s w e → takes_row b w s e.row ≡ true
  takes_row_lem {e} h = takes_in b.columns s.rows s.columns (faulty b w) e.row e.column (h.lines by_row) h.cell.1 (h.lines by_column) h.cell.2

  -- the line of a cell of the colour is taken
  pub line_taken : (d : Way) {e : Cell} {i : ℕ} → In b s w e → line d e ≡ i → has (own d (taken b w s)) i ≡ true
  unfolding taken
  line_taken by_row {e} h p = subst (λ x. has (taken b w s).rows x ≡ true) p (has_word b.rows (takes_row b w s) e.row h.cell.0 ∙ takes_row_lem h)
  line_taken by_column {e} h p =
      subst (λ x. has (taken b w s).columns x ≡ true) p
      (has_word b.columns (takes_column b w s) e.column h.cell.1
      ∙ takes_in b.rows s.columns s.rows (λ j i. faulty b w i j) e.column e.row (h.lines by_column) h.cell.0 (h.lines by_row) h.cell.2)

  row_out : (i : ℕ) → i < b.rows → takes_row b w s i ≡ true → (has s.rows i ≡ true) × ((e : Cell) × In b s w e × (i ≡ e.row))
  row_out i l t =
      let (p, (j, k, q, f)) = takes_out b.columns s.rows s.columns (faulty b w) i t in
      (p, (record { row = i; column = j }, inside (record { row = i; column = j }) p q (l, k, f), refl))

  column_out : (j : ℕ) → j < b.columns → takes_column b w s j ≡ true → (has s.columns j ≡ true) × ((e : Cell) × In b s w e × (j ≡ e.column))
  column_out j l t =
      let (p, (i, k, q, f)) = takes_out b.rows s.columns s.rows (λ j i. faulty b w i j) j t in
      (p, (record { row = i; column = j }, inside (record { row = i; column = j }) q p (k, l, f), refl))

  -- a taken line is of the subgrid, and holds a cell of the colour
  pub line_out : (d : Way) (i : ℕ) → has (own d (taken b w s)) i ≡ true → (has (own d s) i ≡ true) × ((e : Cell) × In b s w e × (i ≡ line d e))
  unfolding taken
  line_out by_row i h = let (l, t) = word_out b.rows (takes_row b w s) i h in row_out i l t
  line_out by_column j h = let (l, t) = word_out b.columns (takes_column b w s) j h in column_out j l t

  -- a cell of the subgrid of the colour is there
  pub left_in : {c : Cell} → In b s w c → left b w s ≡ true
  unfolding left
  left_in {c} h = some_in b.rows (takes_row b w s) c.row h.cell.0 (takes_row_lem h)

  pub left_out : left b w s ≡ true → (e : Cell) × In b s w e
  unfolding left
  left_out h =
      let (i, l, t) = some_out b.rows (takes_row b w s) h in
      let (e, p, q) = (row_out i l t).1 in
      (e, p)

  pub narrow : {v : Bool} {c : Cell} → In b (taken b w s) v c → In b s v c
  narrow {v} {c} h = record { lines = λ d. (line_out d (line d c) (h.lines d)).0; cell = h.cell }

  -- each cell of what is taken has one of the colour in its row, and one in its column
  reach : (d : Way) {v : Bool} {c : Cell} → In b (taken b w s) v c → (e : Cell) × In b s w e × Step d c e
  reach d {v} {c} h = (line_out d (line d c) (h.lines d)).1

  -- a cell of the colour is taken; so is one between two of them
  keep : {c : Cell} → In b s w c → In b (taken b w s) w c
  keep h = record { lines = λ d. line_taken d h refl; cell = h.cell }

  between : (d : Way) {v : Bool} {p c q : Cell} → In b s w p → Step d p c → In b s w q → Step (turn d) c q → In b s v c → In b (taken b w s) v c
  between d {v} {p} {c} g x h y k = record { lines = other (λ z. has (own z (taken b w s)) (line z c) ≡ true) d (line_taken d g x) (line_taken (turn d) h (sym y)); cell = k.cell }

-- ---- what it does to walks

pub same : (v w : Bool) → (v ≡ w) ⊎ (v ≡ not w)
same true true = inl refl
same true false = inr refl
same false true = inr refl
same false false = inl refl

-- a walk of twice k steps that starts and ends on the colour w
pub Long : Block → Bool → Subgrid → ℕ → Type 0
Long b w s k = (d : Way) × Walk (In b s) w d (twice k)

module _ (b : Block) (w : Bool) (s : Subgrid) where
  peel : {d : Way} {n : ℕ} → Walk (In b s) w d (suc (suc n)) → Walk (In b (taken b w s)) (not w) (turn d) n
  peel {d} {n} W = record { cell = λ m. W.cell (suc m); is = λ m l. is' m l (same (colour (not w) m) w); step = λ m l. W.step (suc m) (omega arith) }
    where
      is' : (m : ℕ) → m ≤ n → (colour (not w) m ≡ w) ⊎ (colour (not w) m ≡ not w) → In b (taken b w s) (colour (not w) m) (W.cell (suc m))
      is' m l (inl p) = rw p (keep b w s (rw p at (W.is (suc m) (omega arith))))
      is' m l (inr p) =
          let q : colour w m ≡ w = sym (not-not (colour w m)) ∙ ap not (sym (turns_once not w m) ∙ p) ∙ not-not w in
          let q' : colour (not (not w)) m ≡ w = ap (λ v. colour v m) (not-not w) ∙ q in
          between b w s (way d m) (rw q at (W.is m (omega arith))) (W.step m (omega arith)) (rw q' at (W.is (suc (suc m)) (omega arith)))
          (subst (λ x. Step x (W.cell (suc m)) (W.cell (suc (suc m)))) (turns_once turn d m) (W.step (suc m) (omega arith))) (W.is (suc m) (omega arith))

  ends : (d : Way) (k : ℕ) (W : Walk (In b s) (not w) (turn d) (twice k)) (f e : Cell) → In b s w f → Step d (W.cell zero) f → In b s w e → Step (turn d) (W.cell (twice k)) e
      → Walk (In b s) w d (twice (suc k))
  unfolding before
  ends d k W f e h y g x =
      after (before f W h (sym y)) (twice (suc k)) (λ _. e)
      (λ m p q. let z : twice (suc k) ≡ m = omega arith in subst (λ v. In b s (colour w v) e) z (subst (λ v. In b s v e) (sym (turns_twice not not-not w (suc k))) g))
      (subst (λ z. Step z (W.cell (twice k)) e) (sym (turns_twice turn turn_turn (turn d) k)) x)
      (λ m p q. absurd (omega arith))

  grow : (d : Way) (k : ℕ) → Walk (In b (taken b w s)) (not w) (turn d) (twice k) → Walk (In b s) w d (twice (suc k))
  unfolding map_walk
  grow d k W = go (reach b w s d (W.is zero (omega arith))) (reach b w s (turn d) (W.is (twice k) (omega arith)))
    where
      go : (f : Cell) × In b s w f × Step d (W.cell zero) f → (e : Cell) × In b s w e × Step (turn d) (W.cell (twice k)) e → Walk (In b s) w d (twice (suc k))
      go (f, h, y) (e, g, x) = ends d k (map_walk (λ v c. narrow b w s) W) f e h y g x

  pub long_suc : (k : ℕ) → Long b w s (suc k) ↔ Long b (not w) (taken b w s) k
  unfolding Long
  long_suc k = (λ (d, W). (turn d, peel W), λ (d, W). (turn d, grow (turn d) k (rw turn_turn W)))

  pub long_zero : Long b w s zero ↔ (left b w s ≡ true)
  unfolding Long
  long_zero = (λ (d, W). left_in b w s (W.is zero (omega arith)), λ h. let (e, p) = left_out b w s h in (by_row, single e p))

  pub long_le : (k m : ℕ) → m ≤ k → Long b w s k → Long b w s m
  unfolding Long
  long_le k m l (d, W) = (d, prefix (twice m) (omega (arith, twice_is k, twice_is m)) W)

pub long_whole : (b : Block) (k : ℕ) → Long b true (whole b) k ↔ HasChain b (suc (twice k))
unfolding Long HasChain
long_whole b k = (
  λ (d, W). walk_chain (Is b) (twice k) d (map_walk (λ w c h. h.cell) W),
  λ (cs, e, h). let (d, W) = chain_walk (Is b) (twice k) cs e h in (d, map_walk (of_whole b) W),
)

pub some_wrong : (b : Block) → SomeWrong b ↔ Long b true (whole b) zero
unfolding Long
some_wrong b = (λ (c, h). (by_row, single c (of_whole b true c h)), λ (d, W). (W.cell zero, (W.is zero (omega arith)).cell))
