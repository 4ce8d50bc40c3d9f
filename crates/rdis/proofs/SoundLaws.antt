-- What the levels ask of a block is its size and which cells are wrong in each sense; so value bits at sound cells change nothing. Assumes nothing.
use Prim.Native.Nat.{ℕ, zero, suc, ◌<◌}
use mathlib.Core.Path.{◌≡◌, refl, ap, ap₂, ◌∙◌}
use mathlib.Core.Bool.{Bool, true, false, not, xor, cond, ◌&&◌}
use mathlib.Core.List.{List}
use Rattle.bits.specs.Bits.{has}
use Rattle.bits.proofs.BoundLaws.{some_ext}
use Rattle.bits.proofs.BitLaws.{word_ext}
use Rattle.bits.proofs.ByteLaws.{words_ext}
use Rattle.rdis.specs.Block.{Block, bit, stuck, differs, faulty}
use Rattle.rdis.specs.Levels.{Subgrid, takes, takes_row, takes_column, taken, left, whole, unmaskable, none, more, levels, plan}
use Rattle.rdis.specs.Cells.{flips, holds, stored, misreads}
use Rattle.rdis.specs.Theorems.{with_values, SoundIgnored}
use Rattle.rdis.proofs.CountLaws.{count_ext}

takes_ext : (n own other : ℕ) (f g : ℕ → ℕ → Bool) (i : ℕ) → ((j : ℕ) → j < n → f i j ≡ g i j) → takes n own other f i ≡ takes n own other g i
unfolding takes
takes_ext n own other f g i e = ap (λ t. has own i && t) (some_ext n _ _ (λ j h. ap (λ t. has other j && t) (e j h)))

-- blocks of one size with the same wrong cells in each sense have the same plan
module _ (m n : ℕ) (d k v d' k' v' : List ℕ) where
  abbrev one : Block
  one = record { rows = m; columns = n; data· = d; mask = k; values = v }

  abbrev two : Block
  two = record { rows = m; columns = n; data· = d'; mask = k'; values = v' }

  module _ (same : (w : Bool) (i j : ℕ) → i < m → j < n → faulty one w i j ≡ faulty two w i j) where
    row_ext : (w : Bool) (s : Subgrid) (i : ℕ) → i < m → takes_row one w s i ≡ takes_row two w s i
    row_ext w s i h = takes_ext n s.rows s.columns (faulty one w) (faulty two w) i (λ j l. same w i j h l)

    column_ext : (w : Bool) (s : Subgrid) (j : ℕ) → j < n → takes_column one w s j ≡ takes_column two w s j
    column_ext w s j h = takes_ext m s.columns s.rows (λ j i. faulty one w i j) (λ j i. faulty two w i j) j (λ i l. same w i j l h)

    taken_ext : (w : Bool) (s : Subgrid) → taken one w s ≡ taken two w s
    unfolding taken
    taken_ext w s = λ x. record { rows = word_ext m (takes_row one w s) (takes_row two w s) (row_ext w s) x; columns = word_ext n (takes_column one w s) (takes_column two w s) (column_ext w s) x }

    left_ext : (w : Bool) (s : Subgrid) → left one w s ≡ left two w s
    unfolding left
    left_ext w s = some_ext m (takes_row one w s) (takes_row two w s) (row_ext w s)

    levels_ext : (a : ℕ) (w : Bool) (s : Subgrid) → levels one a w s ≡ levels two a w s
    unfolding levels
    levels_ext zero w s = ap (λ t. cond t unmaskable none) (left_ext w s)
    levels_ext (suc a) w s =
        ap₂ (λ t u. cond t (more u (levels one a (not w) u)) none) (left_ext w s) (taken_ext w s)
        ∙ ap (λ o. cond (left two w s) (more (taken two w s) o) none) (levels_ext a (not w) (taken two w s))

    pub plan_ext : (a : ℕ) → plan one a ≡ plan two a
    unfolding plan whole
    plan_ext a = levels_ext a true (whole one)

-- ---- value bits at sound cells

-- a cell that is not stuck is neither right nor wrong, and a stuck one is by its value
faulty_cell : (s : Bool) (w d v v' : Bool) → (s ≡ true → v ≡ v') → s && cond w (xor d v) (not (xor d v)) ≡ s && cond w (xor d v') (not (xor d v'))
faulty_cell true w d v v' h = ap (λ x. cond w (xor d x) (not (xor d x))) (h refl)
faulty_cell false w d v v' h = refl

held_cell : (s v v' x : Bool) → (s ≡ true → v ≡ v') → cond s v x ≡ cond s v' x
held_cell true v v' x h = h refl
held_cell false v v' x h = refl

misread_cell : (s f d v v' : Bool) → (s ≡ true → v ≡ v') → s && xor (xor f v) d ≡ s && xor (xor f v') d
misread_cell true f d v v' h = ap (λ x. xor (xor f x) d) (h refl)
misread_cell false f d v v' h = refl

-- where the values agree at the stuck cells, the same cells are wrong, and the same are right
module _ (b : Block) (v : List ℕ) (h : (i j : ℕ) → i < b.rows → j < b.columns → stuck b i j ≡ true → bit b.values i j ≡ bit v i j) where
  same_kind : (w : Bool) (i j : ℕ) → i < b.rows → j < b.columns → faulty b w i j ≡ faulty (with_values b v) w i j
  unfolding faulty differs
  same_kind w i j p q = faulty_cell (stuck b i j) w (bit b.data· i j) (bit b.values i j) (bit v i j) (h i j p q)

pub sound_ignored : SoundIgnored
unfolding stored holds misreads
sound_ignored b v h = record {
  plans = plan_ext b.rows b.columns b.data· b.mask b.values b.data· b.mask v (same_kind b v h);
  kinds = λ w. count_ext b.rows b.columns (faulty b w) (faulty (with_values b v) w) (same_kind b v h w);
  cells = λ r c. words_ext b.rows b.columns (holds b r c) (holds (with_values b v) r c)
      (λ i j p q. held_cell (stuck b i j) (bit b.values i j) (bit v i j) (xor (flips r c i j) (bit b.data· i j)) (h i j p q));
  wrongs = λ r c. some_ext b.rows _ _ (λ i p. some_ext b.columns _ _
      (λ j q. misread_cell (stuck b i j) (flips r c i j) (bit b.data· i j) (bit b.values i j) (bit v i j) (h i j p q)));
}
