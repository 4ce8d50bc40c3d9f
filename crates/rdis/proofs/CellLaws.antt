-- Stored cells and what reading gives, by any counters and by those of a plan. Assumes nothing.
use Prim.Native.Nat.{ℕ, ◌%◌, ◌<◌, min}
use mathlib.Core.Path.{◌≡◌, refl, sym, ap, ap₂, subst, ◌∙◌}
use mathlib.Core.Bool.{Bool, true, false, xor, cond, ◌&&◌}
use mathlib.Core.List.{List}
use mathlib.Core.Logic.{◌↔◌}
use lib.Dec.{eqb}
use lib.ListN.{length, get_or}
use Rattle.bits.specs.Bits.{has}
use Rattle.bits.proofs.TestLaws.{xor_twice, xor_back, xor_none}
use Rattle.bits.proofs.BoundLaws.{none_below, some_none, some_ext}
use Rattle.bits.proofs.ByteLaws.{length_words, has_words, words_ext, is_words}
use Rattle.rdis.specs.Block.{Block, bit, stuck, differs, faulty}
use Rattle.rdis.specs.Cells.{flips, holds, stored, reading, misread, misreads}
use Rattle.rdis.specs.Theorems.{StuckHeld, StoredReads, PlanReads, ReadBack}
use Rattle.rdis.proofs.CounterLaws.{wrong_where_flipped}

pub bit_stored : (b : Block) (r c : ℕ → ℕ) (i j : ℕ) → i < b.rows → j < b.columns → bit (stored b r c) i j ≡ holds b r c i j
unfolding bit stored
bit_stored b r c i j p q = has_words b.rows b.columns (holds b r c) i j p q

pub stuck_held : StuckHeld
unfolding holds
stuck_held b r c i j p q h = bit_stored b r c i j p q ∙ rw h

pub sound_stored : (b : Block) (r c : ℕ → ℕ) (i j : ℕ) → i < b.rows → j < b.columns → stuck b i j ≡ false
    → bit (stored b r c) i j ≡ xor (flips r c i j) (bit b.data· i j)
unfolding holds
sound_stored b r c i j p q h = bit_stored b r c i j p q ∙ rw h

pub length_reading : (m n : ℕ) (r c : ℕ → ℕ) (cells : List ℕ) → length (reading m n r c cells) ≡ m
unfolding reading
length_reading m n r c cells = length_words m n _

-- ---- counters matter inside the grid alone

module _ (m n : ℕ) (r c r' c' : ℕ → ℕ) (same_rows : (i : ℕ) → i < m → r i ≡ r' i) (same-columns : (j : ℕ) → j < n → c j ≡ c' j) where
  pub flips_ext : (i j : ℕ) → i < m → j < n → flips r c i j ≡ flips r' c' i j
  unfolding flips
  flips_ext i j p q = ap₂ (λ x y. eqb (min x y % 2) 1) (same_rows i p) (same-columns j q)

  pub reading_ext : (cells : List ℕ) → reading m n r c cells ≡ reading m n r' c' cells
  unfolding reading
  reading_ext cells = words_ext m n _ _ (λ i j p q. ap (λ t. xor t (bit cells i j)) (flips_ext i j p q))

-- whether a stuck cell reads wrong, too
pub misreads_ext : (b : Block) (r c r' c' : ℕ → ℕ) → ((i : ℕ) → i < b.rows → r i ≡ r' i) → ((j : ℕ) → j < b.columns → c j ≡ c' j) → misreads b r c ≡ misreads b r' c'
unfolding misreads
misreads_ext b r c r' c' x y =
    some_ext b.rows _ _ (λ i p. some_ext b.columns _ _ (λ j q.
    ap (λ t. stuck b i j && xor (xor t (bit b.values i j)) (bit b.data· i j)) (flips_ext b.rows b.columns r c r' c' x y i j p q)))

-- and what the cells hold
pub stored_ext : (b : Block) (r c r' c' : ℕ → ℕ) → ((i : ℕ) → i < b.rows → r i ≡ r' i) → ((j : ℕ) → j < b.columns → c j ≡ c' j) → stored b r c ≡ stored b r' c'
unfolding stored holds
stored_ext b r c r' c' x y =
    words_ext b.rows b.columns _ _ (λ i j p q.
    ap (λ t. cond (stuck b i j) (bit b.values i j) (xor t (bit b.data· i j))) (flips_ext b.rows b.columns r c r' c' x y i j p q))

-- ---- read-back

-- a stuck cell does not read wrong exactly where its value, inverted, is its data bit; a sound cell always reads as its data bit
read_cell : (s d v f : Bool) → (s && xor (xor f v) d ≡ false) ↔ (d ≡ xor f (cond s v (xor f d)))
read_cell true d v f = xor_none (xor f v) d
read_cell false d v f = (λ _. sym (xor_twice f d), λ _. refl)

module _ (b : Block) (r c : ℕ → ℕ) where
  pub none_misread : (misreads b r c ≡ false) ↔ ((i j : ℕ) → i < b.rows → j < b.columns → misread b r c i j ≡ false)
  unfolding misreads
  none_misread = (
    λ h i j p q. none_below b.columns _ (none_below b.rows _ h i p) j q,
    λ h. some_none b.rows _ (λ i p. some_none b.columns _ (λ j q. h i j p q)),
  )

  cell_reads : (i j : ℕ) → i < b.rows → j < b.columns → (misread b r c i j ≡ false) ↔ (bit b.data· i j ≡ xor (flips r c i j) (bit (stored b r c) i j))
  unfolding holds
  cell_reads i j p q =
      subst (λ x. (misread b r c i j ≡ false) ↔ (bit b.data· i j ≡ xor (flips r c i j) x)) (sym (bit_stored b r c i j p q))
      (read_cell (stuck b i j) (bit b.data· i j) (bit b.values i j) (flips r c i j))

pub stored_reads : StoredReads
unfolding reading bit
stored_reads b r c (l, below) = (
  λ h. sym (is_words b.rows b.columns _ b.data· l (λ i p. below i) (λ i j p q. (cell_reads b r c i j p q).0 ((none_misread b r c).0 h i j p q))),
  λ e. (none_misread b r c).1 (λ i j p q. (cell_reads b r c i j p q).1 (sym (ap (λ ws. has (get_or ws i 0) j) e) ∙ has_words b.rows b.columns _ i j p q)),
)

-- where no stuck cell reads wrong, the data, inverted as by a read, is what the cells hold
stored_cell : (s d v f : Bool) → s && xor (xor f v) d ≡ false → xor f d ≡ cond s v (xor f d)
stored_cell true d v f h = ap (xor f) ((xor_none (xor f v) d).0 h) ∙ xor_twice f v
stored_cell false d v f h = refl

pub stored_inverted : (b : Block) (r c : ℕ → ℕ) → misreads b r c ≡ false → reading b.rows b.columns r c b.data· ≡ stored b r c
unfolding reading stored holds
stored_inverted b r c h =
    words_ext b.rows b.columns _ _ (λ i j p q. stored_cell (stuck b i j) (bit b.data· i j) (bit b.values i j) (flips r c i j) ((none_misread b r c).0 h i j p q))

-- a stuck cell that is wrong exactly where it is inverted does not read wrong
inverted_cell : (s d v f : Bool) → (s ≡ true → s && xor d v ≡ f) → s && xor (xor f v) d ≡ false
inverted_cell true d v f h = (xor_none (xor f v) d).1 (sym (xor_back d v) ∙ ap (λ x. xor x v) (h refl))
inverted_cell false d v f h = refl

pub plan_reads : PlanReads
unfolding faulty differs
plan_reads b k l r c e = (none_misread b r c).1
    (λ i j p q. inverted_cell (stuck b i j) (bit b.data· i j) (bit b.values i j) (flips r c i j) (wrong_where_flipped b k l r c e i j p q))

pub read_back : ReadBack
read_back b k l r c e d = (stored_reads b r c d).0 (plan_reads b k l r c e)
