-- Laws of the first pass: it visits the rows with a stuck cell alone, counts the stuck cells, and finds what the first level takes. Assumes nothing.
use mathlib.Core.Path.{◌≡◌, refl, sym, ap, ◌∙◌}
use mathlib.Core.Bool.{Bool, true, false, not, xor, cond, ◌&&◌, and-false}
use mathlib.Core.List.{List}
use Prim.Native.Nat.{ℕ, ◌+◌, ◌*◌, ◌^◌, ◌≤◌, ◌<◌}
use native.Mathlib.Omega.{arith}
use lib.Bits.{bit_or}
use lib.Count.{ones}
use lib.Dec.{eqb}
use lib.ListN.{length, get_or}
use Rattle.bits.specs.Bits.{num, some, has, word, Below}
use Rattle.bits.proofs.BoundLaws.{some_none, some_ext}
use Rattle.bits.proofs.BitLaws.{has_zero, has_word, word_lt, word_ext}
use Rattle.rdis.specs.Block as Block
use Rattle.rdis.specs.Block.{Block, faulty}
use Rattle.rdis.specs.Levels.{Subgrid, whole, takes, takes_row, takes_column, taken}
use Rattle.words.specs.SetBits.{TakesLowest}
use Rattle.grid_levels.specs.Steps.{block_of, Begins}
use Rattle.grid_levels.proofs.CountLaws.{not_stuck, Counting, counting_starts, counting_more, counting_least, counting_done}
use Rattle.grid_levels.proofs.LevelLaws.{row_whole, Small, Walk, small_starts, walk_starts, small_more, walk_more, walk_done}

-- ---- a row without a stuck cell is in no level

-- where z implies r
matters : (r z : Bool) → (r ≡ false → z ≡ false) → r && z ≡ z
matters true z h = refl
matters false z h = sym (h refl)

module _ (n : ℕ) (d mask values : List ℕ) (m : length mask ≡ length d) (rows : ℕ) (e : rows ≡ word (length mask) (λ i. not (eqb (get_or mask i 0) 0))) where
  abbrev own : Block
  own = block_of n d mask values

  -- all columns, and the rows with a stuck cell
  abbrev begin : Subgrid
  begin = record { rows = rows; columns = word n (λ _. true) }

  sound : (w : Bool) (i j : ℕ) → i < length d → has rows i ≡ false → faulty own w i j ≡ false
  unfolding faulty Block.bit
  sound w i j l h =
      let z = not_stuck d mask values rows i e (omega (arith, m)) h in
      ap (λ x. has x j && cond w (Block.differs own i j) (not (Block.differs own i j))) z ∙ ap (λ t. t && cond w (Block.differs own i j) (not (Block.differs own i j))) (has_zero j)

  all_rows : (i : ℕ) (z : Bool) → i < length d → (has rows i ≡ false → z ≡ false) → has rows i && z ≡ has (word (length d) (λ _. true)) i && z
  all_rows i z l h = matters (has rows i) z h ∙ ap (λ t. t && z) (sym (has_word (length d) (λ _. true) i l))

  same_row : (w : Bool) (i : ℕ) → i < length d → takes_row own w begin i ≡ takes_row own w (whole own) i
  unfolding takes whole
  same_row w i l =
      let f : ℕ → Bool = λ j. has (word n (λ _. true)) j && faulty own w i j in
      all_rows i (some n f) l (λ h. some_none n f (λ j _. ap (λ t. has (word n (λ _. true)) j && t) (sound w i j l h) ∙ and-false (has (word n (λ _. true)) j)))

  same_column : (w : Bool) (j : ℕ) → takes_column own w begin j ≡ takes_column own w (whole own) j
  unfolding takes whole
  same_column w j = ap (λ t. has (word n (λ _. true)) j && t) (some_ext (length d) _ _ (λ i l. all_rows i (faulty own w i j) l (sound w i j l)))

  same_taken : (w : Bool) → taken own w begin ≡ taken own w (whole own)
  unfolding taken
  same_taken w =
      let p = word_ext (length d) (takes_row own w begin) (takes_row own w (whole own)) (same_row w) in
      let q = word_ext n (takes_column own w begin) (takes_column own w (whole own)) (λ j _. same_column w j) in
      λ t. record { rows = p t; columns = q t }

stuck_few : (d mask : List ℕ) (rows : ℕ) → length mask ≡ length d → rows ≡ word (length mask) (λ i. not (eqb (get_or mask i 0) 0)) → rows < 2 ^ length d
stuck_few d mask rows m e = rw (e, ← m) (word_lt (length mask) _)

-- ---- the first level, with the counts

-- the rows `stuck` hold a stuck cell, and of them those of `rest` are left
pub record Beginning (d mask values : List ℕ) (stuck faults wrong rows columns rest : ℕ) : Type 0 where
  pub visits : stuck ≡ word (length mask) (λ i. not (eqb (get_or mask i 0) 0))
  pub counting : Counting d mask values faults wrong rest
  pub small : Small d rest rows columns
  pub walk : (n : ℕ) → Below (2 ^ n) mask → Walk n d mask values (record { rows = stuck; columns = word n (λ _. true) }) true rest rows columns

module _ (d mask values : List ℕ) (m : length mask ≡ length d) (stuck : ℕ) where
  pub begin_starts : stuck ≡ word (length mask) (λ i. not (eqb (get_or mask i 0) 0)) → Beginning d mask values stuck 0 0 0 0 stuck
  begin_starts e = record {
    visits = e;
    counting = counting_starts d mask values stuck m e;
    small = small_starts d stuck (stuck_few d mask stuck m e);
    walk = λ n _. walk_starts n d mask values (record { rows = stuck; columns = word n (λ _. true) }) true;
  }

  module _ (size : length d ≤ 64) (fits : Below (2 ^ 64) mask) (faults wrong rows columns rest : ℕ) (s : Beginning d mask values stuck faults wrong rows columns rest) where
    pub begin_more : (i y : ℕ) → TakesLowest rest i y → (x mark : ℕ) → x < 2 ^ 64
        → ((j : ℕ) → has x j ≡ has (get_or mask i 0) j && xor (has (get_or d i 0) j) (has (get_or values i 0) j))
        → mark ≡ num (not (eqb x 0)) * 2 ^ i
        → Beginning d mask values stuck (faults + ones (get_or mask i 0)) (wrong + ones x) (bit_or rows mark) (bit_or columns x) y
    begin_more i y next x mark l bits marks = record {
      visits = s.visits;
      counting = counting_more d mask values size fits faults wrong rest s.counting i y next x l bits;
      small = small_more d rest rows columns i y s.small next x mark l marks;
      walk = λ n h.
          walk_more n d mask values (record { rows = stuck; columns = word n (λ _. true) }) true rest rows columns s.small (s.walk n h) (word_lt n _) i y next x mark l
          (row_whole n d mask values true i x (h i) bits) marks;
    }

    pub begin_done : rest ≡ 0 → Begins d mask values (record { faults = faults; wrong = wrong; takes = record { rows = rows; columns = columns } })
    begin_done z = record {
      few = s.small.rows_fit;
      least = counting_least d mask values size fits faults wrong rest s.counting z;
      accepts = counting_done d mask values size fits faults wrong rest s.counting z;
      takes· = λ n h.
          walk_done n d mask values (record { rows = stuck; columns = word n (λ _. true) }) true rest rows columns s.small (s.walk n h) (word_lt n _) z
          ∙ same_taken n d mask values m stuck s.visits true;
    }
