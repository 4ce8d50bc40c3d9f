-- Laws of the counts of stuck cells: sums over the rows that hold one, of which some are left. Assumes nothing.
use Prim.Native.Nat.{ℕ, zero, suc, ◌+◌, ◌*◌, ◌^◌, ◌≤◌, ◌<◌}
use mathlib.Core.Path.{◌≡◌, refl, sym, ap, ◌∙◌}
use mathlib.Core.Bool.{Bool, true, false, not, xor, cond, ◌&&◌, and-true}
use mathlib.Core.List.{List}
use native.Mathlib.Nat.{lt_trans}
use native.Mathlib.Omega.{arith}
use borrow.Author.Tests.{eqb-true, ne_eqb, not-false}
use lib.Count.{ones, ones_in, ones-le}
use lib.Dec.{eqb}
use lib.ListN.{length, get_or}
use Rattle.bits.specs.Bits.{num, sum, has, word, Below}
use Rattle.bits.proofs.TestLaws.{clash, eqb_same}
use Rattle.bits.proofs.BoundLaws.{sum_ext, sum_none, sum_raise}
use Rattle.bits.proofs.BitLaws.{has_zero, has_high, has_word, word_lt, none_high, ones_bits}
use Rattle.rdis.specs.Block as Block
use Rattle.rdis.specs.Block.{faulty, count, faulty_cells, faults}
use Rattle.rdis.proofs.CountLaws.{faults_are_cells, two_kinds}
use Rattle.words.specs.SetBits.{TakesLowest}
use Rattle.words.proofs.SetBitsLaws.{place_below}
use Rattle.grid_levels.specs.Steps.{block_of, Accepts, answer_of}

-- ---- sums over the rows of a set

-- what f comes to over those of n rows that are left
unfoldable pub left : ℕ → ℕ → (ℕ → ℕ) → ℕ
left n rest f = sum n (λ i. cond (has rest i) (f i) 0)

left_none : (n : ℕ) (f : ℕ → ℕ) → left n 0 f ≡ 0
unfolding left
left_none n f = sum_none n _ (λ i _. ap (λ t. cond t (f i) 0) (has_zero i))

-- rows that are not left from the start count for nothing
counts : (t : Bool) (x : ℕ) → (t ≡ false → x ≡ 0) → cond t x 0 ≡ x
counts true x h = refl
counts false x h = sym (h refl)

left_all : (n rest : ℕ) (f : ℕ → ℕ) → ((i : ℕ) → i < n → has rest i ≡ false → f i ≡ 0) → left n rest f ≡ sum n f
unfolding left
left_all n rest f h = sum_ext n _ f (λ i l. counts (has rest i) (f i) (h i l))

-- the lowest row is counted, and no longer left
once : (t : Bool) (x : ℕ) → t ≡ true → cond t x 0 ≡ x + cond (t && not true) x 0
once true x h = omega arith
once false x h = clash h refl

left_next : (n rest i y : ℕ) (f : ℕ → ℕ) → i < n → TakesLowest rest i y → left n rest f ≡ f i + left n y f
unfolding left
left_next n rest i y f l next =
    sum_raise n _ _ i (f i) l
    (rw (next.others i, eqb_same i) (once (has rest i) (f i) next.set))
    (λ k p. rw (next.others k, ne_eqb k i p) (ap (λ u. cond u (f k) 0) (sym (and-true (has rest k)))))

-- ---- what is counted

ones_none : (x : ℕ) → x ≡ 0 → ones x ≡ 0
unfolding ones ones_in
ones_none x e = ap ones e

faults_few : (m : ℕ) (mask : List ℕ) → Below (2 ^ 64) mask → faults m mask ≤ 64 * m
unfolding faults sum
faults_few zero mask h = omega arith
faults_few (suc m) mask h = omega (arith, ones-le 64 (get_or mask m 0) (h m), faults_few m mask h)

module _ (d mask values : List ℕ) where
  -- row i is wrong at so many of n columns
  abbrev wrong_in : ℕ → ℕ → ℕ
  wrong_in n i = sum n (λ j. num (faulty (block_of n d mask values) true i j))

  -- counting the rows that are left too makes the counts of all rows, whatever number of columns holds the mask
  pub record Counting (found wrong rest : ℕ) : Type 0 where
    pub few : rest < 2 ^ length d
    pub all : found + left (length d) rest (λ i. ones (get_or mask i 0)) ≡ faults (length d) mask
    pub wrongs : (n : ℕ) → Below (2 ^ n) mask → wrong + left (length d) rest (wrong_in n) ≡ faulty_cells (block_of n d mask values) true

  empty_row : (n i : ℕ) → get_or mask i 0 ≡ 0 → wrong_in n i ≡ 0
  unfolding faulty Block.bit
  empty_row n i e = sum_none n _ (λ j _. ap (λ x. num (has x j && Block.differs (block_of n d mask values) i j)) e ∙ ap (λ t. num (t && Block.differs (block_of n d mask values) i j)) (has_zero j))

  -- a row that is not in the set holds no stuck cell
  pub not_stuck : (rest i : ℕ) → rest ≡ word (length mask) (λ i. not (eqb (get_or mask i 0) 0)) → i < length mask → has rest i ≡ false → get_or mask i 0 ≡ 0
  not_stuck rest i e l h = eqb-true (get_or mask i 0) 0 (not-false _ (sym (has_word (length mask) _ i l) ∙ ap (λ x. has x i) (sym e) ∙ h))

  pub counting_starts : (rest : ℕ) → length mask ≡ length d → rest ≡ word (length mask) (λ i. not (eqb (get_or mask i 0) 0)) → Counting 0 0 rest
  unfolding faults count
  counting_starts rest m e = record {
    few = rw (e, ← m) (word_lt (length mask) _);
    all = omega (arith, left_all (length d) rest (λ i. ones (get_or mask i 0)) (λ i l h. ones_none (get_or mask i 0) (not_stuck rest i e (omega (arith, m)) h)));
    wrongs = λ n _. omega (arith, left_all (length d) rest (wrong_in n) (λ i l h. empty_row n i (not_stuck rest i e (omega (arith, m)) h)));
  }

  module _ (size : length d ≤ 64) (fits : Below (2 ^ 64) mask) (found wrong rest : ℕ) (s : Counting found wrong rest) where
    -- so many cells are counted at most
    pub counting_few : (found ≤ 4096) × (wrong ≤ 4096)
    counting_few =
        let all = faults_few (length d) mask fits in (
          omega (arith, s.all),
          omega (arith, s.wrongs 64 fits, two_kinds (block_of 64 d mask values), faults_are_cells (length d) 64 mask fits),
        )

    -- all rows are counted
    module _ (e : rest ≡ 0) where
      all_found : found ≡ faults (length d) mask
      all_found = omega (arith, ap (λ x. left (length d) x (λ i. ones (get_or mask i 0))) e, left_none (length d) (λ i. ones (get_or mask i 0)), s.all)

      -- and those that are not wrong are right
      kinds_found : (n : ℕ) → Below (2 ^ n) mask → (wrong ≡ faulty_cells (block_of n d mask values) true) × (found ≡ wrong + faulty_cells (block_of n d mask values) false)
      kinds_found n h =
          let w : wrong ≡ faulty_cells (block_of n d mask values) true =
          omega (arith, ap (λ x. left (length d) x (wrong_in n)) e, left_none (length d) (wrong_in n), s.wrongs n h) in
          (w, omega (arith, all_found, two_kinds (block_of n d mask values), faults_are_cells (length d) n mask h))

      pub counting_least : wrong ≤ found
      counting_least = omega (arith, (kinds_found 64 fits).1)

      pub counting_done : (l : ℕ) → Accepts d mask values l (answer_of l found wrong)
      counting_done l = record {
        number = refl;
        index = refl;
        levels = refl;
        faults_are = all_found;
        kinds_are = λ n h. let (w, r) = kinds_found n h in record { wrong = w; right = omega (arith, r); sum = omega (arith, r) };
      }

    -- the next row is i, and then y are left
    module _ (i y : ℕ) (next : TakesLowest rest i y) where
      pub counting_inside : i < length d
      counting_inside = place_below (length d) rest i y s.few next

      module _ (x : ℕ) (small : x < 2 ^ 64) (bits : (j : ℕ) → has x j ≡ has (get_or mask i 0) j && xor (has (get_or d i 0) j) (has (get_or values i 0) j)) where
        row_wrong : (n : ℕ) → Below (2 ^ n) mask → ones x ≡ wrong_in n i
        unfolding faulty Block.differs Block.bit
        row_wrong n h =
            let narrow : x < 2 ^ n = none_high 64 n x small (λ j k. bits j ∙ ap (λ t. t && xor (has (get_or d i 0) j) (has (get_or values i 0) j)) (has_high n (get_or mask i 0) j (h i) k)) in
            ones_bits n x narrow ∙ sum_ext n _ _ (λ j _. ap num (bits j))

        pub counting_more : Counting (found + ones (get_or mask i 0)) (wrong + ones x) y
        counting_more =
            let more : (f : ℕ → ℕ) → left (length d) rest f ≡ f i + left (length d) y f = λ f. left_next (length d) rest i y f counting_inside next in
            record {
              few = lt_trans next.fewer s.few;
              all = omega (arith, more (λ i. ones (get_or mask i 0)), s.all);
              wrongs = λ n h. omega (arith, more (wrong_in n), row_wrong n h, s.wrongs n h);
            }
