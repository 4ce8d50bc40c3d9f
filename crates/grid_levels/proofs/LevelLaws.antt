-- Laws of one level: the faults of a row as bits of a word, and the rows and columns that a level takes, of the rows that it was given. Assumes nothing.
use mathlib.Core.Path.{◌≡◌, refl, sym, ap, ap₂, subst, ◌∙◌}
use mathlib.Core.Bool.{Bool, true, false, not, xor, cond, ◌&&◌, ◌||◌, and-true, and-false, and_comm, or_assoc}
use mathlib.Core.List.{List}
use mathlib.Core.Logic.{◌≢◌, ⊎_elim}
use Prim.Native.Nat.{ℕ, zero, suc, ◌*◌, ◌^◌, ◌≤◌, ◌<◌}
use native.Mathlib.Nat.{lt_trans, zero-mul, one-mul}
use native.Mathlib.Decide.{ℕ_discrete}
use native.Mathlib.Omega.{arith}
use borrow.Author.Tests.{eq-eqb, ne_eqb, eqb-true, not-true}
use lib.Bits.{bit_and, bit_or, or_lt}
use lib.Dec.{eqb}
use lib.ListN.{length, get_or}
use lib.Pow.{pow_pos, pow-lt}
use Rattle.bits.specs.Bits.{num, some, has, word}
use Rattle.bits.proofs.TestLaws.{same_test, clash, and_left, lt_or_le, eqb_same}
use Rattle.bits.proofs.BoundLaws.{some_in, some_out, some_none, some_ext}
use Rattle.bits.proofs.BitLaws.{has_and, has_or, has_zero, has_one, has_high, has_word, is_word, none_high, some_has}
use Rattle.rdis.specs.Block as Block
use Rattle.rdis.specs.Block.{faulty}
use Rattle.rdis.specs.Levels.{Subgrid, takes, takes_row, takes_column, taken}
use Rattle.words.specs.SetBits.{TakesLowest}
use Rattle.words.proofs.SetBitsLaws.{place_below}
use Rattle.grid_levels.specs.Steps.{block_of, IsKind}

-- ---- the faults of a row

-- the faults of row i in a set of columns, as bits of a word x
unfoldable pub Holds : ℕ → List ℕ → List ℕ → List ℕ → Bool → ℕ → ℕ → ℕ → Type 0
Holds n d mask values w columns i x = (j : ℕ) → has x j ≡ has columns j && faulty (block_of n d mask values) w i j

-- a row's faults, cut down to the columns
pub row_holds : (n : ℕ) (d mask values : List ℕ) (w : Bool) (columns i x : ℕ)
    → IsKind w (get_or d i 0) (get_or mask i 0) (get_or values i 0) x
    → Holds n d mask values w columns i (bit_and x columns)
unfolding Holds faulty Block.differs Block.bit
row_holds n d mask values w columns i x h j = has_and x columns j ∙ and_comm (has x j) (has columns j) ∙ ap (λ t. has columns j && t) (h j)

-- where no stuck cell is past the last of n columns, a row's faults are those in all columns
inside : (c f : Bool) → (f ≡ true → c ≡ true) → f ≡ c && f
inside true f h = refl
inside false true h = clash (h refl) refl
inside false false h = refl

pub row_whole : (n : ℕ) (d mask values : List ℕ) (w : Bool) (i x : ℕ) → get_or mask i 0 < 2 ^ n
    → IsKind w (get_or d i 0) (get_or mask i 0) (get_or values i 0) x
    → Holds n d mask values w (word n (λ _. true)) i x
unfolding Holds faulty Block.differs Block.bit
row_whole n d mask values w i x l h j =
    let e = xor (has (get_or d i 0) j) (has (get_or values i 0) j) in
    let m = has (get_or mask i 0) j in
    h j
    ∙ inside (has (word n (λ _. true)) j) (m && cond w e (not e))
    (λ q. ⊎_elim (λ k. has_word n (λ _. true) j k) (λ k. clash (and_left m (cond w e (not e)) q) (has_high n (get_or mask i 0) j l k)) (lt_or_le j n))

-- ---- one line apart from the others

same_either_way : (a b : ℕ) → eqb a b ≡ eqb b a
same_either_way a b = same_test (eqb a b) (eqb b a) (λ h. eq-eqb b a (sym (eqb-true a b h))) (λ h. eq-eqb a b (sym (eqb-true b a h)))

-- line t alone, or nothing
has_mark : (z : Bool) (t i : ℕ) → has (num z * 2 ^ t) i ≡ z && eqb i t
has_mark true t i = ap (λ y. has y i) (one-mul (2 ^ t)) ∙ has_one t i ∙ same_either_way t i
has_mark false t i = ap (λ y. has y i) (zero-mul (2 ^ t)) ∙ has_zero i

mark_lt : (z : Bool) (t m : ℕ) → t < m → num z * 2 ^ t < 2 ^ m
mark_lt true t m l = rw (one-mul (2 ^ t)) (pow-lt l)
mark_lt false t m l = rw (zero-mul (2 ^ t)) (pow_pos m)

swap : (a x b : Bool) → a || (x || b) ≡ x || (a || b)
swap true true b = refl
swap true false b = refl
swap false x b = refl

some_raise : (n : ℕ) (f g : ℕ → Bool) (a : ℕ) (x : Bool) → a < n → f a ≡ x || g a → ((k : ℕ) → k ≢ a → f k ≡ g k) → some n f ≡ x || some n g
unfolding some
some_raise zero f g a x l e h = absurd (omega arith)
some_raise (suc n) f g a x l e h = go (ℕ_discrete n a) (λ k. some_raise n f g a x k e h)
  where
    go : Dec (n ≡ a) → (a < n → some n f ≡ x || some n g) → f n || some n f ≡ x || (g n || some n g)
    go (yes p) r =
        ap₂ ◌||◌ (subst (λ z. f z ≡ x || g z) (sym p) e) (some_ext n f g (λ k l. h k (λ q. absurd (omega arith)))) ∙ or_assoc x (g n) (some n g)
    go (no p) r = ap₂ ◌||◌ (h n p) (r (omega arith)) ∙ swap (g n) x (some n g)

-- ---- what a level takes: what was taken, and what the rows that are left give

abbrev of : Subgrid → ℕ → Subgrid
of s rest = record { rows = rest; columns = s.columns }

-- the sets so far have room
pub record Small (d : List ℕ) (rest rows columns : ℕ) : Type 0 where
  pub few : rest < 2 ^ length d
  pub rows_fit : rows < 2 ^ length d
  pub columns_fit : columns < 2 ^ 64

-- where the rows of `rest` are left, doing them too gives the whole level
pub record Walk (n : ℕ) (d mask values : List ℕ) (s : Subgrid) (w : Bool) (rest rows columns : ℕ) : Type 0 where
  pub rows_are : (i : ℕ) → has rows i || takes_row (block_of n d mask values) w (of s rest) i ≡ takes_row (block_of n d mask values) w s i
  pub columns_are : (j : ℕ) → has columns j || takes_column (block_of n d mask values) w (of s rest) j ≡ takes_column (block_of n d mask values) w s j

pub small_starts : (d : List ℕ) (rest : ℕ) → rest < 2 ^ length d → Small d rest 0 0
small_starts d rest l = record { few = l; rows_fit = pow_pos (length d); columns_fit = pow_pos 64 }

pub walk_starts : (n : ℕ) (d mask values : List ℕ) (s : Subgrid) (w : Bool) → Walk n d mask values s w s.rows 0 0
walk_starts n d mask values s w = record {
  rows_are = λ i. ap (λ t. t || takes_row (block_of n d mask values) w s i) (has_zero i);
  columns_are = λ j. ap (λ t. t || takes_column (block_of n d mask values) w s j) (has_zero j);
}

-- a row is taken where its word of faults is not 0
module _ (n : ℕ) (d mask values : List ℕ) (w : Bool) (columns i x : ℕ) (h : x < 2 ^ 64) (l : columns < 2 ^ n) (e : Holds n d mask values w columns i x) where
  abbrev in_row : ℕ → Bool
  in_row j = has columns j && faulty (block_of n d mask values) w i j

  row_found : not (eqb x 0) ≡ true → some n in_row ≡ true
  unfolding Holds
  row_found z =
      let (j, _, p) = some_out 64 (has x) ((some_has 64 x h).1 (λ q. clash (eq-eqb x 0 q) (not-true (eqb x 0) z))) in
      let r = sym (e j) ∙ p in
      some_in n in_row j (⊎_elim (λ k. k) (λ k. clash (and_left (has columns j) (faulty (block_of n d mask values) w i j) r) (has_high n columns j l k)) (lt_or_le j n)) r

  row_lost : some n in_row ≡ true → not (eqb x 0) ≡ true
  unfolding Holds
  row_lost z =
      let (j, _, p) = some_out n in_row z in
      ap not (ne_eqb x 0 (λ q. clash (e j ∙ p) (ap (λ y. has y j) q ∙ has_zero j)))

  row_test : not (eqb x 0) ≡ some n in_row
  row_test = same_test (not (eqb x 0)) (some n in_row) row_found row_lost

-- the row e that is done leaves the rows r: with z it is taken, as a says
row_step : (e z r a h : Bool) → (e ≡ true → r ≡ true) → (e ≡ true → z ≡ a) → (h || (z && e)) || ((r && not e) && a) ≡ h || (r && a)
row_step true z false a h p q = clash (p refl) refl
row_step true true true true true p q = refl
row_step true true true true false p q = refl
row_step true true true false h p q = clash refl (q refl)
row_step true false true true h p q = clash (q refl) refl
row_step true false true false true p q = refl
row_step true false true false false p q = refl
row_step false true r a true p q = refl
row_step false false r a true p q = refl
row_step false true true a false p q = refl
row_step false true false a false p q = refl
row_step false false true a false p q = refl
row_step false false false a false p q = refl

-- in a column c: the fault f of the row that is done, and those y of the others
column_step : (c f h y : Bool) → (h || (c && f)) || (c && y) ≡ h || (c && (f || y))
column_step true f true y = refl
column_step true f false y = refl
column_step false f true y = refl
column_step false f false y = refl

alone : (r f : Bool) → r ≡ true → r && f ≡ f || ((r && not true) && f)
alone true true h = refl
alone true false h = refl
alone false f h = clash h refl

module _ (d : List ℕ) (rest rows columns i y : ℕ) (v : Small d rest rows columns) (next : TakesLowest rest i y) where
  pub walk_inside : i < length d
  walk_inside = place_below (length d) rest i y v.few next

  pub small_more : (x mark : ℕ) → x < 2 ^ 64 → mark ≡ num (not (eqb x 0)) * 2 ^ i → Small d y (bit_or rows mark) (bit_or columns x)
  small_more x mark fits marks = record {
    few = lt_trans next.fewer v.few;
    rows_fit = or_lt (length d) rows mark v.rows_fit (rw marks (mark_lt (not (eqb x 0)) i (length d) walk_inside));
    columns_fit = or_lt 64 columns x v.columns_fit fits;
  }

module _ (n : ℕ) (d mask values : List ℕ) (s : Subgrid) (w : Bool) (rest rows columns : ℕ) (v : Small d rest rows columns) (k : Walk n d mask values s w rest rows columns) (l : s.columns < 2 ^ n) where
  abbrev b : Block.Block
  b = block_of n d mask values

  -- all rows are done
  module _ (e : rest ≡ 0) where
    nothing : (a z c : Bool) → z ≡ false → a || z ≡ c → a ≡ c
    nothing true z c p q = q
    nothing false z c p q = sym p ∙ q

    rows_done : (i : ℕ) → has rows i ≡ takes_row b w s i
    unfolding takes
    rows_done i =
        let a = some n (λ j. has s.columns j && faulty b w i j) in
        nothing (has rows i) (has rest i && a) (takes_row b w s i) (ap (λ y. has y i && a) e ∙ ap (λ t. t && a) (has_zero i)) (k.rows_are i)

    columns_done : (j : ℕ) → has columns j ≡ takes_column b w s j
    unfolding takes
    columns_done j =
        let none = some_none (length d) (λ i. has rest i && faulty b w i j) (λ i _. ap (λ y. has y i && faulty b w i j) e ∙ ap (λ t. t && faulty b w i j) (has_zero i)) in
        nothing (has columns j) (has s.columns j && some (length d) (λ i. has rest i && faulty b w i j)) (takes_column b w s j) (ap (λ t. has s.columns j && t) none ∙ and-false (has s.columns j)) (k.columns_are j)

    pub walk_done : ◌≡◌ {A = Subgrid} (record { rows = rows; columns = columns }) (taken b w s)
    unfolding taken takes
    walk_done =
        let p : rows ≡ word (length d) (takes_row b w s) = is_word (length d) rows (takes_row b w s) v.rows_fit (λ i _. rows_done i) in
        let high : (j : ℕ) → n ≤ j → has columns j ≡ false =
        λ j q. columns_done j ∙ ap (λ t. t && some (length d) (λ i. has s.rows i && faulty b w i j)) (has_high n s.columns j l q) in
        let q : columns ≡ word n (takes_column b w s) = is_word n columns (takes_column b w s) (none_high 64 n columns v.columns_fit high) (λ j _. columns_done j) in
        λ t. record { rows = p t; columns = q t }

  -- the next row is t, and then y are left
  module _ (t y : ℕ) (next : TakesLowest rest t y) (x mark : ℕ) (fits : x < 2 ^ 64) (holds : Holds n d mask values w s.columns t x) (marks : mark ≡ num (not (eqb x 0)) * 2 ^ t) where
    next_rows : (i : ℕ) → has (bit_or rows mark) i || takes_row b w (of s y) i ≡ has rows i || takes_row b w (of s rest) i
    unfolding takes
    next_rows i =
        let f : ℕ → Bool = λ i. some n (λ j. has s.columns j && faulty b w i j) in
        let at : eqb i t ≡ true → i ≡ t = λ q. eqb-true i t q in
        ap₂ (λ p q. p || (q && f i)) (has_or rows mark i ∙ ap (λ p. has rows i || p) (ap (λ y. has y i) marks ∙ has_mark (not (eqb x 0)) t i)) (next.others i)
        ∙ row_step (eqb i t) (not (eqb x 0)) (has rest i) (f i) (has rows i)
        (λ q. ap (has rest) (at q) ∙ next.set) (λ q. row_test n d mask values w s.columns t x fits l holds ∙ ap f (sym (at q)))

    next_columns : (j : ℕ) → has (bit_or columns x) j || takes_column b w (of s y) j ≡ has columns j || takes_column b w (of s rest) j
    unfolding takes Holds
    next_columns j =
        let f : ℕ → Bool = λ i. faulty b w i j in
        let apart = some_raise (length d) (λ i. has rest i && f i) (λ i. has y i && f i) t (f t) (walk_inside d rest rows columns t y v next)
        (rw (next.others t, eqb_same t) (alone (has rest t) (f t) next.set))
        (λ k p. rw (next.others k, ne_eqb k t p) (ap (λ u. u && f k) (sym (and-true (has rest k))))) in
        ap (λ p. p || (has s.columns j && some (length d) (λ i. has y i && f i))) (has_or columns x j ∙ ap (λ p. has columns j || p) (holds j))
        ∙ column_step (has s.columns j) (f t) (has columns j) (some (length d) (λ i. has y i && f i))
        ∙ ap (λ p. has columns j || (has s.columns j && p)) (sym apart)

    pub walk_more : Walk n d mask values s w y (bit_or rows mark) (bit_or columns x)
    walk_more = record { rows_are = λ i. next_rows i ∙ k.rows_are i; columns_are = λ j. next_columns j ∙ k.columns_are j }
