-- Laws of what is judged before a block is worked on. Assumes nothing.
use mathlib.Core.Path.{◌≡◌, refl, sym, ap, ap₂, ◌∙◌}
use mathlib.Core.Bool.{Bool, true, false, not, cond, ◌&&◌, ◌||◌, and-true, and_comm}
use mathlib.Core.List.{List}
use mathlib.Core.Logic.{◌⊎◌, inl, inr}
use Prim.Native.Nat.{ℕ, zero, suc, ◌+◌, ◌*◌, ◌%◌, ◌^◌, ◌≤◌, ◌<◌}
use native.Mathlib.Nat.{lt_of_lt_of_le}
use native.Mathlib.Numerals.{add-one}
use native.Mathlib.Omega.{arith}
use borrow.Author.Tests.{le-leb, lt-leb}
use lib.Bits.{bit_or, or_lt, or_add_and, and_le_l, and_le_r}
use lib.Dec.{eqb, leb, ltb}
use lib.ListN.{length, get_or, take}
use lib.Pow.{pow_pos, pow_mono}
use Rattle.std.specs.List.{fold}
use Rattle.std.proofs.lemmas.List.{take_all}
use Rattle.std.proofs.lemmas.List.Sums.{fold_more}
use Rattle.bits.specs.Bits.{some, Below}
use Rattle.bits.proofs.TestLaws.{clash, lt_or_le, ltb_not, and_left}
use Rattle.bits.proofs.BoundLaws.{some_none}
use Rattle.bits.proofs.BitLaws.{one_shl}
use Rattle.rdis.specs.Packing.{width, bytes_for}
use Rattle.grid_promises.specs.Calls.{in_range, counters_sized, past}
use Rattle.grid_promises.specs.Conversion.{convert_in_range, convert_sized}
use Rattle.grid_promises.proofs.RefusalLaws.{in_range_lem}
use Rattle.grid_sets.specs.Promises.{fit}
use Rattle.grid_checks.specs.Numbers.{judged, convert_judged}

-- ---- a word with a bit past the last column

-- two words joined have such a bit exactly if one of them has
or_reaches : (n a b : ℕ) → leb (2 ^ n) (bit_or a b) ≡ leb (2 ^ n) a || leb (2 ^ n) b
or_reaches n a b = go (lt_or_le a (2 ^ n)) (lt_or_le b (2 ^ n))
  where
    go : (a < 2 ^ n) ⊎ (2 ^ n ≤ a) → (b < 2 ^ n) ⊎ (2 ^ n ≤ b) → leb (2 ^ n) (bit_or a b) ≡ leb (2 ^ n) a || leb (2 ^ n) b
    go (inl h) (inl k) = rw (lt-leb (2 ^ n) a h, lt-leb (2 ^ n) b k) (lt-leb (2 ^ n) (bit_or a b) (or_lt n a b h k))
    go (inl h) (inr k) = rw (lt-leb (2 ^ n) a h, le-leb (2 ^ n) b k) (le-leb (2 ^ n) (bit_or a b) (omega (arith, or_add_and a b, and_le_l a b)))
    go (inr h) k = rw (le-leb (2 ^ n) a h) (le-leb (2 ^ n) (bit_or a b) (omega (arith, or_add_and a b, and_le_r a b)))

-- all words joined have one exactly if one of them has: of the words below i, one word more at a time
module _ (n : ℕ) (ws : List ℕ) where
  front_reaches : (i : ℕ) → i ≤ length ws → leb (2 ^ n) (fold (λ all w. bit_or w all) 0 (take i ws)) ≡ some i (λ k. leb (2 ^ n) (get_or ws k 0))
  unfolding some
  front_reaches zero l = lt-leb (2 ^ n) 0 (pow_pos n)
  front_reaches (suc i) l =
      let f : ℕ → ℕ → ℕ = λ all w. bit_or w all in
      let more : fold f 0 (take (suc i) ws) ≡ f (fold f 0 (take i ws)) (get_or ws i 0) = rw add-one at (fold_more f 0 ws i 0 l) in
      ap (leb (2 ^ n)) more
      ∙ (or_reaches n (get_or ws i 0) (fold f 0 (take i ws)) ∙ ap (λ t. leb (2 ^ n) (get_or ws i 0) || t) (front_reaches i (omega arith)))

  pub joined_reaches : leb (2 ^ n) (fold (λ all w. bit_or w all) 0 ws) ≡ past n ws
  unfolding past
  joined_reaches = ap (λ xs. leb (2 ^ n) (fold (λ all w. bit_or w all) 0 xs)) (sym (take_all (length ws) ws (omega arith))) ∙ front_reaches (length ws) (omega arith)

-- the words below i of three lists joined have one exactly if one of them has
abbrev pub JoinedThree : List ℕ → List ℕ → List ℕ → ℕ → ℕ → Type 0
JoinedThree xs ys zs i all =
    (n : ℕ) → leb (2 ^ n) all ≡ some i (λ k. leb (2 ^ n) (get_or xs k 0)) || (some i (λ k. leb (2 ^ n) (get_or ys k 0)) || some i (λ k. leb (2 ^ n) (get_or zs k 0)))

pub three_none : (xs ys zs : List ℕ) → JoinedThree xs ys zs 0 0
unfolding some
three_none xs ys zs n = lt-leb (2 ^ n) 0 (pow_pos n)

-- each of three with its own
apart : (a b c x y z : Bool) → (x || (y || z)) || ((a || b) || c) ≡ (a || x) || ((b || y) || (c || z))
apart true b c true y z = refl
apart true b c false true z = refl
apart true b c false false true = refl
apart true b c false false false = refl
apart false b c true y z = refl
apart false true c false true z = refl
apart false true c false false true = refl
apart false true c false false false = refl
apart false false c false true z = refl
apart false false true false false true = refl
apart false false false false false true = refl
apart false false true false false false = refl
apart false false false false false false = refl

pub three_more : (xs ys zs : List ℕ) (i all : ℕ) → JoinedThree xs ys zs i all
    → JoinedThree xs ys zs (i + 1) (bit_or all (bit_or (bit_or (get_or xs i 0) (get_or ys i 0)) (get_or zs i 0)))
unfolding some
three_more xs ys zs i all h n =
    let a = get_or xs i 0 in
    let b = get_or ys i 0 in
    let c = get_or zs i 0 in
    or_reaches n all (bit_or (bit_or a b) c) ∙ ap₂ ◌||◌ (h n) (or_reaches n (bit_or a b) c ∙ ap (λ t. t || leb (2 ^ n) c) (or_reaches n a b))
    ∙ apart (leb (2 ^ n) a) (leb (2 ^ n) b) (leb (2 ^ n) c) (some i (λ k. leb (2 ^ n) (get_or xs k 0))) (some i (λ k. leb (2 ^ n) (get_or ys k 0))) (some i (λ k. leb (2 ^ n) (get_or zs k 0))) ∙ rw add-one

pub three_done : (xs ys zs : List ℕ) (i all : ℕ) → i ≡ length xs → length ys ≡ length xs → length zs ≡ length xs → JoinedThree xs ys zs i all
    → (n : ℕ) → leb (2 ^ n) all ≡ past n xs || (past n ys || past n zs)
unfolding past
three_done xs ys zs i all e p q h n =
    let at : (ws : List ℕ) → i ≡ length ws → some i (λ k. leb (2 ^ n) (get_or ws k 0)) ≡ past n ws = λ ws d. ap (λ k. some k (λ i. leb (2 ^ n) (get_or ws i 0))) d in
    h n ∙ ap₂ ◌||◌ (at xs e) (ap₂ ◌||◌ (at ys (e ∙ sym p)) (at zs (e ∙ sym q)))

-- those of each list joined by themselves
pub three_apart : (n x y z : ℕ) (xs ys zs : List ℕ) → leb (2 ^ n) x ≡ past n xs → leb (2 ^ n) y ≡ past n ys → leb (2 ^ n) z ≡ past n zs
    → leb (2 ^ n) (bit_or x (bit_or y z)) ≡ past n xs || (past n ys || past n zs)
three_apart n x y z xs ys zs p q r = or_reaches n x (bit_or y z) ∙ ap₂ ◌||◌ p (or_reaches n y z ∙ ap₂ ◌||◌ q r)

-- where every bit has a column no word has one
none_past : (n : ℕ) (ws : List ℕ) → 64 ≤ n → Below (2 ^ 64) ws → past n ws ≡ false
unfolding past
none_past n ws l h = some_none (length ws) (λ i. leb (2 ^ n) (get_or ws i 0)) (λ i _. lt-leb (2 ^ n) (get_or ws i 0) (lt_of_lt_of_le (h i) (pow_mono l)))

pub past_none : (n : ℕ) (ws : List ℕ) → 64 ≤ n → Below (2 ^ 64) ws → leb 64 n ≡ not (past n ws)
past_none n ws l h = le-leb 64 n l ∙ sym (ap not (none_past n ws l h))

pub three_none_past : (n : ℕ) (xs ys zs : List ℕ) → 64 ≤ n → Below (2 ^ 64) xs → Below (2 ^ 64) ys → Below (2 ^ 64) zs → leb 64 n ≡ not (past n xs || (past n ys || past n zs))
three_none_past n xs ys zs l p q r = le-leb 64 n l ∙ sym (ap not (ap₂ ◌||◌ (none_past n xs l p) (ap₂ ◌||◌ (none_past n ys l q) (none_past n zs l r))))

-- else the words joined are judged
pub past_judged : (n all : ℕ) (t : Bool) → n < 64 → leb (2 ^ n) all ≡ t → ltb all (1 * 2 ^ n % 2 ^ 64) ≡ not t
past_judged n all t l h = ap (ltb all) (one_shl n l) ∙ ltb_not all (2 ^ n) ∙ ap not h

-- ---- numbers and lengths

-- in range they add up to few
pub sum_few : (m n k : ℕ) → in_range m n k ≡ true → m + n ≤ 128
sum_few m n k h = let r = (in_range_lem m n k).0 h in omega (arith, r.rows.1, r.columns.1)

module _ (m n k counters : ℕ) (words : Bool) where
  pub out_of_range : in_range m n k ≡ false → 1 ≡ judged m n k counters words
  unfolding judged
  out_of_range h = rw h

  pub in_range_by : in_range m n k ≡ true → (f : Bool) → f ≡ fit k (m + n) counters → (t : Bool) → words && f ≡ t → cond t 0 2 ≡ judged m n k counters words
  unfolding judged counters_sized fit
  in_range_by h f e t d = rw (← d, e, h, le-leb (m + n) 128 (sum_few m n k h))

-- ---- a conversion

-- the target alone refuses, or leaves the rest to K
module _ (m n k k' counters out : ℕ) where
  pub target_refused : in_range m n k' && leb k k' ≡ false → 1 ≡ convert_judged m n k k' counters out
  unfolding convert_in_range
  target_refused h = ap (λ t. cond (not t) 1 (cond (convert_sized m n k k' counters out) 0 2)) (sym (refuses (in_range m n k) (in_range m n k') (leb k k') h))
    where
      refuses : (a b c : Bool) → b && c ≡ false → (a && b) && c ≡ false
      refuses true b c h = h
      refuses false b c h = refl

  pub target_passes : in_range m n k' && leb k k' ≡ true → judged m n k counters (fit k' (m + n) out) ≡ convert_judged m n k k' counters out
  unfolding judged convert_in_range convert_sized counters_sized fit
  target_passes h =
      rw (le-leb (m + n) 128 (sum_few m n k' (and_left (in_range m n k') (leb k k') h)))
      (passes (in_range m n k) (in_range m n k') (leb k k') (eqb out (bytes_for (width k') (m + n))) (eqb counters (bytes_for (width k) (m + n))) h)
    where
      passes : (a b c x y : Bool) → b && c ≡ true → cond (not a) 1 (cond {A = ℕ} (x && y) 0 2) ≡ cond (not ((a && b) && c)) 1 (cond (y && x) 0 2)
      passes a true true x y h = ap₂ (λ s t. cond (not s) 1 (cond {A = ℕ} t 0 2)) (sym (and-true (a && true) ∙ and-true a)) (and_comm x y)
      passes a true false x y h = clash h refl
      passes a false c x y h = clash h refl
