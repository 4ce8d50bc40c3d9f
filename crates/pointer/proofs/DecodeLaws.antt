-- The steps of decoding: an entry from three bytes, the count, the test of the other entries, and the positions that entries name. Assumes nothing.
use mathlib.Core.Path.{◌≡◌, refl, sym, ap, ap₂, subst, ◌∙◌}
use mathlib.Core.Bool.{Bool, true, false, not, cond, ◌&&◌, ◌||◌}
use mathlib.Core.List.{List}
use mathlib.Core.Logic.{◌≢◌, ⊎_elim}
use Prim.Native.Nat.{ℕ, zero, suc, ◌+◌, ◌-◌, ◌*◌, ◌/◌, ◌%◌, ◌^◌, ◌≤◌, ◌<◌}
use native.Mathlib.Nat.{div-one, mod-lt}
use native.Mathlib.Numerals.{unary_clauses}
use native.Mathlib.Omega.{arith}
use borrow.Author.Tests.{le-leb, lt-leb, eq-eqb, ne_eqb}
use lib.Count.{ones}
use lib.Dec.{eqb, leb}
use lib.ListN.{length, get_or, set, replicate, length-set, length-replicate}
use lib.Pow.{pow_pos}
use Rattle.bits.specs.Bits.{num, some, sum, list, has, at, number, Below}
use Rattle.bits.proofs.TestLaws.{lt_or_le, and_in, eqb_same}
use Rattle.bits.proofs.BoundLaws.{some_in, some_none, sum_ext}
use Rattle.bits.proofs.BitLaws.{has_low, has_ext, one_shl, ones_bits}
use Rattle.bits.proofs.ByteLaws.{get_or_zeros, at_zeros, below_set}
use Rattle.bits.proofs.DigitLaws.{window_bit}
use Rattle.pointer_promises.specs.Pointer.{pointer, replacement, entry, spare, active, unary, idle, formed, held, names, repeats}
use Rattle.pointer.specs.Steps.{Counted, Served, arranged, shared}
use Rattle.pointer_promises.proofs.EntryLaws.{names_snoc, repeats_snoc}
use Rattle.pointer_promises.proofs.MetadataLaws.{has_entry, entry_lt, unary_ones, active_full, active_unary}
use Rattle.pointer_promises.proofs.CodecLaws.{spare_entry}
use Rattle.pointer.proofs.OctetLaws.{tenth, set_before, at_changed, one_more_lem}

-- ---- an entry

-- x, y and z are the bytes from the one in which the entry starts
pub entry_cut : (m : List ℕ) (e x y z : ℕ) → let q = (1 + 10 * e) / 8 in Below 256 m → x ≡ get_or m q 0 → y ≡ get_or m (q + 1) 0 → z ≡ get_or m (q + 2) 0
    → (x + 256 * y + 65536 * z) / 2 ^ ((1 + 10 * e) % 8) % 1024 ≡ entry m e
unfolding list number at
entry_cut m e x y z b hx hy hz =
    let q : ℕ = (1 + 10 * e) / 8 in
    let s : ℕ = (1 + 10 * e) % 8 in
    let o : get_or m (q + 0) 0 ≡ get_or m q 0 = ap (λ i. get_or m i 0) (omega arith) in
    let v : x + 256 * y + 65536 * z ≡ number 256 (list 3 (λ i. get_or m (q + i) 0)) = omega arith in
    has_ext 10 ((x + 256 * y + 65536 * z) / 2 ^ s % 1024) (entry m e) (mod-lt ((x + 256 * y + 65536 * z) / 2 ^ s) (omega arith)) (entry_lt m e)
    (λ k h.
    let i : q + (s + k) / 8 ≡ (1 + 10 * e + k) / 8 = omega arith in
    let j : (s + k) % 8 ≡ (1 + 10 * e + k) % 8 = omega arith in
    ap (λ y. has (y / 2 ^ s % 1024) k) v ∙ window_bit 8 3 q s 10 k (λ i. get_or m i 0) (λ i _. b (q + i)) (omega arith) h (omega arith) ∙ ap₂ (λ i j. has (get_or m i 0) j) i j ∙ sym (has_entry m e k h))

-- an entry that is not active, by the code's test
pub idle_yes : (n a e : ℕ) → a ≤ 10 → e + 1 ≡ n → 1 * 2 ^ a % 2 ^ 64 - 1 ≡ idle n a e
unfolding idle
idle_yes n a e l h = ap (λ x. x - 1) (one_shl a (omega arith)) ∙ unary_ones a l ∙ sym (ap (λ t. cond t (unary a) 0) (eq-eqb (e + 1) n h))

pub idle_no : (n a e : ℕ) → e + 1 ≢ n → 0 ≡ idle n a e
unfolding idle
idle_no n a e h = sym (ap (λ t. cond t (unary a) 0) (ne_eqb (e + 1) n h))

-- the ones among the n lowest bits, which are cut off by `last % (1 << n)`
pub count_ones : (n last : ℕ) → n < 64 → ones (last % (1 * 2 ^ n % 2 ^ 64)) ≡ sum n (λ k. num (has last k))
count_ones n last l =
    ap (λ d. ones (last % d)) (one_shl n l) ∙ ones_bits n (last % 2 ^ n) (mod-lt last (pow_pos n))
    ∙ sum_ext n (λ k. num (has (last % 2 ^ n) k)) (λ k. num (has last k)) (λ k h. ap num (has_low n last k h))

full_bit : (m : List ℕ) (x : ℕ) → x ≡ get_or m 0 0 → eqb (x % 2) 1 ≡ at m 0
unfolding at has
full_bit m x h = ap (λ y. eqb (y % 2) 1) (h ∙ sym (div-one (get_or m 0 0)))

-- the count, by the lowest bit of the first byte x
pub count_full : (n : ℕ) (m : List ℕ) (x : ℕ) → x ≡ get_or m 0 0 → x % 2 ≡ 1 → n ≡ active n m
count_full n m x h o = sym (active_full n m (sym (full_bit m x h) ∙ eq-eqb (x % 2) 1 o))

pub count_part : (n : ℕ) (m : List ℕ) (x last : ℕ) → x ≡ get_or m 0 0 → x % 2 ≢ 1 → n ≤ 10 → last ≡ entry m (n - 1) → ones (last % (1 * 2 ^ (n - 1) % 2 ^ 64)) ≡ active n m
count_part n m x last h o l e =
    count_ones (n - 1) last (omega arith) ∙ ap (λ y. sum (n - 1) (λ k. num (has y k))) e ∙ sym (active_unary n m (sym (full_bit m x h) ∙ ne_eqb (x % 2) 1 o))

-- ---- what is wrong with the entries

-- downwards, one more
pub above_more : (P : ℕ → Type 0) (n e : ℕ) → ((k : ℕ) → e ≤ k → k < n → P k) → P (e - 1) → (k : ℕ) → e - 1 ≤ k → k < n → P k
above_more P n e f p k l h = ⊎_elim (λ b. let i : e - 1 ≡ k = omega arith in subst P i p) (λ b. f k b h) (lt_or_le k e)

module _ (n : ℕ) (m : List ℕ) (a : ℕ) (c : Counted n m a) where
  -- entry k is not active and does not hold what it should
  abbrev stray : ℕ → Bool
  stray k = leb a k && not (eqb (entry m k) (idle n a k))

  well : not (some n stray) ≡ formed n m
  unfolding formed
  well = ap (λ x. not (some n (λ e. leb x e && not (eqb (entry m e) (idle n x e))))) c.count

  clean : (x : ℕ) → x ≡ entry m n → not (eqb x 0) ≡ spare n m
  clean x h = ap (λ x. not (eqb x 0)) h ∙ sym (spare_entry n m c.long)

  pub arranged_spare : (x : ℕ) → x ≡ entry m n → x ≢ 0 → 3 ≡ arranged n m
  arranged_spare x h d = ap (λ t. cond t 3 (cond (formed n m) 0 4)) (sym (ap not (ne_eqb x 0 d)) ∙ clean x h)

  module _ (x : ℕ) (h : x ≡ entry m n) (z : x ≡ 0) where
    unspared : false ≡ spare n m
    unspared = sym (ap not (eq-eqb x 0 z)) ∙ clean x h

    pub arranged_stray : (e : ℕ) → a ≤ e → e < n → entry m e ≢ idle n a e → 4 ≡ arranged n m
    arranged_stray e l k d =
        ap₂ (λ s t. cond s 3 (cond t 0 4)) unspared
        (sym (ap not (some_in n stray e k (and_in (le-leb a e l) (ap not (ne_eqb (entry m e) (idle n a e) d))))) ∙ well)

    pub arranged_well : ((k : ℕ) → a ≤ k → k < n → entry m k ≡ idle n a k) → 0 ≡ arranged n m
    arranged_well i =
        ap₂ (λ s t. cond s 3 (cond t 0 4)) unspared
        (sym
        (ap not
        (some_none n stray (λ k q.
        ⊎_elim (λ d. rw (lt-leb a k d)) (λ d. rw (le-leb a k d, i k d q, eqb_same (idle n a k))) (lt_or_le k a)))) ∙ well)

-- ---- the positions that the entries name

-- after i entries of the metadata m
pub record Marking (m : List ℕ) (i : ℕ) (served : List ℕ) : Type 0 where
  pub long : length served ≡ 64
  pub single : repeats (list i (entry m)) ≡ false
  pub bits : (q : ℕ) → at served q ≡ names (list i (entry m)) q
  pub below : Below 256 served

module _ (m : List ℕ) where
  pub mark_start : Marking m 0 (replicate 64 0)
  unfolding names repeats list
  mark_start = record { long = length-replicate {A = ℕ} 64 0; single = refl; bits = at_zeros 64; below = λ i. rw (get_or_zeros 64 i) (omega arith) }

  -- what is named twice by i entries is so by more
  repeats_more : (i k : ℕ) → repeats (list i (entry m)) ≡ true → repeats (list (i + k) (entry m)) ≡ true
  repeats_more i zero h = simp unary_clauses h
  repeats_more i (suc k) h =
      let s : i + suc k ≡ i + k + 1 = omega arith in
      ap (λ x. repeats (list x (entry m))) s ∙ ap repeats (one_more_lem m (i + k) (entry m (i + k)) refl) ∙ repeats_snoc (list (i + k) (entry m)) (entry m (i + k))
      ∙ ap (λ t. t || names (list (i + k) (entry m)) (pointer (entry m (i + k)))) (repeats_more i k h)

  -- v is the byte b of the position p that entry i names, marked as by an entry that shows a 1 there
  module _ (i e v : ℕ) (served : List ℕ) (r : e ≡ entry m i) (f : v < 256)
      (h : (j : ℕ) → has v j ≡ cond (eqb (pointer (e % 512 + 512) % 8) j) (replacement (e % 512 + 512)) (has (get_or served (e % 512 / 8) 0) j))
      (c : Marking m i served) where
    marks : (j : ℕ) → has v j ≡ cond (eqb (e % 512 % 8) j) true (has (get_or served (e % 512 / 8) 0) j)
    marks j =
        let p : ℕ = e % 512 in
        let o : pointer (p + 512) % 8 ≡ p % 8 = omega arith in
        let u : (p + 512) / 512 ≡ 1 = omega arith in
        h j ∙ ap₂ (λ k t. cond (eqb k j) t (has (get_or served (p / 8) 0) j)) o (sym (tenth (p + 512)) ∙ ap (λ x. eqb (x % 2) 1) u)

    repeats_next : repeats (list (i + 1) (entry m)) ≡ eqb (get_or served (e % 512 / 8) 0) v
    unfolding at
    repeats_next =
        let p : ℕ = e % 512 in
        ap repeats (one_more_lem m i e r) ∙ repeats_snoc (list i (entry m)) e ∙ ap (λ t. t || names (list i (entry m)) p) c.single
        ∙ sym (set_before (get_or served (p / 8) 0) v (p % 8) (c.below (p / 8)) f marks ∙ c.bits p)

    pub mark_more : get_or served (e % 512 / 8) 0 ≢ v → Marking m (i + 1) (set served (e % 512 / 8) v)
    mark_more d =
        let p : ℕ = e % 512 in
        let k : length served ≡ 64 = c.long in
        record {
          long = length-set served (p / 8) v ∙ k;
          single = repeats_next ∙ ne_eqb (get_or served (p / 8) 0) v d;
          bits = λ q. at_changed served p q v true (omega arith) marks ∙ ap (cond (eqb p q) true) (c.bits q)
              ∙ sym (ap (λ l. names l q) (one_more_lem m i e r) ∙ names_snoc (list i (entry m)) e q);
          below = below_set 256 served (p / 8) v c.below f;
        }

    pub mark_twice : (n a : ℕ) → Counted n m a → i < a → get_or served (e % 512 / 8) 0 ≡ v → 5 ≡ shared n m
    unfolding held
    mark_twice n a k l t =
        let o : i + 1 + (a - (i + 1)) ≡ a = omega arith in
        let u : repeats (list (i + 1) (entry m)) ≡ true = repeats_next ∙ eq-eqb (get_or served (e % 512 / 8) 0) v t in
        ap (λ t. cond t 5 0) (sym (repeats_more (i + 1) (a - (i + 1)) u) ∙ ap (λ x. repeats (list x (entry m))) (o ∙ k.count))

  pub mark_none : (n a i : ℕ) (served : List ℕ) → Counted n m a → i ≡ a → Marking m i served → 0 ≡ shared n m
  unfolding held
  mark_none n a i served k e c = ap (λ t. cond t 5 0) (sym c.single ∙ ap (λ x. repeats (list x (entry m))) (e ∙ k.count))

  pub mark_done : (n a i : ℕ) (served : List ℕ) → Counted n m a → i ≡ a → Marking m i served → Served n m served
  unfolding held
  mark_done n a i served k e c = record { bits = λ p. c.bits p ∙ ap (λ x. names (list x (entry m)) p) (e ∙ k.count) }
