-- Laws of the way from planes to bytes: the words of the counters' bits, and their bytes stored. Assumes nothing.
use Prim.Native.Nat.{ℕ, ◌+◌, ◌*◌, ◌/◌, ◌%◌, ◌^◌, ◌≤◌, ◌<◌}
use mathlib.Core.Path.{◌≡◌, refl, sym, ap, ap₂, ◌∙◌}
use mathlib.Core.Bool.{◌&&◌, ◌||◌}
use mathlib.Core.List.{List}
use native.Mathlib.Nat.{mod-lt, mod-one, div-one, mul-add-div, mul-add-mod_self_left, mul-le-mul_left}
use native.Mathlib.Omega.{arith}
use lib.Bits.{bit_or, or_lt}
use lib.Dec.{eqb, lit<, lit≤}
use lib.ListN.{length, get_or}
use lib.Pow.{pow_pos}
use Rattle.bits.specs.Bits.{has, word, words, bytes, Below}
use Rattle.bits.proofs.BoundLaws.{list_ext}
use Rattle.bits.proofs.BitLaws.{has_or, has_shr, word_lt, word_ext, is_word}
use Rattle.bits.proofs.ByteLaws.{past_end}
use Rattle.words.specs.Stored.{Filled, Stores}
use Rattle.words.proofs.StoreLaws.{bits_of, filled_past, filled_none, filled_all}
use Rattle.words.proofs.ShiftLaws.{joined, from_bit}
use Rattle.rdis.specs.Packing.{bytes_for, in_order, packed}
use Rattle.rdis.proofs.PackingLaws.{packed_bits, length_in_order, row_in_order, column_in_order}
use Rattle.grid_sets.specs.declared.Threes.{Threes}
use Rattle.grid_sets.specs.Planes.{AreThrees}
use Rattle.grid_sets.proofs.PlaneLaws.{threes_as, threes_ext}
use Rattle.grid_packing.specs.Promises.{bit_of, FillsPlanes}
use Rattle.grid_packing.specs.Steps.{spaced, StoresAt}
use Rattle.grid_packing.proofs.SpacedLaws.{spaced_bit, spaced_moved, thirds_inside, pick_two, pick_three}

-- ---- counters side by side

-- a bit of the counters from counter t on, which is bit w * t + p of all of them, at any width w
bit_from : (w t b : ℕ) (f : ℕ → ℕ) → 0 < w → b ≡ w * t → (p : ℕ) → has (f (t + p / w)) (p % w) ≡ bit_of w f (b + p)
bit_from w t b f z h p =
    ap₂ (λ x k. has (f x) k) (sym (ap (λ y. (y + p) / w) h ∙ mul-add-div z t p)) (sym (ap (λ y. (y + p) % w) h ∙ mul-add-mod_self_left w t p))

-- bit q of the counter that is i after counter s
from_line : (x q : ℕ) (f : ℕ → ℕ) → x ≡ word 64 (λ i. has (f i) q) → (s i : ℕ) → s + i < 64 → has (x / 2 ^ s) i ≡ has (f (s + i)) q
from_line x q f e s i l = has_shr x s i ∙ bits_of x (λ i. has (f i) q) e (s + i) l

module _ (f : ℕ → ℕ) (p : Threes) (b : AreThrees 64 f p) (at x y : ℕ) where
  -- the lowest bits of two planes, each at its own of every two places
  pub paired : at ≤ 32 → x ≡ word 64 (spaced 2 (p.planes.low / 2 ^ at)) → y ≡ word 64 (spaced 2 (p.planes.high / 2 ^ at))
      → bit_or (y * 2 ^ 1 % 2 ^ 64) x ≡ word 64 (λ i. bit_of 2 f (2 * at + i))
  paired few ex ey =
      is_word 64 (bit_or (y * 2 ^ 1 % 2 ^ 64) x) _ (or_lt 64 (y * 2 ^ 1 % 2 ^ 64) x (mod-lt _ (pow_pos 64)) (rw ex (word_lt 64 _)))
      (λ i l. let near : at + i / 2 < 64 = omega arith in
      has_or (y * 2 ^ 1 % 2 ^ 64) x i ∙ ap₂ ◌||◌ (spaced_moved 2 64 y (p.planes.high / 2 ^ at) (lit≤ tt) ey i l 1 (lit< tt)) (spaced_bit 2 64 x (p.planes.low / 2 ^ at) ex i l)
      ∙ ap₂ (λ u v. (eqb (i % 2) 1 && u) || (eqb (i % 2) 0 && v)) (from_line p.planes.high 1 f b.bits.higher at (i / 2) near) (from_line p.planes.low 0 f b.bits.lower at (i / 2) near)
      ∙ pick_two (i % 2) (mod-lt i (lit< tt)) (has (f (at + i / 2))) ∙ bit_from 2 at (2 * at) f (lit< tt) refl i)

  -- the lowest bits of three planes, each at its own of every three places
  pub tripled : at ≤ 48 → x ≡ word 48 (spaced 3 (p.planes.low / 2 ^ at)) → y ≡ word 48 (spaced 3 (p.planes.high / 2 ^ at)) → (z : ℕ) → z ≡ word 48 (spaced 3 (p.top / 2 ^ at))
      → bit_or (z * 2 ^ 2 % 2 ^ 64) (bit_or (y * 2 ^ 1 % 2 ^ 64) x) ≡ word 48 (λ i. bit_of 3 f (3 * at + i))
  tripled few ex ey z ez =
      let low = p.planes.low / 2 ^ at in
      let high = p.planes.high / 2 ^ at in
      let top = p.top / 2 ^ at in
      let lower = bit_or (y * 2 ^ 1 % 2 ^ 64) x in
      is_word 48 (bit_or (z * 2 ^ 2 % 2 ^ 64) lower) _
      (or_lt 48 (z * 2 ^ 2 % 2 ^ 64) lower (thirds_inside z top ez 2 (lit< tt)) (or_lt 48 (y * 2 ^ 1 % 2 ^ 64) x (thirds_inside y high ey 1 (lit< tt)) (rw ex (word_lt 48 _))))
      (λ i l. let near : at + i / 3 < 64 = omega arith in
      has_or (z * 2 ^ 2 % 2 ^ 64) lower i
      ∙ ap₂ ◌||◌ (spaced_moved 3 48 z top (lit≤ tt) ez i l 2 (lit< tt))
      (has_or (y * 2 ^ 1 % 2 ^ 64) x i ∙ ap₂ ◌||◌ (spaced_moved 3 48 y high (lit≤ tt) ey i l 1 (lit< tt)) (spaced_bit 3 48 x low ex i l))
      ∙ (λ t. (eqb (i % 3) 2 && from_line p.top 2 f b.third at (i / 3) near t)
      || ((eqb (i % 3) 1 && from_line p.planes.high 1 f b.bits.higher at (i / 3) near t) || (eqb (i % 3) 0 && from_line p.planes.low 0 f b.bits.lower at (i / 3) near t)))
      ∙ pick_three (i % 3) (mod-lt i (lit< tt)) (has (f (at + i / 3))) ∙ bit_from 3 at (3 * at) f (lit< tt) refl i)

-- ---- 64 counters stored

-- a word of the bits of the counters from counter t on, e bytes after the first of them
placed : (w t q e s x : ℕ) (f : ℕ → ℕ) → 0 < w → 8 * q ≡ w * t → s ≡ q + e → x ≡ word 64 (λ i. bit_of w (λ j. f (t + j)) (8 * e + i)) → x ≡ word 64 (λ i. bit_of w f (8 * s + i))
placed w t q e s x f z h k d =
    d ∙ word_ext 64 _ _ (λ i _. let there : 8 * q + (8 * e + i) ≡ 8 * s + i = omega arith in bit_from w t (8 * q) f z h (8 * e + i) ∙ ap (bit_of w f) there)

-- of one bit: they are their plane
pub single_stored : (q : ℕ) (p : Threes) (before after : List ℕ) → Stores q 8 p.planes.low before after → StoresAt 1 q p before after
single_stored q p before after s = record {
  fills = λ f t h b k.
      s.fills (bit_of 1 f) k (bits_of _ _ (placed 1 t q 0 q p.planes.low f (lit< tt) h (omega arith)
      (b.bits.lower ∙ word_ext 64 _ _ (λ i _. let there : i ≡ (0 + i) / 1 = omega (arith, div-one (0 + i)) in ap₂ (λ x k. has (f (t + x)) k) there (sym (mod-one (0 + i)))))));
  keeps = s.keeps;
}

-- of two bits: two words
pub pairs_stored : (q : ℕ) (p : Threes) (x y : ℕ) (before middle after : List ℕ)
    → ((f : ℕ → ℕ) → AreThrees 64 f p → x ≡ word 64 (λ i. bit_of 2 f (0 + i))) → Stores q 8 x before middle
    → ((f : ℕ → ℕ) → AreThrees 64 f p → y ≡ word 64 (λ i. bit_of 2 f (64 + i))) → Stores (q + 8) 8 y middle after → StoresAt 2 q p before after
pairs_stored q p x y before middle after ex sx ey sy = record {
  fills = λ f t h b k.
      let g = bit_of 2 f in
      let one = sx.fills g k (bits_of _ _ (placed 2 t q 0 q x f (lit< tt) h (omega arith) (ex (λ j. f (t + j)) b))) in
      let two = sy.fills g one (bits_of _ _ (placed 2 t q 8 (q + 8) y f (lit< tt) h refl (ey (λ j. f (t + j)) b))) in
      λ i l. two i (omega arith);
  keeps = λ t l. sy.keeps t (omega arith) ∙ sx.keeps t (omega arith);
}

-- of three bits: three words of four parts
module _ (q : ℕ) (p : Threes) (a b c d : ℕ)
    (ea : (f : ℕ → ℕ) → AreThrees 64 f p → a ≡ word 48 (λ i. bit_of 3 f (0 + i))) (eb : (f : ℕ → ℕ) → AreThrees 64 f p → b ≡ word 48 (λ i. bit_of 3 f (48 + i)))
    (ec : (f : ℕ → ℕ) → AreThrees 64 f p → c ≡ word 48 (λ i. bit_of 3 f (96 + i))) (ed : (f : ℕ → ℕ) → AreThrees 64 f p → d ≡ word 48 (λ i. bit_of 3 f (144 + i))) where
  module _ (f : ℕ → ℕ) (bits : AreThrees 64 f p) where
    -- the k bits from bit s of a part on, which is bit r of all
    part : (n s k r v : ℕ) → k + s ≡ 48 → r ≡ n + s → v ≡ word 48 (λ i. bit_of 3 f (n + i)) → v / 2 ^ s ≡ word k (λ i. bit_of 3 f (r + i))
    part n s k r v e h ev =
        from_bit s k v (λ i. bit_of 3 f (n + i)) (ev ∙ ap (λ n'. word n' (λ i. bit_of 3 f (n + i))) (sym e))
        ∙ word_ext k _ _ (λ i _. let there : n + (s + i) ≡ r + i = omega arith in ap (bit_of 3 f) there)

    -- bits that are numbered from bit r on
    again : (k r s v : ℕ) → v ≡ word k (λ i. bit_of 3 f (r + s + i)) → v ≡ word k (λ i. bit_of 3 f (r + (s + i)))
    again k r s v e = e ∙ word_ext k _ _ (λ i _. let there : r + s + i ≡ r + (s + i) = omega arith in ap (bit_of 3 f) there)

    word_1 : bit_or (b * 2 ^ 48 % 2 ^ 64) a ≡ word 64 (λ i. bit_of 3 f (0 + i))
    word_1 = joined 48 48 a b (λ i. bit_of 3 f (0 + i)) (lit< tt) (lit≤ tt) (ea f bits) (again 48 0 48 b (eb f bits))

    word_2 : bit_or (c * 2 ^ 32 % 2 ^ 64) (b / 2 ^ 16) ≡ word 64 (λ i. bit_of 3 f (64 + i))
    word_2 = joined 32 48 (b / 2 ^ 16) c (λ i. bit_of 3 f (64 + i)) (lit< tt) (lit≤ tt) (part 48 16 32 64 b refl refl (eb f bits)) (again 48 64 32 c (ec f bits))

    word_3 : bit_or (d * 2 ^ 16 % 2 ^ 64) (c / 2 ^ 32) ≡ word 64 (λ i. bit_of 3 f (128 + i))
    word_3 = joined 16 48 (c / 2 ^ 32) d (λ i. bit_of 3 f (128 + i)) (lit< tt) (lit≤ tt) (part 96 32 16 128 c refl refl (ec f bits)) (again 48 128 16 d (ed f bits))

  pub triples_stored : (b0 b1 b2 b3 : List ℕ) → Stores q 8 (bit_or (b * 2 ^ 48 % 2 ^ 64) a) b0 b1 → Stores (q + 8) 8 (bit_or (c * 2 ^ 32 % 2 ^ 64) (b / 2 ^ 16)) b1 b2
      → Stores (q + 16) 8 (bit_or (d * 2 ^ 16 % 2 ^ 64) (c / 2 ^ 32)) b2 b3 → StoresAt 3 q p b0 b3
  triples_stored b0 b1 b2 b3 s1 s2 s3 = record {
    fills = λ f t h bits k.
        let g = bit_of 3 f in
        let f' = λ (j : ℕ). f (t + j) in
        let one = s1.fills g k (bits_of _ _ (placed 3 t q 0 q _ f (lit< tt) h (omega arith) (word_1 f' bits))) in
        let two = s2.fills g (λ i l. one i (omega arith)) (bits_of _ _ (placed 3 t q 8 (q + 8) _ f (lit< tt) h refl (word_2 f' bits))) in
        let three = s3.fills g (λ i l. two i (omega arith)) (bits_of _ _ (placed 3 t q 16 (q + 16) _ f (lit< tt) h refl (word_3 f' bits))) in
        λ i l. three i (omega arith);
    keeps = λ t l. s3.keeps t (omega arith) ∙ s2.keeps t (omega arith) ∙ s1.keeps t (omega arith);
  }

-- ---- 128 counters stored

module _ (w : ℕ) (first second : Threes) (before middle : List ℕ) (s : StoresAt w 0 first before middle) where
  half_filled : (f : ℕ → ℕ) → AreThrees 64 f first → Filled (8 * w) (bit_of w f) middle
  half_filled f a =
      let from_first = threes_ext 64 f (λ i. f (0 + i)) first (λ i _. let e : 0 + i ≡ i = omega arith in ap f e) a in
      let filled = s.fills f 0 (omega arith) from_first (filled_none (bit_of w f) before) in
      λ t l. filled t (omega arith)

  -- there are no bytes for the others
  pub half_stored : length middle ≤ 8 * w → FillsPlanes w first second before middle
  half_stored l = record { fills = λ f a b. filled_past (8 * w) (16 * w) (bit_of w f) middle l (half_filled f a); keeps = λ t k. s.keeps t (omega arith) }

  pub both_stored : (after : List ℕ) → StoresAt w (8 * w) second middle after → FillsPlanes w first second before after
  both_stored after u = record {
    fills = λ f a b. let filled = u.fills f 64 (omega arith) b (half_filled f a) in λ t l. filled t (omega arith);
    keeps = λ t k. u.keeps t (omega arith) ∙ s.keeps t (omega arith);
  }

-- ---- all counters

-- counters that were stored are packed
pub stored_packed : (w n : ℕ) (cs : List ℕ) (f : ℕ → ℕ) (after : List ℕ) → 0 < w → n ≤ 128 → length cs ≡ n → Below (2 ^ w) cs → ((t : ℕ) → get_or cs t 0 ≡ f t)
    → length after ≡ bytes_for w n → Filled (16 * w) (bit_of w f) after → after ≡ packed w cs
unfolding bytes_for bytes words
stored_packed w n cs f after z few e b same l k =
    filled_all (16 * w) ((w * n + 7) / 8) (bit_of w f) after l (omega (arith, mul-le-mul_left w few)) k
    ∙ list_ext ((w * n + 7) / 8) _ _ (λ i _. word_ext 8 _ _ (λ q _. ap (λ x. has x ((8 * i + q) % w)) (sym (same ((8 * i + q) / w)))))
    ∙ ap (λ m. bytes ((w * m + 7) / 8) (λ p. has (get_or cs (p / w) 0) (p % w))) (sym e) ∙ sym (packed_bits w cs z b)

-- those of m rows and of n columns, after them
module _ (m n : ℕ) (r c : ℕ → ℕ) where
  abbrev pub all : ℕ → ℕ
  all t = get_or (in_order m n r c) t 0

  pub all_past : (t : ℕ) → m + n ≤ t → all t ≡ 0
  all_past t h = past_end (in_order m n r c) t (omega (arith, length_in_order m n r c))

  module _ (few : m ≤ 64) (less : n ≤ 64) where
    pub rows_first : (p : Threes) → AreThrees m r p → AreThrees m all p
    rows_first p = threes_ext m r all p (row_in_order m n r c)

    pub columns_after : (p : Threes) → AreThrees n c p → AreThrees 64 (λ j. all (m + j)) p
    columns_after p = threes_as n 64 c (λ j. all (m + j)) p less (column_in_order m n r c) (λ j h l. all_past (m + j) (omega arith))

    -- the rows' planes and the columns', put together and stored
    pub all_packed : (w : ℕ) → 0 < w → Below (2 ^ w) (in_order m n r c) → (first second : Threes) → AreThrees 64 all first → AreThrees 64 (λ i. all (64 + i)) second
        → (before after : List ℕ) → length after ≡ bytes_for w (m + n) → FillsPlanes w first second before after → after ≡ packed w (in_order m n r c)
    all_packed w z b first second one two before after l s =
        stored_packed w (m + n) (in_order m n r c) all after z (omega arith) (length_in_order m n r c) b (λ t. refl) l (s.fills all one two)
