-- Laws of the way from the planes of counters to the sets of their lines. Assumes nothing.
use Prim.Native.Nat.{ℕ, zero, suc, ◌+◌, ◌-◌, ◌*◌, ◌/◌, ◌%◌, ◌^◌, ◌≤◌, ◌<◌, min}
use mathlib.Core.Path.{◌≡◌, refl, sym, ap, ap₂, ◌∙◌}
use mathlib.Core.Bool.{Bool, true, false, ◌&&◌, ◌||◌, or-false}
use mathlib.Core.List.{List, [], ◌∷◌}
use mathlib.Core.Logic.{⊎_elim}
use native.Mathlib.Omega.{arith}
use lib.Bits.{bit_and, bit_or, or_lt, and_lt}
use lib.Dec.{ltb}
use lib.Pow.{pow_pos}
use Rattle.bits.specs.Bits.{list, has, word, words}
use Rattle.bits.proofs.TestLaws.{lt_or_le}
use Rattle.bits.proofs.BitLaws.{has_and, has_or, has_zero, has_high, has_shr, has_word, is_word, word_lt}
use Rattle.words.proofs.ShiftLaws.{moved_low, moved_high, masked_word}
use Rattle.grid_sets.specs.Sets.{sets_of}

-- ---- bits out of two words

-- by 1 and then by 63 - a, so 64 - a in all, also where a is 0
module _ (x a i : ℕ) (l : i < 64) (h : a < 64) where
  abbrev moved : ℕ
  moved = x * 2 ^ 1 % 2 ^ 64 * 2 ^ (63 - a) % 2 ^ 64

  twice_low : a + i < 64 → has moved i ≡ false
  twice_low k =
      ⊎_elim (λ q. moved_low (x * 2 ^ 1 % 2 ^ 64) (63 - a) i q l)
      (λ q. let e : i - (63 - a) ≡ 0 = omega arith in moved_high (x * 2 ^ 1 % 2 ^ 64) (63 - a) i q l ∙ ap (has (x * 2 ^ 1 % 2 ^ 64)) e ∙ moved_low x 1 0 (omega arith) (omega arith))
      (lt_or_le i (63 - a))

  twice_high : 64 ≤ a + i → has moved i ≡ has x (a + i - 64)
  twice_high k =
      let e : i - (63 - a) - 1 ≡ a + i - 64 = omega arith in
      moved_high (x * 2 ^ 1 % 2 ^ 64) (63 - a) i (omega arith) l ∙ moved_high x 1 (i - (63 - a)) (omega arith) (omega arith) ∙ ap (has x) e

module _ (n first second at : ℕ) (f : ℕ → Bool) (few : n ≤ 64) (e : first ≡ word 64 f) (g : second ≡ word 64 (λ i. f (64 + i))) (mask : ℕ) (m : mask ≡ word (min n 64) (λ _. true)) where
  in_second : (i : ℕ) → i < 64 → has second i ≡ f (64 + i)
  in_second i l = ap (λ y. has y i) g ∙ has_word 64 (λ i. f (64 + i)) i l

  pub cut_second : at ≡ 64 → bit_and mask second ≡ word n (λ i. f (at + i))
  cut_second z = masked_word n mask second few m (λ i. f (at + i)) (λ i l. in_second i (omega arith) ∙ ap (λ y. f (y + i)) (sym z))

  pub cut_both : at < 64 → bit_and mask (bit_or (first / 2 ^ at) (second * 2 ^ 1 % 2 ^ 64 * 2 ^ (63 - at) % 2 ^ 64)) ≡ word n (λ i. f (at + i))
  cut_both z =
      masked_word n mask (bit_or (first / 2 ^ at) (second * 2 ^ 1 % 2 ^ 64 * 2 ^ (63 - at) % 2 ^ 64)) few m (λ i. f (at + i)) (λ i l.
      let near : i < 64 = omega arith in
      has_or (first / 2 ^ at) (moved second at i near z) i
      ∙ ⊎_elim
      (λ q. ap₂ ◌||◌ (has_shr first at i ∙ ap (λ y. has y (at + i)) e ∙ has_word 64 f (at + i) q) (twice_low second at i near z q) ∙ or-false (f (at + i)))
      (λ q. let there : 64 + (at + i - 64) ≡ at + i = omega arith in
      ap₂ ◌||◌ (has_shr first at i ∙ ap (λ y. has y (at + i)) e ∙ has_high 64 (word 64 f) (at + i) (word_lt 64 f) q) (twice_high second at i near z q ∙ in_second (at + i - 64) (omega arith) ∙ ap f there))
      (lt_or_le (at + i) 64))

-- ---- sets

-- which numbers a number below 8 is above, by its three bits
record Above (x : ℕ) : Type 0 where
  s0 : (has x 0 || has x 1) || has x 2 ≡ ltb 0 x
  s1 : has x 1 || has x 2 ≡ ltb 1 x
  s2 : (has x 0 && has x 1) || has x 2 ≡ ltb 2 x
  s3 : has x 2 ≡ ltb 3 x
  s4 : (has x 0 || has x 1) && has x 2 ≡ ltb 4 x
  s5 : has x 1 && has x 2 ≡ ltb 5 x
  s6 : (has x 0 && has x 1) && has x 2 ≡ ltb 6 x
  s7 : false ≡ ltb 7 x

above_eight : (x : ℕ) → x < 8 → Above x
unfolding has
above_eight zero h = record { s0 = refl; s1 = refl; s2 = refl; s3 = refl; s4 = refl; s5 = refl; s6 = refl; s7 = refl }
above_eight (suc zero) h = record { s0 = refl; s1 = refl; s2 = refl; s3 = refl; s4 = refl; s5 = refl; s6 = refl; s7 = refl }
above_eight (suc (suc zero)) h = record { s0 = refl; s1 = refl; s2 = refl; s3 = refl; s4 = refl; s5 = refl; s6 = refl; s7 = refl }
above_eight (suc (suc (suc zero))) h = record { s0 = refl; s1 = refl; s2 = refl; s3 = refl; s4 = refl; s5 = refl; s6 = refl; s7 = refl }
above_eight (suc (suc (suc (suc zero)))) h = record { s0 = refl; s1 = refl; s2 = refl; s3 = refl; s4 = refl; s5 = refl; s6 = refl; s7 = refl }
above_eight (suc (suc (suc (suc (suc zero))))) h = record { s0 = refl; s1 = refl; s2 = refl; s3 = refl; s4 = refl; s5 = refl; s6 = refl; s7 = refl }
above_eight (suc (suc (suc (suc (suc (suc zero)))))) h = record { s0 = refl; s1 = refl; s2 = refl; s3 = refl; s4 = refl; s5 = refl; s6 = refl; s7 = refl }
above_eight (suc (suc (suc (suc (suc (suc (suc zero))))))) h = record { s0 = refl; s1 = refl; s2 = refl; s3 = refl; s4 = refl; s5 = refl; s6 = refl; s7 = refl }
above_eight (suc (suc (suc (suc (suc (suc (suc (suc x)))))))) h = absurd (omega arith)

module _ (n : ℕ) (f : ℕ → ℕ) (few : (t : ℕ) → f t < 8) (low high top : ℕ) (el : low ≡ word n (λ i. has (f i) 0)) (eh : high ≡ word n (λ i. has (f i) 1)) (et : top ≡ word n (λ i. has (f i) 2)) where
  abbrev over : ℕ → ℕ → Bool
  over s i = ltb s (f i)

  at_line : (i : ℕ) → Above (f i)
  at_line i = above_eight (f i) (few i)

  plane_has : (q x i : ℕ) → x ≡ word n (λ i. has (f i) q) → i < n → has x i ≡ has (f i) q
  plane_has q x i e l = ap (λ y. has y i) e ∙ has_word n (λ i. has (f i) q) i l

  plane_lt : (q x : ℕ) → x ≡ word n (λ i. has (f i) q) → x < 2 ^ n
  plane_lt q x e = rw e (word_lt n (λ i. has (f i) q))

  some_has : (i : ℕ) → i < n → has (bit_or low high) i ≡ has (f i) 0 || has (f i) 1
  some_has i l = has_or low high i ∙ ap₂ ◌||◌ (plane_has 0 low i el l) (plane_has 1 high i eh l)

  both_has : (i : ℕ) → i < n → has (bit_and low high) i ≡ has (f i) 0 && has (f i) 1
  both_has i l = has_and low high i ∙ ap₂ ◌&&◌ (plane_has 0 low i el l) (plane_has 1 high i eh l)

  -- a word of the lower bits joined with the third ones, or met with them
  with_top : (x s : ℕ) (g : ℕ → Bool) → x < 2 ^ n → ((i : ℕ) → i < n → has x i ≡ g i) → ((i : ℕ) → g i || has (f i) 2 ≡ over s i) → bit_or x top ≡ word n (over s)
  with_top x s g h e a = is_word n (bit_or x top) (over s) (or_lt n x top h (plane_lt 2 top et)) (λ i l. has_or x top i ∙ ap₂ ◌||◌ (e i l) (plane_has 2 top i et l) ∙ a i)

  in_top : (x s : ℕ) (g : ℕ → Bool) → x < 2 ^ n → ((i : ℕ) → i < n → has x i ≡ g i) → ((i : ℕ) → g i && has (f i) 2 ≡ over s i) → bit_and x top ≡ word n (over s)
  in_top x s g h e a = is_word n (bit_and x top) (over s) (and_lt n x top h (plane_lt 2 top et)) (λ i l. has_and x top i ∙ ap₂ ◌&&◌ (e i l) (plane_has 2 top i et l) ∙ a i)

  pub thresholds_are : ◌≡◌ {A = List ℕ} (bit_or (bit_or low high) top ∷ (bit_or high top ∷ (bit_or (bit_and low high) top ∷ (top ∷
      (bit_and (bit_or low high) top ∷ (bit_and high top ∷ (bit_and (bit_and low high) top ∷ (0 ∷ [])))))))) (sets_of n f)
  unfolding sets_of words list
  thresholds_are =
      let small = plane_lt 1 high eh in
      let some = or_lt n low high (plane_lt 0 low el) small in
      let both = and_lt n low high (plane_lt 0 low el) small in
      let upper = λ (i : ℕ) (l : i < n). plane_has 1 high i eh l in
      let e0 = with_top (bit_or low high) 0 _ some some_has (λ i. (at_line i).s0) in
      let e1 = with_top high 1 _ small upper (λ i. (at_line i).s1) in
      let e2 = with_top (bit_and low high) 2 _ both both_has (λ i. (at_line i).s2) in
      let e3 = is_word n top (over 3) (plane_lt 2 top et) (λ i l. plane_has 2 top i et l ∙ (at_line i).s3) in
      let e4 = in_top (bit_or low high) 4 _ some some_has (λ i. (at_line i).s4) in
      let e5 = in_top high 5 _ small upper (λ i. (at_line i).s5) in
      let e6 = in_top (bit_and low high) 6 _ both both_has (λ i. (at_line i).s6) in
      let e7 = is_word n 0 (over 7) (pow_pos n) (λ i _. has_zero i ∙ (at_line i).s7) in
      λ t. e0 t ∷ (e1 t ∷ (e2 t ∷ (e3 t ∷ (e4 t ∷ (e5 t ∷ (e6 t ∷ (e7 t ∷ [])))))))
