-- Laws of bits that are gathered: the bits at every second or every third place of a word, side by side, by folding it. Assumes nothing.
use Prim.Native.Nat.{ℕ, zero, suc, ◌+◌, ◌-◌, ◌*◌, ◌/◌, ◌%◌, ◌^◌, ◌≤◌, ◌<◌}
use mathlib.Core.Path.{◌≡◌, refl, sym, ap, ap₂, ◌∙◌}
use mathlib.Core.Bool.{Bool, ◌&&◌, ◌||◌, or-false}
use mathlib.Core.Logic.{◌⊎◌, inl, inr, ⊎_elim}
use native.Mathlib.Nat.{lt_of_le_of_lt, div-add-mod, div-eq_of_lt, mod-eq_of_lt, div-lt_iff_lt-mul, mul_assoc, mul_comm, mul-le-mul_right, suc-mul, mul-zero, zero-mul}
use native.Mathlib.Omega.{arith}
use borrow.Author.Tests.{lt-ltb, le-ltb}
use lib.Bits.{bit_and, bit_or, and_le_l}
use lib.Dec.{ltb, lit<, lit≤}
use Rattle.bits.specs.Bits.{has, word}
use Rattle.bits.proofs.TestLaws.{lt_or_le}
use Rattle.bits.proofs.BitLaws.{has_and, has_or, has_shr, has_zero, is_word}
use Rattle.words.proofs.GroupLaws.{Grouped, mask_bit, part}

-- place p, when groups of g at every d places are laid two and two together, groups of h at every b places, by a move of e places down:
-- it is in no group; or it is in a lower half, where it was; or in an upper half, to which it is moved
record Stays (n d g e b h p : ℕ) : Type 0 where
  inside : p % b < h
  here : p % d < g
  near : e + p < n
  none : g ≤ (e + p) % d
  same : p / d * g + p % d ≡ p / b * h + p % b

record Moves (n d g e b h p : ℕ) : Type 0 where
  inside : p % b < h
  none : g ≤ p % d
  near : e + p < n
  there : (e + p) % d < g
  same : (e + p) / d * g + (e + p) % d ≡ p / b * h + p % b

abbrev Places : ℕ → ℕ → ℕ → ℕ → ℕ → ℕ → Type 0
Places n d g e b h = (p : ℕ) → p < n → (h ≤ p % b) ⊎ (Stays n d g e b h p ⊎ Moves n d g e b h p)

module _ (n d g e b h m x : ℕ) (f : ℕ → Bool) (places : Places n d g e b h) (mask : m ≡ word n (λ p. ltb (p % b) h)) where
  fold : Grouped n d g f x → Grouped n b h f (bit_and m (bit_or x (x / 2 ^ e)))
  fold k p l =
      has_and m (bit_or x (x / 2 ^ e)) p
      ∙ ap₂ ◌&&◌ (mask_bit n b h m mask p l) (has_or x (x / 2 ^ e) p ∙ ap (λ t. has x p || t) (has_shr x e p))
      ∙ ⊎_elim out (⊎_elim stays moves) (places p l)
    where
      out : h ≤ p % b → ltb (p % b) h && (has x p || has x (e + p)) ≡ ltb (p % b) h && f (p / b * h + p % b)
      out q = rw (le-ltb (p % b) h q)

      stays : Stays n d g e b h p → ltb (p % b) h && (has x p || has x (e + p)) ≡ ltb (p % b) h && f (p / b * h + p % b)
      stays s =
          ap (λ t. ltb (p % b) h && t)
          (ap₂ ◌||◌ (k p l ∙ ap (λ t. t && f (p / d * g + p % d)) (lt-ltb (p % d) g s.here))
          (k (e + p) s.near ∙ ap (λ t. t && f ((e + p) / d * g + (e + p) % d)) (le-ltb ((e + p) % d) g s.none))
          ∙ or-false (f (p / d * g + p % d)) ∙ ap f s.same)

      moves : Moves n d g e b h p → ltb (p % b) h && (has x p || has x (e + p)) ≡ ltb (p % b) h && f (p / b * h + p % b)
      moves s =
          ap (λ t. ltb (p % b) h && t)
          (ap₂ ◌||◌ (k p l ∙ ap (λ t. t && f (p / d * g + p % d)) (le-ltb (p % d) g s.none))
          (k (e + p) s.near ∙ ap (λ t. t && f ((e + p) / d * g + (e + p) % d)) (lt-ltb ((e + p) % d) g s.there))
          ∙ ap f s.same)

-- the bits at every d places: groups of 1
every : (n d m v : ℕ) → m ≡ word n (λ p. ltb (p % d) 1) → Grouped n d 1 (λ i. has v (d * i)) (bit_and m v)
every n d m v mask p l =
    has_and m v p ∙ ap (λ t. t && has v p) (mask_bit n d 1 m mask p l)
    ∙ ⊎_elim (λ h. ap (λ q. ltb (p % d) 1 && has v q) (sym (ap (λ t. d * t) (place h) ∙ sym (whole h)))) (λ h. rw (le-ltb (p % d) 1 h)) (lt_or_le (p % d) 1)
  where
    place : p % d < 1 → p / d * 1 + p % d ≡ p / d
    place h = omega arith

    whole : p % d < 1 → p ≡ d * (p / d)
    whole h = omega (arith, div-add-mod p d)

-- groups of g at every d places can be laid two and two together, where that many of them fill a word
module _ (n d g u p : ℕ) (wide : 2 * g ≤ d) (whole : u * (2 * d) ≡ n) (l : p < n) where
  abbrev t : ℕ
  t = p / (2 * d)

  abbrev a : ℕ
  a = p % (2 * d)

  split : p ≡ 2 * t * d + a
  split = let e = div-add-mod p (2 * d) in let f : 2 * d * t ≡ 2 * t * d = mul_assoc 2 d t ∙ ap (λ x. 2 * x) (mul_comm d t) ∙ sym (mul_assoc 2 t d) in omega arith

  doubled : 2 * t * g ≡ t * (2 * g)
  doubled = ap (λ x. x * g) (mul_comm 2 t) ∙ mul_assoc t 2 g

  -- the last group ends with the word
  ends : 2 * t * d + 2 * d ≤ n
  ends =
      let less : t < u = (div-lt_iff_lt-mul (positive (2 * d) u whole)).1 (rw whole l) in
      let f : t * (2 * d) ≡ 2 * t * d = sym (mul_assoc t 2 d) ∙ ap (λ x. x * d) (mul_comm t 2) in
      omega (arith, mul-le-mul_right (2 * d) less, suc-mul t (2 * d))
    where
      positive : (x u : ℕ) → u * x ≡ n → 0 < x
      positive zero u e = absurd (omega (arith, mul-zero u))
      positive (suc x) u e = omega arith

  laid : (2 * g ≤ a) ⊎ (Stays n d g (d - g) (2 * d) (2 * g) p ⊎ Moves n d g (d - g) (2 * d) (2 * g) p)
  laid = ⊎_elim (λ low. inr (⊎_elim (λ q. inl (stay q)) (λ q. inr (move low q)) (lt_or_le a g))) inl (lt_or_le a (2 * g))
    where
      stay : a < g → Stays n d g (d - g) (2 * d) (2 * g) p
      stay q =
          let (x, y) = part d p (2 * t) a (omega arith) split in
          let (v, w) = part d (d - g + p) (2 * t) (d - g + a) (omega arith) (omega (arith, split)) in
          record { inside = omega arith; here = omega arith; near = omega (arith, split, ends); none = omega arith; same = rw (x, y) (ap (λ z. z + a) doubled) }

      move : a < 2 * g → g ≤ a → Moves n d g (d - g) (2 * d) (2 * g) p
      move low q =
          let (x, y) = part d p (2 * t) a (omega arith) split in
          let (v, w) = part d (d - g + p) (suc (2 * t)) (a - g) (omega arith) (omega (arith, split, suc-mul (2 * t) d)) in
          record { inside = low; none = omega arith; near = omega (arith, split, ends); there = omega arith; same = rw (v, w) (omega (arith, doubled, suc-mul (2 * t) g)) }

-- so a fold of groups that fill the n bits, two and two
pub fold_two : (n d g u m x : ℕ) (f : ℕ → Bool) → 2 * g ≤ d → u * (2 * d) ≡ n → m ≡ word n (λ p. ltb (p % (2 * d)) (2 * g))
    → Grouped n d g f x → Grouped n (2 * d) (2 * g) f (bit_and m (bit_or x (x / 2 ^ (d - g))))
fold_two n d g u m x f wide whole mask = fold n d g (d - g) (2 * d) (2 * g) m x f (λ p l. laid n d g u p wide whole l) mask

-- one group is the bits side by side
pub gathered : (n h m x : ℕ) (f : ℕ → Bool) → h ≤ n → m < 2 ^ h → Grouped n n h f (bit_and m x) → bit_and m x ≡ word h f
gathered n h m x f few less k =
    is_word h (bit_and m x) f (lt_of_le_of_lt (and_le_l m x) less)
    (λ j l.
    let near : j < n = omega arith in
    let first : j / n * h + j % n ≡ j = rw (div-eq_of_lt near, mod-eq_of_lt near, zero-mul h) (omega arith) in
    k j near ∙ rw (mod-eq_of_lt near) (ap (λ t. t && f (j / n * h + j)) (lt-ltb j h l) ∙ ap f (sym (ap (λ z. j / n * h + z) (mod-eq_of_lt near)) ∙ first)))

-- a step of the code: x and x moved down by e, as far as the mask m lets them through
abbrev step : ℕ → ℕ → ℕ → ℕ
step m e x = bit_and m (bit_or x (x / 2 ^ e))

-- ---- every second bit of 64: groups of 1, 2, 4, 8, 16 and 32 bits

abbrev sixteens : ℕ → ℕ
sixteens v = step 281470681808895 8 (step 71777214294589695 4 (step 1085102592571150095 2 (step 3689348814741910323 1 (bit_and 6148914691236517205 v))))

pub seconds_are : (v : ℕ) → step 4294967295 16 (sixteens v) ≡ word 32 (λ i. has v (2 * i))
unfolding word
seconds_are v =
    let f : ℕ → Bool = λ i. has v (2 * i) in
    gathered 64 32 4294967295 _ f (lit≤ tt) (lit< tt)
    (fold_two 64 32 16 1 4294967295 _ f (lit≤ tt) refl refl (fold_two 64 16 8 2 281470681808895 _ f (lit≤ tt) refl refl
    (fold_two 64 8 4 4 71777214294589695 _ f (lit≤ tt) refl refl (fold_two 64 4 2 8 1085102592571150095 _ f (lit≤ tt) refl refl
    (fold_two 64 2 1 16 3689348814741910323 _ f (lit≤ tt) refl refl (every 64 2 6148914691236517205 v refl))))))

pub no_seconds : 0 ≡ word 32 (λ i. has 0 (2 * i))
no_seconds = is_word 32 0 (λ i. has 0 (2 * i)) (lit< tt) (λ j _. has_zero j ∙ sym (has_zero (2 * j)))

-- ---- every third bit of 48: groups of 1, 2, 4, 8 and 16 bits

-- from the bits that the first mask lets through
abbrev third : ℕ → ℕ
third a = step 65535 16 (step 4278190335 8 (step 1031043870735 4 (step 13403570319555 2 a)))

pub thirds_are : (v : ℕ) → third (bit_and 40210710958665 v) ≡ word 16 (λ i. has v (3 * i))
unfolding word
thirds_are v =
    let f : ℕ → Bool = λ i. has v (3 * i) in
    gathered 48 16 65535 _ f (lit≤ tt) (lit< tt)
    (fold_two 48 24 8 1 65535 _ f (lit≤ tt) refl refl (fold_two 48 12 4 2 4278190335 _ f (lit≤ tt) refl refl
    (fold_two 48 6 2 4 1031043870735 _ f (lit≤ tt) refl refl (fold_two 48 3 1 8 13403570319555 _ f (lit≤ tt) refl refl (every 48 3 40210710958665 v refl)))))

pub no_thirds : (v : ℕ) → bit_and 40210710958665 v ≡ 0 → 0 ≡ word 16 (λ i. has v (3 * i))
no_thirds v e = sym (ap third e) ∙ thirds_are v
