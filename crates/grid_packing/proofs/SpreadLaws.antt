-- Laws of bits that are spread: the lowest bits of a word at every second or every third place, by steps of which each undoes a fold of `GatherLaws`, in
-- `grid_counters`. Assumes nothing.
use Prim.Native.Nat.{ℕ, zero, suc, ◌+◌, ◌-◌, ◌*◌, ◌/◌, ◌%◌, ◌^◌, ◌≤◌, ◌<◌}
use mathlib.Core.Path.{◌≡◌, refl, sym, ap, ap₂, ◌∙◌}
use mathlib.Core.Bool.{Bool, false, ◌&&◌, ◌||◌, or-false}
use mathlib.Core.Logic.{⊎_elim}
use native.Mathlib.Nat.{lt_of_le_of_lt, mod-lt, div-add-mod, div-eq_of_lt, mod-eq_of_lt, mul_assoc, mul_comm, suc-mul, zero-mul}
use native.Mathlib.Omega.{arith}
use borrow.Author.Tests.{lt-ltb, le-ltb}
use lib.Bits.{bit_and, bit_or, and_le_l}
use lib.Dec.{ltb, lit<, lit≤}
use Rattle.bits.specs.Bits.{has, word}
use Rattle.bits.proofs.TestLaws.{lt_or_le}
use Rattle.bits.proofs.BitLaws.{has_and, has_or, is_word}
use Rattle.grid_packing.specs.Steps.{spaced}
use Rattle.words.proofs.ShiftLaws.{moved_low, moved_high}
use Rattle.words.proofs.GroupLaws.{Grouped, mask_bit, part}

-- groups of 2 g at every 2 d places become groups of g at every d places: the upper half of each moves up by d - g
module _ (n d g m x : ℕ) (f : ℕ → Bool) (short : n ≤ 64) (some : 0 < d) (wide : 2 * g ≤ d) (mask : m ≡ word n (λ p. ltb (p % d) g)) (k : Grouped n (2 * d) (2 * g) f x) where
  -- at place p, which is the place a of pair t of the groups to be
  module _ (p t a : ℕ) (l : p < n) (low : a < 2 * d) (split : p ≡ t * (2 * d) + a) where
    abbrev up : ℕ
    up = x * 2 ^ (d - g) % 2 ^ 64

    abbrev Goal : Type 0
    Goal = (ltb (p % d) g && (has x p || has up p)) ≡ (ltb (p % d) g && f (p / d * g + p % d))

    twice : t * (2 * d) ≡ 2 * t * d
    twice = sym (mul_assoc t 2 d) ∙ ap (λ y. y * d) (mul_comm t 2)

    doubled : t * (2 * g) ≡ 2 * t * g
    doubled = sym (mul_assoc t 2 g) ∙ ap (λ y. y * g) (mul_comm t 2)

    -- a bit of x, by its place in a group
    bit : (q u b : ℕ) → q < n → b < 2 * d → q ≡ u * (2 * d) + b → has x q ≡ (ltb b (2 * g) && f (u * (2 * g) + b))
    bit q u b h r e = let (y, z) = part (2 * d) q u b r e in k q h ∙ rw (y, z)

    none : (q u b : ℕ) → q < n → b < 2 * d → q ≡ u * (2 * d) + b → 2 * g ≤ b → has x q ≡ false
    none q u b h r e o = bit q u b h r e ∙ ap (λ y. y && f (u * (2 * g) + b)) (le-ltb b (2 * g) o)

    found : (q u b : ℕ) → q < n → b < 2 * d → q ≡ u * (2 * d) + b → b < 2 * g → has x q ≡ f (u * (2 * g) + b)
    found q u b h r e o = bit q u b h r e ∙ ap (λ y. y && f (u * (2 * g) + b)) (lt-ltb b (2 * g) o)

    out : g ≤ p % d → Goal
    out h = rw (le-ltb (p % d) g h)

    -- in a lower half: it is where it was, and nothing is moved there
    stays : a < g → Goal
    stays h =
        let (y, z) = part d p (2 * t) a (omega arith) (omega (arith, split, twice)) in
        ap₂ (λ u v. ltb (p % d) g && (u || v)) (found p t a l low split (omega arith)) (⊎_elim (λ q. moved_low x (d - g) p q (omega arith)) above (lt_or_le p (d - g)))
        ∙ ap (λ u. ltb (p % d) g && u) (or-false (f (t * (2 * g) + a)) ∙ ap f (rw (y, z) (omega (arith, doubled))))
      where
        before : (u : ℕ) → p ≡ u * (2 * d) + a → d - g ≤ p → has x (p - (d - g)) ≡ false
        before zero e q = absurd (omega (arith, zero-mul (2 * d)))
        before (suc u) e q = none (p - (d - g)) u (d + g + a) (omega arith) (omega arith) (omega (arith, suc-mul u (2 * d))) (omega arith)

        above : d - g ≤ p → has up p ≡ false
        above q = moved_high x (d - g) p q (omega arith) ∙ before t split q

    -- in an upper half: it is moved there, and nothing was there
    moves : d ≤ a → a < d + g → Goal
    moves h o =
        let (y, z) = part d p (suc (2 * t)) (a - d) (omega arith) (omega (arith, split, twice, suc-mul (2 * t) d)) in
        ap₂ (λ u v. ltb (p % d) g && (u || v)) (none p t a l low split (omega arith))
        (moved_high x (d - g) p (omega (arith, split)) (omega arith) ∙ found (p - (d - g)) t (a - (d - g)) (omega arith) (omega arith) (omega (arith, split)) (omega arith))
        ∙ ap (λ u. ltb (p % d) g && f u) (rw (y, z) (omega (arith, doubled, suc-mul (2 * t) g)))

    -- between the groups
    between : g ≤ a → (d ≤ a → d + g ≤ a) → Goal
    between h o =
        ⊎_elim (λ q. out (rw (part d p (2 * t) a q (omega (arith, split, twice))).1 h))
        (λ q. out (rw (part d p (suc (2 * t)) (a - d) (omega arith) (omega (arith, split, twice, suc-mul (2 * t) d))).1 (omega (arith, o q)))) (lt_or_le a d)

    at_place : Goal
    at_place =
        ⊎_elim stays (λ h. ⊎_elim (λ q. between h (λ r. absurd (omega arith)))
        (λ q. ⊎_elim (moves q) (λ r. between h (λ _. r)) (lt_or_le a (d + g))) (lt_or_le a d)) (lt_or_le a g)

  spread : Grouped n d g f (bit_and m (bit_or x (x * 2 ^ (d - g) % 2 ^ 64)))
  spread p l =
      let whole = div-add-mod p (2 * d) in
      has_and m (bit_or x (x * 2 ^ (d - g) % 2 ^ 64)) p
      ∙ ap₂ ◌&&◌ (mask_bit n d g m mask p l) (has_or x (x * 2 ^ (d - g) % 2 ^ 64) p)
      ∙ at_place p (p / (2 * d)) (p % (2 * d)) l (mod-lt p (omega arith)) (omega (arith, mul_comm (2 * d) (p / (2 * d))))

-- the h lowest of n bits are one group
one_group : (n h m v : ℕ) → m ≡ word n (λ p. ltb (p % n) h) → Grouped n n h (has v) (bit_and m v)
one_group n h m v mask p l =
    let e : p / n * h + p % n ≡ p = rw (div-eq_of_lt l, mod-eq_of_lt l, zero-mul h) (omega arith) in
    has_and m v p ∙ ap₂ ◌&&◌ (mask_bit n n h m mask p l) (ap (has v) (sym e))

-- groups of 1 at every d places are the bits with 0 between
single_bits : (n d v x : ℕ) → x < 2 ^ n → Grouped n d 1 (has v) x → x ≡ word n (spaced d v)
single_bits n d v x h k =
    is_word n x (spaced d v) h
    (λ p l. k p l ∙ ⊎_elim (λ q. let e : p / d * 1 + p % d ≡ p / d = omega arith in ap (λ y. ltb (p % d) 1 && has v y) e) (λ q. rw (le-ltb (p % d) 1 q)) (lt_or_le (p % d) 1))

-- a step of the code: x and x moved up by e, as far as the mask m lets them through
abbrev step : ℕ → ℕ → ℕ → ℕ
step m e x = bit_and m (bit_or x (x * 2 ^ e % 2 ^ 64))

-- ---- 32 bits at the even places of 64: groups of 16, 8, 4, 2 and 1 bits

abbrev spread_out : ℕ → ℕ
spread_out a = step 6148914691236517205 1 (step 3689348814741910323 2 (step 1085102592571150095 4 (step 71777214294589695 8 (step 281470681808895 16 a))))

pub apart_are : (v : ℕ) → spread_out (bit_and 4294967295 v) ≡ word 64 (spaced 2 v)
unfolding word
apart_are v =
    let short = lit≤ tt in
    single_bits 64 2 v (spread_out (bit_and 4294967295 v)) (lt_of_le_of_lt (and_le_l 6148914691236517205 _) (lit< tt))
    (spread 64 2 1 6148914691236517205 _ (has v) short (lit< tt) (lit≤ tt) refl (spread 64 4 2 3689348814741910323 _ (has v) short (lit< tt) (lit≤ tt) refl
    (spread 64 8 4 1085102592571150095 _ (has v) short (lit< tt) (lit≤ tt) refl (spread 64 16 8 71777214294589695 _ (has v) short (lit< tt) (lit≤ tt) refl
    (spread 64 32 16 281470681808895 _ (has v) short (lit< tt) (lit≤ tt) refl (one_group 64 32 4294967295 v refl))))))

pub none_apart : (v : ℕ) → bit_and 4294967295 v ≡ 0 → 0 ≡ word 64 (spaced 2 v)
none_apart v e = sym (ap spread_out e) ∙ apart_are v

-- ---- 16 bits at every third place of 48: groups of 8, 4, 2 and 1 bits

abbrev spread_by_three : ℕ → ℕ
spread_by_three a = step 40210710958665 2 (step 13403570319555 4 (step 1031043870735 8 (step 4278190335 16 a)))

pub thirds_apart : (v : ℕ) → spread_by_three (bit_and 65535 v) ≡ word 48 (spaced 3 v)
unfolding word
thirds_apart v =
    let short = lit≤ tt in
    single_bits 48 3 v (spread_by_three (bit_and 65535 v)) (lt_of_le_of_lt (and_le_l 40210710958665 _) (lit< tt))
    (spread 48 3 1 40210710958665 _ (has v) short (lit< tt) (lit≤ tt) refl (spread 48 6 2 13403570319555 _ (has v) short (lit< tt) (lit≤ tt) refl
    (spread 48 12 4 1031043870735 _ (has v) short (lit< tt) (lit≤ tt) refl (spread 48 24 8 4278190335 _ (has v) short (lit< tt) (lit≤ tt) refl
    (one_group 48 16 65535 v refl)))))

pub no_thirds_apart : (v : ℕ) → bit_and 65535 v ≡ 0 → 0 ≡ word 48 (spaced 3 v)
no_thirds_apart v e = sym (ap spread_by_three e) ∙ thirds_apart v
