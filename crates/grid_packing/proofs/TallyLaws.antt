-- Laws of counting the levels that took a line, plane by plane. Assumes nothing.
use Prim.Native.Nat.{ℕ, ◌+◌, ◌/◌, ◌%◌, ◌^◌, ◌≤◌, ◌<◌, min}
use mathlib.Core.Path.{◌≡◌, sym, ap, ap₂, ◌∙◌}
use mathlib.Core.Bool.{Bool, true, false, xor, ◌&&◌, and-true, and-false}
use mathlib.Core.List.{List, ◌++◌}
use native.Mathlib.Omega.{arith}
use native.Mathlib.Numerals.{add-one}
use lib.Bits.{bit_and, bit_xor, and_lt, xor_lt}
use lib.Dec.{eqb}
use lib.ListN.{length, get_or, take}
use lib.Pow.{pow_pos}
use Rattle.std.proofs.lemmas.List.{get_or-take, length-take-le}
use Rattle.bits.specs.Bits.{num, sum, has, word}
use Rattle.bits.proofs.TestLaws.{num_eqb}
use Rattle.bits.proofs.BoundLaws.{list_ext, sum_ext}
use Rattle.bits.proofs.BitLaws.{has_and, has_xor, has_zero, has_shr, word_lt, is_word}
use Rattle.grid_sets.specs.Sets.{times}
use Rattle.grid_sets.specs.declared.Threes.{Threes}
use Rattle.grid_sets.specs.Planes.{AreThrees}
use Rattle.grid_packing.specs.Steps.{counts_of}
use Rattle.words.proofs.StoreLaws.{bits_of}
use Rattle.words.proofs.ShiftLaws.{masked_word}

-- ---- one more

bit_sum : (a b : Bool) (x : ℕ) → x ≡ (num a + num b) % 2 → eqb x 1 ≡ xor a b
unfolding xor
bit_sum true true x e = rw e
bit_sum true false x e = rw e
bit_sum false true x e = rw e
bit_sum false false x e = rw e

-- the lowest bits of a number to which a bit is added
module _ (x : ℕ) where
  low_bit : num (has x 0) ≡ x % 2
  unfolding has
  low_bit = num_eqb (x / 2 ^ 0 % 2) (omega arith) ∙ omega arith

  added_low : (b : Bool) → has (num b + x) 0 ≡ xor (has x 0) b
  unfolding has
  added_low b = bit_sum (has x 0) b ((num b + x) / 2 ^ 0 % 2) (omega (arith, low_bit))

  -- what is carried is added to the half
  half_added : (b : Bool) → (num b + x) / 2 ≡ num (has x 0 && b) + x / 2
  half_added true = omega (arith, low_bit, ap num (and-true (has x 0)))
  half_added false = omega (arith, ap num (and-false (has x 0)))

  -- and the higher bits are the half's
  added_next : (b : Bool) (q : ℕ) → has (num b + x) (1 + q) ≡ has (num (has x 0 && b) + x / 2) q
  added_next b q = sym (has_shr (num b + x) 1 q) ∙ ap (λ y. has y q) (half_added b)

added_high : (x : ℕ) (b : Bool) → has (num b + x) 1 ≡ xor (has x 1) (has x 0 && b)
added_high x b = added_next x b 0 ∙ added_low (x / 2) (has x 0 && b) ∙ ap (λ t. xor t (has x 0 && b)) (has_shr x 1 0)

-- how large a plane is
few_plane : (q x : ℕ) (f : ℕ → ℕ) → x ≡ word 64 (λ i. has (f i) q) → x < 2 ^ 64
few_plane q x f e = rw e (word_lt 64 _)

added_top : (x : ℕ) (b : Bool) → has (num b + x) 2 ≡ xor (has x 2) (has x 1 && (has x 0 && b))
added_top x b = added_next x b 1 ∙ added_high (x / 2) (has x 0 && b) ∙ ap₂ (λ t u. xor t (u && (has x 0 && b))) (has_shr x 1 1) (has_shr x 1 0)

-- one set more
module _ (f : ℕ → ℕ) (p : Threes) (s : ℕ) (h : s < 2 ^ 64) (b : AreThrees 64 f p) where
  abbrev low : ℕ
  low = p.planes.low

  abbrev high : ℕ
  high = p.planes.high

  low_few : low < 2 ^ 64
  low_few = few_plane 0 low f b.bits.lower

  high_few : high < 2 ^ 64
  high_few = few_plane 1 high f b.bits.higher

  -- what the lowest bits carry
  carried : (i : ℕ) → i < 64 → has (bit_and low s) i ≡ (has (f i) 0 && has s i)
  carried i l = has_and low s i ∙ ap (λ t. t && has s i) (bits_of low _ b.bits.lower i l)

  pub one_more_lem : AreThrees 64 (λ i. num (has s i) + f i)
      (record { planes = record { low = bit_xor low s; high = bit_xor high (bit_and low s) }; top = bit_xor p.top (bit_and high (bit_and low s)) })
  one_more_lem = record {
    bits = record {
      lower = is_word 64 (bit_xor low s) _ (xor_lt 64 low s low_few h)
          (λ i l. has_xor low s i ∙ ap (λ t. xor t (has s i)) (bits_of low _ b.bits.lower i l) ∙ sym (added_low (f i) (has s i)));
      higher = is_word 64 (bit_xor high (bit_and low s)) _ (xor_lt 64 high (bit_and low s) high_few (and_lt 64 low s low_few h))
          (λ i l. has_xor high (bit_and low s) i ∙ ap₂ xor (bits_of high _ b.bits.higher i l) (carried i l) ∙ sym (added_high (f i) (has s i)));
    };
    third = is_word 64 (bit_xor p.top (bit_and high (bit_and low s))) _
        (xor_lt 64 p.top (bit_and high (bit_and low s)) (few_plane 2 p.top f b.third) (and_lt 64 high (bit_and low s) high_few (and_lt 64 low s low_few h)))
        (λ i l. has_xor p.top (bit_and high (bit_and low s)) i
        ∙ ap₂ xor (bits_of p.top _ b.third i l) (has_and high (bit_and low s) i ∙ ap₂ ◌&&◌ (bits_of high _ b.bits.higher i l) (carried i l))
        ∙ sym (added_top (f i) (has s i)));
  }

-- ---- all of them

pub times_none : (sets : List ℕ) → AreThrees 64 (times sets 0) (record { planes = record { low = 0; high = 0 }; top = 0 })
unfolding times sum
times_none sets = record { bits = record { lower = none 0; higher = none 1 }; third = none 2 }
  where
    none : (q : ℕ) → 0 ≡ word 64 (λ _. has 0 q)
    none q = is_word 64 0 (λ _. has 0 q) (pow_pos 64) (λ i _. has_zero i ∙ sym (has_zero q))

pub times_step : (sets : List ℕ) (m : ℕ) (p : Threes) → AreThrees 64 (λ i. num (has (get_or sets m 0) i) + times sets m i) p → AreThrees 64 (times sets (m + 1)) p
unfolding times sum
times_step sets m p b = rw add-one b

-- without the lines past the last
pub masked_planes : (n mask : ℕ) (f : ℕ → ℕ) (p : Threes) → n ≤ 64 → mask ≡ word (min n 64) (λ _. true) → AreThrees 64 f p
    → AreThrees n f (record { planes = record { low = bit_and mask p.planes.low; high = bit_and mask p.planes.high }; top = bit_and mask p.top })
masked_planes n mask f p few m b = record { bits = record { lower = masked 0 p.planes.low b.bits.lower; higher = masked 1 p.planes.high b.bits.higher }; third = masked 2 p.top b.third }
  where
    masked : (q x : ℕ) → x ≡ word 64 (λ i. has (f i) q) → bit_and mask x ≡ word n (λ i. has (f i) q)
    masked q x e = masked_word n mask x few m (λ i. has (f i) q) (λ i l. bits_of x _ e i (omega arith))

-- ---- of the first sets

module _ (u : ℕ) where
  taken : (sets : List ℕ) → u ≤ length sets → (i : ℕ) → times (take u sets) u i ≡ times sets u i
  unfolding times
  taken sets l i = sum_ext u _ _ (λ s h. ap (λ x. num (has x i)) (get_or-take u sets s 0 h))

  pub taken_counts : (m n : ℕ) (rows columns : List ℕ) → u ≤ length rows → u ≤ length columns → counts_of m n (length (take u rows)) (take u rows) (take u columns) ≡ counts_of m n u rows columns
  taken_counts m n rows columns l k =
      rw (length-take-le u rows l) (ap₂ ◌++◌ (list_ext m _ _ (λ i _. taken rows l i)) (list_ext n _ _ (λ i _. taken columns k i)))
