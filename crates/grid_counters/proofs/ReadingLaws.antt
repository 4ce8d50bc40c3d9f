-- Laws of the way from bytes to planes and from planes to sets. N is the number that bytes make. Assumes nothing.
use Prim.Native.Nat.{ℕ, ◌+◌, ◌*◌, ◌/◌, ◌%◌, ◌^◌, ◌≤◌, ◌<◌}
use mathlib.Core.Path.{◌≡◌, sym, ap, ◌∙◌}
use mathlib.Core.Bool.{Bool, false}
use mathlib.Core.List.{List}
use native.Mathlib.Nat.{div-one, mod-lt, mod-eq_of_lt}
use native.Mathlib.Omega.{arith}
use lib.Bits.{bit_or}
use lib.Dec.{lit<, lit≤}
use lib.ListN.{take, drop}
use lib.Pow.{pow_pos}
use Rattle.bits.specs.Bits.{number, has, word, Below, number_at}
use Rattle.bits.proofs.BitLaws.{has_zero, has_low, has_high, has_shr, is_word, word_ext}
use Rattle.words.proofs.LoadLaws.{bytes_small}
use Rattle.rdis.specs.Packing.{counter}
use Rattle.grid_sets.specs.Planes.{AreBits}
use Rattle.words.proofs.ShiftLaws.{joined}
use Rattle.grid_counters.proofs.WindowLaws.{window}

-- ---- eight bytes

-- they are the 64 bits from there on
loaded : (q : ℕ) (bs : List ℕ) → Below 256 bs → number_at bs q 8 ≡ number 256 bs / 2 ^ (8 * q) % 2 ^ 64
unfolding number_at
loaded q bs h =
    let here : 8 * q / 8 ≡ q = omega arith in
    let edge : 8 * q % 8 ≡ 0 = omega arith in
    let few : number 256 (take 8 (drop q bs)) < 2 ^ 64 = bytes_small q 8 bs h in
    sym (mod-eq_of_lt few) ∙ ap (λ x. x % 2 ^ 64) (sym (div-one (number 256 (take 8 (drop q bs))))) ∙ rw (here, edge) at (window 8 (8 * q) 64 8 bs h (omega arith))

-- bit j of them
bit_loaded : (q j : ℕ) (x : ℕ) → j < 64 → has (x / 2 ^ (8 * q) % 2 ^ 64) j ≡ has x (8 * q + j)
bit_loaded q j x l = has_low 64 (x / 2 ^ (8 * q)) j l ∙ has_shr x (8 * q) j

-- ---- planes

-- bit k of counter t
counter_bit : (w t k : ℕ) (bs : List ℕ) → k < w → has (counter w bs t) k ≡ has (number 256 bs) (w * t + k)
unfolding counter
counter_bit w t k bs h = has_low w (number 256 bs / 2 ^ (w * t)) k h ∙ has_shr (number 256 bs) (w * t) k

-- and past its w bits
no_bit : (w t k : ℕ) (bs : List ℕ) → w ≤ k → has (counter w bs t) k ≡ false
unfolding counter
no_bit w t k bs h = has_high w (number 256 bs / 2 ^ (w * t) % 2 ^ w) k (mod-lt _ (pow_pos w)) h

-- so a plane of counters that have no such bit is 0
pub no_plane : (w first k : ℕ) (bs : List ℕ) → w ≤ k → 0 ≡ word 64 (λ i. has (counter w bs (first + i)) k)
no_plane w first k bs h = is_word 64 0 _ (pow_pos 64) (λ i _. has_zero i ∙ sym (no_bit w (first + i) k bs h))

-- 32 bits and 32 bits, side by side
pub side_by_side : (x y : ℕ) (g h f : ℕ → Bool) → x ≡ word 32 g → y ≡ word 32 h → ((i : ℕ) → i < 32 → g i ≡ f i) → ((i : ℕ) → i < 32 → h i ≡ f (32 + i))
    → bit_or (y * 2 ^ 32 % 2 ^ 64) x ≡ word 64 f
side_by_side x y g h f ex ey eg eh = joined 32 32 x y f (lit< tt) (lit≤ tt) (ex ∙ word_ext 32 g f eg) (ey ∙ word_ext 32 h (λ i. f (32 + i)) eh)

-- x has the n bits of the bytes from bit p on
abbrev pub Bits : ℕ → ℕ → List ℕ → ℕ → Type 0
Bits p n bs x = (j : ℕ) → j < n → has x j ≡ has (number 256 bs) (p + j)

pub from_byte : (p x : ℕ) (bs : List ℕ) → Below 256 bs → x ≡ number_at bs p 8 → Bits (8 * p) 64 bs x
from_byte p x bs h e j l = ap (λ y. has y j) (e ∙ loaded p bs h) ∙ bit_loaded p j (number 256 bs) l

-- bit q of a counter, at any width w: where it stands in them
pub at_place : (w p n x : ℕ) (bs : List ℕ) → Bits p n bs x → (q i u : ℕ) → q < w → q + w * i < n → p + w * i ≡ w * u → has x (q + w * i) ≡ has (counter w bs u) q
at_place w p n x bs b q i u h l s =
    let place : p + (q + w * i) ≡ w * u + q = omega arith in
    b (q + w * i) l ∙ ap (has (number 256 bs)) place ∙ sym (counter_bit w u q bs h)

-- and after a move of q places down it stands at every w-th place
moved_place : (w p n x : ℕ) (bs : List ℕ) → Bits p n bs x → (q i u : ℕ) → q < w → q + w * i < n → p + w * i ≡ w * u → has (x / 2 ^ q) (w * i) ≡ has (counter w bs u) q
moved_place w p n x bs b q i u h l s = has_shr x q (w * i) ∙ at_place w p n x bs b q i u h l s

module _ (first : ℕ) (bs : List ℕ) (small : Below 256 bs) where
  -- counters of one bit are the bits as they stand
  pub single_planes : first % 8 ≡ 0 → (x : ℕ) → x ≡ number_at bs (first / 8) 8 → AreBits 64 (λ i. counter 1 bs (first + i)) (record { low = x; high = 0 })
  single_planes h x e = record {
    lower = is_word 64 x _ (rw (e ∙ loaded (first / 8) bs small) (mod-lt _ (pow_pos 64)))
        (λ i l. let here : i ≡ 0 + 1 * i = omega arith in
        ap (has x) here ∙ at_place 1 (8 * (first / 8)) 64 x bs (from_byte (first / 8) x bs small e) 0 i (first + i) (lit< tt) (omega arith) (omega arith));
    higher = no_plane 1 first 1 bs (lit≤ tt);
  }

  -- what a plane says that is made of two words
  abbrev pub FromEven : ℕ → ℕ → ℕ → Type 0
  FromEven x y r = (f : ℕ → Bool) → ((i : ℕ) → i < 32 → has x (2 * i) ≡ f i) → ((i : ℕ) → i < 32 → has y (2 * i) ≡ f (32 + i)) → r ≡ word 64 f

  -- counters of two bits: bit q of 32 of them stands at every second place from place q on
  pub double_planes : first % 8 ≡ 0 → (x y low high : ℕ) → x ≡ number_at bs (first / 4) 8 → y ≡ number_at bs (first / 4 + 8) 8
      → FromEven x y low → FromEven (x / 2 ^ 1) (y / 2 ^ 1) high → AreBits 64 (λ i. counter 2 bs (first + i)) (record { low = low; high = high })
  double_planes h x y low high ex ey p q = record {
    lower = p (λ i. has (counter 2 bs (first + i)) 0) (λ i l. low_place (first / 4) x ex i (first + i) l (omega arith)) (λ i l. low_place (first / 4 + 8) y ey i (first + (32 + i)) l (omega arith));
    higher = q (λ i. has (counter 2 bs (first + i)) 1) (λ i l. high_place (first / 4) x ex i (first + i) l (omega arith)) (λ i l. high_place (first / 4 + 8) y ey i (first + (32 + i)) l (omega arith));
  }
    where
      low_place : (p x : ℕ) → x ≡ number_at bs p 8 → (i u : ℕ) → i < 32 → 4 * p + i ≡ u → has x (2 * i) ≡ has (counter 2 bs u) 0
      low_place p x e i u l s =
          let here : 2 * i ≡ 0 + 2 * i = omega arith in
          ap (has x) here ∙ at_place 2 (8 * p) 64 x bs (from_byte p x bs small e) 0 i u (lit< tt) (omega arith) (omega arith)

      high_place : (p x : ℕ) → x ≡ number_at bs p 8 → (i u : ℕ) → i < 32 → 4 * p + i ≡ u → has (x / 2 ^ 1) (2 * i) ≡ has (counter 2 bs u) 1
      high_place p x e i u l s = moved_place 2 (8 * p) 64 x bs (from_byte p x bs small e) 1 i u (lit< tt) (omega arith) (omega arith)
