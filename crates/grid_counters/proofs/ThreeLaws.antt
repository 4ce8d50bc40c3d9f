-- Laws of counters of three bits: their planes from bytes. Assumes nothing.
use Prim.Native.Nat.{ℕ, ◌+◌, ◌-◌, ◌*◌, ◌/◌, ◌%◌, ◌^◌, ◌≤◌, ◌<◌}
use mathlib.Core.Path.{◌≡◌, sym, ap, ◌∙◌}
use mathlib.Core.Bool.{Bool, false}
use mathlib.Core.List.{List}
use mathlib.Core.Logic.{⊎_elim}
use native.Mathlib.Nat.{zero-div}
use native.Mathlib.Omega.{arith}
use lib.Bits.{bit_or, or_add_and, and_le_l, and_le_r}
use lib.Dec.{lit<, lit≤}
use lib.Pow.{pow_pos}
use Rattle.bits.specs.Bits.{Below, number_at, number, has, word}
use Rattle.bits.proofs.TestLaws.{lt_or_le}
use Rattle.bits.proofs.BitLaws.{has_zero, has_shr, is_word, word_ext}
use Rattle.rdis.specs.Packing.{counter}
use Rattle.grid_sets.specs.Planes.{AreThrees}
use Rattle.grid_counters.specs.Steps.{FromThirds, FromFour}
use Rattle.words.proofs.ShiftLaws.{joined, joined_short}
use Rattle.grid_counters.proofs.ReadingLaws.{Bits, from_byte, at_place}

-- 16 bits and 16 bits, side by side
pub thirds_joined : (x y a b : ℕ) → a ≡ word 16 (λ i. has x (3 * i)) → b ≡ word 16 (λ i. has y (3 * i)) → (f : ℕ → Bool) → FromThirds x f → FromThirds y (λ i. f (16 + i))
    → bit_or (b * 2 ^ 16 % 2 ^ 64) a ≡ word 32 f
thirds_joined x y a b ea eb f p q = joined_short 16 16 a b f (lit≤ tt) (ea ∙ word_ext 16 _ f p) (eb ∙ word_ext 16 _ _ q)

-- what two of them say
abbrev FromTwo : ℕ → ℕ → ℕ → Type 0
FromTwo x y r = (f : ℕ → Bool) → FromThirds x f → FromThirds y (λ i. f (16 + i)) → r ≡ word 32 f

pub third_plane_is : (a b c d x y : ℕ) → FromTwo a b x → FromTwo c d y → FromFour a b c d (bit_or (y * 2 ^ 32 % 2 ^ 64) x)
third_plane_is a b c d x y p q f ha hb hc hd =
    joined 32 32 x y f (lit< tt) (lit≤ tt) (p f ha hb) (q (λ i. f (32 + i)) hc (λ i l. let e : 48 + i ≡ 32 + (16 + i) = omega arith in hd i l ∙ ap f e))

-- bit k of 16 counters, in a word that has their bits from bit p on, moved k places down
group : (p x : ℕ) (bs : List ℕ) → Bits p 48 bs x → (k y : ℕ) → k < 3 → ((j : ℕ) → has y j ≡ has x (k + j)) → (g : ℕ → ℕ) → ((i : ℕ) → p + 3 * i ≡ 3 * g i)
    → FromThirds y (λ i. has (counter 3 bs (g i)) k)
group p x bs b k y h e g s i l = e (3 * i) ∙ at_place 3 p 48 x bs b k i (g i) h (omega arith) (s i)

-- four words that are 0
neither : (x y : ℕ) → bit_or x y ≡ 0 → (x ≡ 0) × (y ≡ 0)
neither x y e = (omega (arith, or_add_and x y, and_le_r x y), omega (arith, or_add_and x y, and_le_l x y))

four_zeros : (a b c d : ℕ) → bit_or (bit_or a b) (bit_or c d) ≡ 0 → ((a ≡ 0) × (b ≡ 0)) × ((c ≡ 0) × (d ≡ 0))
four_zeros a b c d e = let (p, q) = neither (bit_or a b) (bit_or c d) e in (neither a b p, neither c d q)

shifted : (x k : ℕ) → x ≡ 0 → x / 2 ^ k ≡ 0
shifted x k z = ap (λ y. y / 2 ^ k) z ∙ zero-div (2 ^ k)

none_of_four : (a b c d : ℕ) → a ≡ 0 → b ≡ 0 → c ≡ 0 → d ≡ 0 → FromFour a b c d 0
none_of_four a b c d za zb zc zd f ha hb hc hd = is_word 64 0 f (pow_pos 64) (λ i l. has_zero i ∙ sym (at i l))
  where
    none : (x : ℕ) (g : ℕ → Bool) → x ≡ 0 → FromThirds x g → (i : ℕ) → i < 16 → g i ≡ false
    none x g z h i l = sym (h i l) ∙ ap (λ y. has y (3 * i)) z ∙ has_zero (3 * i)

    there : (s i : ℕ) (x : ℕ) → x ≡ 0 → FromThirds x (λ j. f (s + j)) → s ≤ i → i < s + 16 → f i ≡ false
    there s i x z h l k = let e : s + (i - s) ≡ i = omega arith in ap f (sym e) ∙ none x (λ j. f (s + j)) z h (i - s) (omega arith)

    at : (i : ℕ) → i < 64 → f i ≡ false
    at i l = ⊎_elim (none a f za ha i) (λ p. ⊎_elim (there 16 i b zb hb p) (λ q. ⊎_elim (there 32 i c zc hc q) (λ r. there 48 i d zd hd r (omega arith)) (lt_or_le i 48)) (lt_or_le i 32)) (lt_or_le i 16)

-- four words that have the bits of 16 counters each; the last is loaded two bytes early
module _ (t q : ℕ) (bs : List ℕ) (small : Below 256 bs) (h : 8 * q ≡ 3 * t) (a b c d : ℕ) (ea : a ≡ number_at bs q 8) (eb : b ≡ number_at bs (q + 6) 8)
    (ec : c ≡ number_at bs (q + 12) 8) (ed : d ≡ number_at bs (q + 16) 8) where
  loaded_group : (p x : ℕ) → x ≡ number_at bs p 8 → Bits (8 * p) 48 bs x
  loaded_group p x e j l = from_byte p x bs small e j (omega arith)

  last_group : Bits (8 * (q + 16) + 16) 48 bs (d / 2 ^ 16)
  last_group j l = let e : 8 * (q + 16) + (16 + j) ≡ 8 * (q + 16) + 16 + j = omega arith in has_shr d 16 j ∙ from_byte (q + 16) d bs small ed (16 + j) (omega arith) ∙ ap (has (number 256 bs)) e

  triple_plane : (k u v w x r : ℕ) → k < 3 → ((j : ℕ) → has u j ≡ has a (k + j)) → ((j : ℕ) → has v j ≡ has b (k + j)) → ((j : ℕ) → has w j ≡ has c (k + j))
      → ((j : ℕ) → has x j ≡ has (d / 2 ^ 16) (k + j)) → FromFour u v w x r → r ≡ word 64 (λ i. has (counter 3 bs (t + i)) k)
  triple_plane k u v w x r l eu ev ew ex p =
      p (λ i. has (counter 3 bs (t + i)) k)
      (group (8 * q) a bs (loaded_group q a ea) k u l eu (λ i. t + i) (λ i. omega arith))
      (group (8 * (q + 6)) b bs (loaded_group (q + 6) b eb) k v l ev (λ i. t + (16 + i)) (λ i. omega arith))
      (group (8 * (q + 12)) c bs (loaded_group (q + 12) c ec) k w l ew (λ i. t + (32 + i)) (λ i. omega arith))
      (group (8 * (q + 16) + 16) (d / 2 ^ 16) bs last_group k x l ex (λ i. t + (48 + i)) (λ i. omega arith))

  unmoved : (x j : ℕ) → has x j ≡ has x (0 + j)
  unmoved x j = ap (has x) (omega arith)

  pub triple_planes : (low high top : ℕ) → FromFour a b c (d / 2 ^ 16) low → FromFour (a / 2 ^ 1) (b / 2 ^ 1) (c / 2 ^ 1) (d / 2 ^ 16 / 2 ^ 1) high
      → FromFour (a / 2 ^ 2) (b / 2 ^ 2) (c / 2 ^ 2) (d / 2 ^ 16 / 2 ^ 2) top → AreThrees 64 (λ i. counter 3 bs (t + i)) (record { planes = record { low = low; high = high }; top = top })
  triple_planes low high top p0 p1 p2 = record {
    bits = record {
      lower = triple_plane 0 a b c (d / 2 ^ 16) low (lit< tt) (unmoved a) (unmoved b) (unmoved c) (unmoved (d / 2 ^ 16)) p0;
      higher = triple_plane 1 _ _ _ _ high (lit< tt) (has_shr a 1) (has_shr b 1) (has_shr c 1) (has_shr (d / 2 ^ 16) 1) p1;
    };
    third = triple_plane 2 _ _ _ _ top (lit< tt) (has_shr a 2) (has_shr b 2) (has_shr c 2) (has_shr (d / 2 ^ 16) 2) p2;
  }

  -- where all four are 0, so are the planes
  pub no_threes : bit_or (bit_or a b) (bit_or c (d / 2 ^ 16)) ≡ 0 → AreThrees 64 (λ i. counter 3 bs (t + i)) (record { planes = record { low = 0; high = 0 }; top = 0 })
  no_threes e =
      let ((za, zb), (zc, zd)) = four_zeros a b c (d / 2 ^ 16) e in
      triple_planes 0 0 0 (none_of_four a b c (d / 2 ^ 16) za zb zc zd)
      (none_of_four _ _ _ _ (shifted a 1 za) (shifted b 1 zb) (shifted c 1 zc) (shifted (d / 2 ^ 16) 1 zd))
      (none_of_four _ _ _ _ (shifted a 2 za) (shifted b 2 zb) (shifted c 2 zc) (shifted (d / 2 ^ 16) 2 zd))
