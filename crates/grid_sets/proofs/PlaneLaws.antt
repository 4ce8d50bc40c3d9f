-- Laws of the planes of counters that are equal, or of which some are 0. Assumes nothing.
use Prim.Native.Nat.{ℕ, ◌≤◌, ◌<◌}
use mathlib.Core.Path.{◌≡◌, sym, ap, ◌∙◌}
use native.Mathlib.Omega.{arith}
use Rattle.bits.specs.Bits.{has, word}
use Rattle.bits.proofs.BitLaws.{has_zero, word_narrow}
use Rattle.grid_sets.specs.declared.Planes.{Planes}
use Rattle.grid_sets.specs.declared.Threes.{Threes}
use Rattle.grid_sets.specs.Planes.{AreBits, AreThrees}

-- a plane of n counters is that of more, of which the others are 0
pub plane_as : (n m : ℕ) (f g : ℕ → ℕ) (q : ℕ) → n ≤ m → ((i : ℕ) → i < n → g i ≡ f i) → ((i : ℕ) → n ≤ i → i < m → g i ≡ 0) → word n (λ i. has (f i) q) ≡ word m (λ i. has (g i) q)
plane_as n m f g q l e z =
    sym (word_narrow n m (λ i. has (g i) q) (λ i. has (f i) q) l (λ i h. ap (λ x. has x q) (e i h)) (λ i h k. ap (λ x. has x q) (z i h k) ∙ has_zero q))

pub bits_as : (n m : ℕ) (f g : ℕ → ℕ) (p : Planes) → n ≤ m → ((i : ℕ) → i < n → g i ≡ f i) → ((i : ℕ) → n ≤ i → i < m → g i ≡ 0) → AreBits n f p → AreBits m g p
bits_as n m f g p l e z b = record { lower = b.lower ∙ plane_as n m f g 0 l e z; higher = b.higher ∙ plane_as n m f g 1 l e z }

-- equal counters have equal planes
pub bits_ext : (n : ℕ) (f g : ℕ → ℕ) (p : Planes) → ((i : ℕ) → i < n → g i ≡ f i) → AreBits n f p → AreBits n g p
bits_ext n f g p e = bits_as n n f g p (omega arith) e (λ i h l. absurd (omega arith))

-- the planes of n counters are those of more, of which the others are 0
pub threes_as : (n m : ℕ) (f g : ℕ → ℕ) (p : Threes) → n ≤ m → ((i : ℕ) → i < n → g i ≡ f i) → ((i : ℕ) → n ≤ i → i < m → g i ≡ 0) → AreThrees n f p → AreThrees m g p
threes_as n m f g p l e z b = record { bits = bits_as n m f g p.planes l e z b.bits; third = b.third ∙ plane_as n m f g 2 l e z }

pub threes_ext : (n : ℕ) (f g : ℕ → ℕ) (p : Threes) → ((i : ℕ) → i < n → g i ≡ f i) → AreThrees n f p → AreThrees n g p
threes_ext n f g p e = threes_as n n f g p (omega arith) e (λ i h l. absurd (omega arith))
