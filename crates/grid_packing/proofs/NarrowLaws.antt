-- Laws of planes that no bit is in, and of counters that have no bits but the lowest. Assumes nothing.
use Prim.Native.Nat.{ℕ, ◌^◌, ◌≤◌, ◌<◌}
use mathlib.Core.Path.{◌≡◌, sym, ap, ap₂, ◌∙◌}
use native.Mathlib.Omega.{arith}
use lib.Pow.{pow_pos}
use Rattle.bits.specs.Bits.{has, word}
use Rattle.bits.proofs.BitLaws.{has_zero, has_high, is_word}
use Rattle.grid_sets.specs.declared.Threes.{Threes}
use Rattle.grid_sets.specs.Planes.{AreThrees}
use Rattle.grid_packing.specs.Steps.{ones_of, twos_of}

-- the bits from bit m on of counters below 2 ^ m
no_plane : (m q n : ℕ) (f : ℕ → ℕ) → m ≤ q → ((i : ℕ) → f i < 2 ^ m) → 0 ≡ word n (λ i. has (f i) q)
no_plane m q n f l few = is_word n 0 _ (pow_pos n) (λ i _. has_zero i ∙ sym (has_high m (f i) q (few i) l))

module _ (n : ℕ) (f : ℕ → ℕ) (p : Threes) (b : AreThrees n f p) where
  pub are_twos : ((i : ℕ) → f i < 4) → twos_of p.planes ≡ p
  are_twos few = ap (λ t. record { planes = p.planes; top = t }) (no_plane 2 2 n f (omega arith) few ∙ sym b.third)

  pub are_ones : ((i : ℕ) → f i < 2) → ones_of p.planes.low ≡ p
  are_ones few =
      ap₂ (λ h t. record { planes = record { low = p.planes.low; high = h }; top = t })
      (no_plane 1 1 n f (omega arith) few ∙ sym b.bits.higher) (no_plane 1 2 n f (omega arith) few ∙ sym b.third)
