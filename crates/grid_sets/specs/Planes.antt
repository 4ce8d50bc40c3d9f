-- Counters as planes: bit q of every counter makes a word, of which bit i is that of counter i. Assumes nothing.
use Rattle.std.specs.Prelude.{ℕ, ◌≡◌}
use Rattle.bits.specs.Bits.{has, word}
use Rattle.grid_sets.specs.declared.Planes.{Planes}
use Rattle.grid_sets.specs.declared.Threes.{Threes}

-- the planes of n counters f
pub record AreBits (n : ℕ) (f : ℕ → ℕ) (p : Planes) : Type 0 where
  pub lower : p.low ≡ word n (λ i. has (f i) 0)
  pub higher : p.high ≡ word n (λ i. has (f i) 1)

-- and with their third bits
pub record AreThrees (n : ℕ) (f : ℕ → ℕ) (p : Threes) : Type 0 where
  pub bits : AreBits n f p.planes
  pub third : p.top ≡ word n (λ i. has (f i) 2)
