-- What is left where counters are stored that are given as planes. Assumes nothing.
use Rattle.std.specs.Prelude.{ℕ, ◌+◌, ◌*◌, ◌/◌, ◌%◌, ◌^◌, ◌≤◌, ◌<◌, ◌≡◌, Bool, List, length, get_or}
use Rattle.bits.specs.Bits.{has}
use Rattle.words.specs.Stored.{Filled}
use Rattle.grid_sets.specs.declared.Threes.{Threes}
use Rattle.grid_sets.specs.Planes.{AreThrees}

-- bit p of counters f of w bits, one after the other
abbrev pub bit_of : ℕ → (ℕ → ℕ) → ℕ → Bool
bit_of w f p = has (f (p / w)) (p % w)

-- 128 counters of w bits are stored, as far as there are bytes
pub record FillsPlanes (w : ℕ) (first second : Threes) (before after : List ℕ) : Type 0 where
  -- whichever counters have these planes, 64 of them the first and the others the second: the first 16 w bytes are made of their bits
  pub fills : (f : ℕ → ℕ) → AreThrees 64 f first → AreThrees 64 (λ i. f (64 + i)) second → Filled (16 * w) (bit_of w f) after
  -- the bytes after them are as they were
  pub keeps : (t : ℕ) → 16 * w ≤ t → get_or after t 0 ≡ get_or before t 0

-- the planes are words
pub record AreWords (p : Threes) : Type 0 where
  pub low : p.planes.low < 2 ^ 64
  pub high : p.planes.high < 2 ^ 64
  pub top : p.top < 2 ^ 64

-- no second list of as many bytes is left
abbrev pub OneFill : Type 0
OneFill =
    (w : ℕ) (first second : Threes) (before after after' : List ℕ) → AreWords first → AreWords second
    → length after ≡ length before → length after' ≡ length before → FillsPlanes w first second before after → FillsPlanes w first second before after' → after ≡ after'
