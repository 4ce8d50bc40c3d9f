-- What the private steps from sets to planes and from planes to bytes say. Nobody who reads the promises needs this page. Assumes nothing.
use Rattle.std.specs.Prelude.{ℕ, ◌+◌, ◌*◌, ◌/◌, ◌%◌, ◌≤◌, ◌≡◌, Bool, ◌&&◌, List, ltb, get_or}
use Rattle.bits.specs.Bits.{has}
use Rattle.words.specs.Stored.{Filled}
use Rattle.rdis.specs.Packing.{in_order}
use Rattle.grid_sets.specs.Sets.{times}
use Rattle.grid_sets.specs.declared.Planes.{Planes}
use Rattle.grid_sets.specs.declared.Threes.{Threes}
use Rattle.grid_sets.specs.Planes.{AreThrees}
use Rattle.grid_packing.specs.Promises.{bit_of}

-- the counters of so many levels, which took these sets: those of m rows, and then those of n columns
abbrev pub counts_of : ℕ → ℕ → ℕ → List ℕ → List ℕ → List ℕ
counts_of m n used rows columns = in_order m n (times rows used) (times columns used)

-- the bits of v at every d places, with 0 between
abbrev pub spaced : ℕ → ℕ → ℕ → Bool
spaced d v p = ltb (p % d) 1 && has v (p / d)

-- the planes of counters of at most two bits, which p are the lowest two
abbrev pub twos_of : Planes → Threes
twos_of p = record { planes = p; top = 0 }

-- the planes of counters that are 0 or 1, of which v has the lowest bits
abbrev pub ones_of : ℕ → Threes
ones_of v = twos_of (record { low = v; high = 0 })

-- 64 counters of w bits, which have these planes, are stored from byte q on, as far as there are bytes
pub record StoresAt (w q : ℕ) (p : Threes) (before after : List ℕ) : Type 0 where
  -- where the bytes before are those of the counters before, so are these
  pub fills : (f : ℕ → ℕ) (t : ℕ) → 8 * q ≡ w * t → AreThrees 64 (λ i. f (t + i)) p → Filled q (bit_of w f) before → Filled (q + 8 * w) (bit_of w f) after
  pub keeps : (t : ℕ) → q + 8 * w ≤ t → get_or after t 0 ≡ get_or before t 0
