-- Laws of the sizes. Assumes nothing.
use Prim.Native.Nat.{ℕ, ◌*◌, ◌≤◌}
use mathlib.Core.Path.{◌≡◌, refl}
use mathlib.Core.Bool.{Bool, true, false, cond, ◌&&◌}
use native.Mathlib.Nat.{mul-le-mul}
use lib.Dec.{eqb, leb}
use Rattle.rdis.specs.Packing.{width, bytes_for}
use Rattle.rdis.proofs.PackingLaws.{width_few}
use Rattle.grid_sets.specs.Promises.{fit}

-- the counters of a block have few bits
pub all_bits_few : (k n : ℕ) → n ≤ 128 → width k * n ≤ 3 * 128
all_bits_few k n h = mul-le-mul (width_few k) h

-- the length is the right one where there are not too many counters
pub fit_by : (k n bytes : ℕ) → leb n 128 && eqb bytes (cond (leb n 128) (bytes_for (width k) n) 0) ≡ fit k n bytes
unfolding fit
fit_by k n bytes = go (leb n 128)
  where
    go : (b : Bool) → b && eqb bytes (cond b (bytes_for (width k) n) 0) ≡ b && eqb bytes (bytes_for (width k) n)
    go true = refl
    go false = refl
