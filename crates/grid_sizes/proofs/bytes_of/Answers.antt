use borrow.Author.Tests.{le-leb, lt-leb}
use native.Mathlib.Omega.{arith}
use mathlib.Core.Path.{refl}
use Prim.Native.Nat.{◌*◌, ◌≤◌}
use Rattle.rdis.specs.Packing.{bytes_for}
use Rattle.grid_sizes.proofs.SizeLaws.{all_bits_few}
use Rattle.grid_sizes.proofs.bytes_of.Goals as goal
use Rattle.grid_sizes.proofs.bytes_of.Goals.{After-width}

few : (c : After-width) → c.width.result * c.args.count ≤ 384
few c = let a = c.args in rw c.width.ensures (all_bits_few a.k a.count (omega arith))

pub returns-then-count-gt-MOST_COUNTERS : goal.returns-then-count-gt-MOST_COUNTERS
returns-then-count-gt-MOST_COUNTERS c = let a = c.args in rw (lt-leb a.count 128 c.if-count-gt-MOST_COUNTERS.true) refl

pub overflow_mul-result : goal.overflow_mul-result
overflow_mul-result c = omega (arith, few (goal.at.overflow_mul-result c).After-width)

pub overflow_add-result : goal.overflow_add-result
overflow_add-result c = omega (arith, few (goal.at.overflow_add-result c).After-width)

pub returns : goal.returns
returns c = let a = c.args in rw (le-leb a.count 128 (omega arith), ← c.width.ensures) (unfold bytes_for in refl)
