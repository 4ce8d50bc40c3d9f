use Prim.Native.Nat.{◌+◌, ◌*◌}
use mathlib.Core.Path.{ap}
use native.Mathlib.Omega.{arith}
use Rattle.grid_promises.proofs.OldReads.{longest_counters}
use Rattle.fragment_promises.specs.Transfers.{size}
use Rattle.fragments.proofs.sizes.Sizes.block_bytes.Goals as goal

pub overflow_add-result : goal.overflow_add-result
overflow_add-result c = let s = c.args.self in omega (arith, c.counter_bytes.ensures, longest_counters s.rows s.columns s.k s.in_range, s.in_range.rows.1)

pub returns : goal.returns
returns c = unfold size in ap (λ x. x + 8 * c.args.self.rows) c.counter_bytes.ensures
