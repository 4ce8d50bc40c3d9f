use native.Mathlib.Omega.{arith}
use mathlib.Core.Path.{ap₂, ◌∙◌}
use mathlib.Core.Bool.{◌&&◌}
use lib.Dec.{ltb}
use Rattle.bits.proofs.BitLaws.{one_shl}
use Rattle.grid_sets.specs.Promises.{packable}
use Rattle.rdis.proofs.PackingLaws.{width_few}
use Rattle.grid_packing.proofs.packable.Goals as goal

pub overflow_shl-result : goal.overflow_shl-result
unfolding packable
overflow_shl-result c = omega (arith, c.width.ensures, width_few c.args.k)

pub returns : goal.returns
unfolding packable
returns c =
    let a = c.args in
    let w = c.width.ensures in
    ap₂ (λ x y. ltb a.used x && y) (one_shl c.width.result (omega (arith, w, width_few a.k)) ∙ rw w) c.roomy.ensures
