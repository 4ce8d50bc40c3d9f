use native.Mathlib.Omega.{arith}
use mathlib.Core.Path.{◌≡◌, subst}
use Rattle.rdis.specs.Packing.{width}
use Rattle.rdis.proofs.PackingLaws.{width_some, width_few}
use Rattle.grid_packing.specs.Promises.{FillsPlanes}
use Rattle.grid_packing.proofs.fill.fill.Goals as goal

pub returns-in_default : goal.returns-in_default
returns-in_default g c =
    let a = c.args in
    let planes = g.C.Narrow.planes_of in
    let three : 3 ≡ width a.k = omega (arith, width_some a.k, width_few a.k, c.width.ensures) in
    subst (λ w. FillsPlanes w (planes a.first) (planes a.second) a.out.now c.fill_by_three.new.out) three c.fill_by_three.ensures
