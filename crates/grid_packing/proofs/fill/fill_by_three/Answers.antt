use Rattle.grid_packing.proofs.FillLaws.{half_stored, both_stored}
use Rattle.grid_packing.proofs.fill.fill_by_three.Goals as goal

pub returns-then-out-le24 : goal.returns-then-out-le24
returns-then-out-le24 g c = half_stored 3 _ _ _ _ c.store_by_three.ensures c.if-out-le24.true

pub returns : goal.returns
returns g c = both_stored 3 _ _ _ _ c.store_by_three.ensures _ c.store_by_three-2.ensures
