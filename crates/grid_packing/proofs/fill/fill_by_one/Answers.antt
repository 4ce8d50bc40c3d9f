use Rattle.grid_packing.proofs.FillLaws.{single_stored, both_stored}
use Rattle.grid_packing.proofs.fill.fill_by_one.Goals as goal

pub returns : goal.returns
returns g c =
    both_stored 1 _ _ _ _ (single_stored 0 (g.C.Narrow.planes_of c.args.first) _ _ (rw c.planes.ensures at c.store.ensures)) _
    (single_stored 8 (g.C.Narrow.planes_of c.args.second) _ _ (rw c.planes-2.ensures at c.store-2.ensures))
