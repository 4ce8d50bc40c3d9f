use Rattle.grid_packing.proofs.FillLaws.{pairs_stored, half_stored, both_stored}
use Rattle.grid_packing.proofs.fill.fill_by_two.Goals as goal

pub returns-then-out-le16 : goal.returns-then-out-le16
returns-then-out-le16 g c =
    half_stored 2 _ _ _ _ (pairs_stored 0 (g.C.Narrow.planes_of c.args.first) _ _ _ _ _ c.pairs.ensures c.store.ensures c.pairs-2.ensures c.store-2.ensures) c.if-out-le16.true

pub returns : goal.returns
returns g c =
    both_stored 2 _ _ _ _ (pairs_stored 0 (g.C.Narrow.planes_of c.args.first) _ _ _ _ _ c.pairs.ensures c.store.ensures c.pairs-2.ensures c.store-2.ensures) _
    (pairs_stored 16 (g.C.Narrow.planes_of c.args.second) _ _ _ _ _ c.pairs-3.ensures c.store-3.ensures c.pairs-4.ensures c.store-4.ensures)
