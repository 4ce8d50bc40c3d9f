use Rattle.grid_packing.proofs.FillLaws.{triples_stored}
use Rattle.grid_packing.proofs.fill.store_by_three.Goals as goal

pub returns : goal.returns
returns g c =
    let a = c.args in
    triples_stored a.q (g.C.Narrow.planes_of a.counters) _ _ _ _ c.triples-a.ensures c.triples-b.ensures c.triples-c.ensures c.triples-d.ensures
    a.out.now c.store.new.out c.store-2.new.out c.store-3.new.out c.store.ensures c.store-2.ensures c.store-3.ensures
