use Rattle.grid_packing.proofs.FillLaws.{tripled}
use Rattle.grid_packing.proofs.fill.triples.Goals as goal

pub returns : goal.returns
returns g c f b =
    tripled f c.planes-p.result (rw (← c.planes-p.ensures) at b) c.args.at c.apart_by_three-3.result c.apart_by_three-2.result c.requires
    c.apart_by_three-3.ensures c.apart_by_three-2.ensures c.apart_by_three.result c.apart_by_three.ensures
