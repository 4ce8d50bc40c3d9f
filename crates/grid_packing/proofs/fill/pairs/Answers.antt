use Rattle.grid_packing.proofs.FillLaws.{paired}
use Rattle.grid_packing.proofs.fill.pairs.Goals as goal

pub returns : goal.returns
returns g c f b = paired f c.planes-p.result (rw (← c.planes-p.ensures) at b) c.args.at c.apart-2.result c.apart.result c.requires c.apart-2.ensures c.apart.ensures
