use Rattle.grid_packing.proofs.NarrowLaws.{are_twos}
use Rattle.grid_packing.proofs.narrow.PlanesNarrow.from_planes.Goals as goal

pub returns-clause-all : goal.returns-clause-all
returns-clause-all c n f few b = are_twos n f c.args.p b few
