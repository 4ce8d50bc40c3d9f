use Rattle.grid_packing.proofs.NarrowLaws.{are_ones}
use Rattle.grid_packing.proofs.narrow.U64Narrow.from_planes.Goals as goal

pub returns-clause-all : goal.returns-clause-all
returns-clause-all c n f few b = are_ones n f c.args.p b few
