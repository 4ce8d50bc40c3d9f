use Rattle.grid_counters.proofs.ReadingLaws.{side_by_side}
use Rattle.grid_counters.proofs.planes.plane.Goals as goal

pub returns : goal.returns
returns c f g h = side_by_side c.seconds-2.result c.seconds.result _ _ f c.seconds-2.ensures c.seconds.ensures g h
