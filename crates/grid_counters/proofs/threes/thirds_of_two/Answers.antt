use Rattle.grid_counters.proofs.ThreeLaws.{thirds_joined}
use Rattle.grid_counters.proofs.threes.thirds_of_two.Goals as goal

pub returns : goal.returns
returns c = thirds_joined _ _ c.thirds-2.result c.thirds.result c.thirds-2.ensures c.thirds.ensures
