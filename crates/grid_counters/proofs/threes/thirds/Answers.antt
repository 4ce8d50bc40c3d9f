use Rattle.grid_counters.proofs.GatherLaws.{thirds_are, no_thirds}
use Rattle.grid_counters.proofs.threes.thirds.Goals as goal

pub returns-then-a-eq0 : goal.returns-then-a-eq0
returns-then-a-eq0 c = no_thirds c.args.v c.if-a-eq0.true

pub returns : goal.returns
returns c = thirds_are c.args.v
