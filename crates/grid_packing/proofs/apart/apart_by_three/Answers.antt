use Rattle.grid_packing.proofs.SpreadLaws.{thirds_apart, no_thirds_apart}
use Rattle.grid_packing.proofs.apart.apart_by_three.Goals as goal

pub returns-then-a-eq0 : goal.returns-then-a-eq0
returns-then-a-eq0 c = no_thirds_apart c.args.v c.if-a-eq0.true

pub returns : goal.returns
returns c = thirds_apart c.args.v
