use Rattle.grid_packing.proofs.SpreadLaws.{apart_are, none_apart}
use Rattle.grid_packing.proofs.apart.apart.Goals as goal

pub returns-then-a-eq0 : goal.returns-then-a-eq0
returns-then-a-eq0 c = none_apart c.args.v c.if-a-eq0.true

pub returns : goal.returns
returns c = apart_are c.args.v
