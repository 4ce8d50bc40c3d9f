use native.Mathlib.Omega.{arith}
use Rattle.grid_packing.proofs.SideLaws.{back_none, back_some}
use Rattle.grid_packing.proofs.sides.back.Goals as goal

pub returns-then-rows-eq0 : goal.returns-then-rows-eq0
returns-then-rows-eq0 c f b past = back_none c.args.b c.args.rows.count f b past c.if-rows-eq0.true

pub returns : goal.returns
returns c f b past = back_some c.args.b c.args.rows.count f b past (omega arith) c.args.rows.few
