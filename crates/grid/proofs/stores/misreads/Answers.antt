use native.Mathlib.Omega.{arith}
use Rattle.grid.proofs.MisreadLaws.{seen_none, seen_more, seen_some}
use Rattle.grid.proofs.stores.misreads.Goals as goal

pub loop-i-init : goal.loop-i-init
loop-i-init c = seen_none _ _ _

pub loop-i-preserved : goal.loop-i-preserved
loop-i-preserved c = let l = c.loop-i in seen_more _ _ _ l.i l.wrong (c.args.inverted.now.fit l.i) l.invariant

pub returns : goal.returns
returns c = let l = c.loop-i in seen_some _ _ _ l.i l.wrong (omega arith) l.invariant
