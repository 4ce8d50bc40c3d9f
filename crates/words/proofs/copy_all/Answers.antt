use native.Mathlib.Omega.{arith}
use Rattle.words.proofs.CopyLaws.{copy_more, copy_done}
use Rattle.words.proofs.copy_all.Goals as goal

pub loop-i-preserved : goal.loop-i-preserved
loop-i-preserved c = let l = c.loop-i in copy_more l.i _ l.into (omega arith) (omega arith) l.invariant

pub returns : goal.returns
returns c = copy_done c.loop-i.i _ _ (omega arith) (omega arith) c.loop-i.invariant
