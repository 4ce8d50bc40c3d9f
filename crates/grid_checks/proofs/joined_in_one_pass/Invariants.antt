use Rattle.grid_checks.proofs.JudgeLaws.{JoinedThree}
use Rattle.grid_checks.proofs.joined_in_one_pass.Given as goal

abbrev pub invariant-loop-i : goal.invariant-loop-i
invariant-loop-i l = JoinedThree l.«data» l.mask l.values l.i l.all
