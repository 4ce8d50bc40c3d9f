use Rattle.grid_patterns.proofs.FlipLaws.{Flipping}
use Rattle.grid_patterns.proofs.flip.Given as goal

abbrev pub invariant-loop-i : goal.invariant-loop-i
invariant-loop-i l = Flipping l.initial.into l.rows l.columns l.into l.i-iterator.rest
