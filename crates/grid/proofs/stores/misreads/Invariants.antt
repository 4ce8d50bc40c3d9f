use Rattle.grid.proofs.MisreadLaws.{Seen}
use Rattle.grid.proofs.stores.misreads.Given as goal

abbrev pub invariant-loop-i : goal.invariant-loop-i
invariant-loop-i l = let r = l.inverted in Seen r.«data».now r.mask.now r.values.now l.i l.wrong
