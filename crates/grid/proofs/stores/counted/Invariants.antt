use Rattle.grid_levels.proofs.CountLaws.{Counting}
use Rattle.grid.proofs.stores.counted.Given as goal

abbrev pub invariant-loop-i : goal.invariant-loop-i
invariant-loop-i l = let r = l.rows in Counting r.«data».now r.mask.now r.values.now l.faults l.wrong l.i-iterator.rest
