use Rattle.grid_sets.specs.Sets.{times}
use Rattle.grid_sets.specs.Planes.{AreThrees}
use Rattle.grid_packing.proofs.tally.tally.Given as goal

abbrev pub invariant-loop-set : goal.invariant-loop-set
invariant-loop-set g l = AreThrees 64 (times l.sets l.set-index) l.p
