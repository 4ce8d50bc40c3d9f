use Rattle.grid_levels.proofs.FirstLaws.{Beginning}
use Rattle.grid_levels.proofs.rows.Rows.first_level.Given as goal

abbrev pub invariant-loop-i : goal.invariant-loop-i
invariant-loop-i l =
    let r = l.self in
    Beginning r.«data».now r.mask.now r.values.now l.initial.i-iterator.rest l.faults l.wrong l.rows l.columns l.i-iterator.rest
