use Rattle.std.proofs.Common.{arith, ◌<◌, length}
use Rattle.grid_patterns.proofs.FlipLaws.{flip_inside, flip_more, flip_done}
use Rattle.grid_patterns.proofs.flip.Goals as goal
use Rattle.grid_patterns.proofs.flip.Goals.{In-Some}

-- the row is one of the words
inside : (c : In-Some) → c.in-Some.i < length c.loop-i.into
inside c = flip_inside _ _ _ _ _ c.loop-i.invariant _ _ c.in-Some.ensures.steps

pub offset_bounds-into-i : goal.offset_bounds-into-i
offset_bounds-into-i c = omega (arith, inside (goal.at.offset_bounds-into-i c).In-Some)

pub bounds-into-i : goal.bounds-into-i
bounds-into-i c = inside (goal.at.bounds-into-i c).In-Some

pub loop-i-preserved : goal.loop-i-preserved
loop-i-preserved c = flip_more _ _ _ _ _ c.loop-i.invariant _ _ c.in-Some.ensures.steps (omega arith)

pub returns : goal.returns
returns c = flip_done _ _ _ _ _ c.loop-i.invariant c.in-None.ensures.steps.0

pub bounds-into-i-in-loop-i : goal.bounds-into-i-in-loop-i
bounds-into-i-in-loop-i c = inside (goal.at.bounds-into-i-in-loop-i c).In-Some
