use Rattle.grid_levels.proofs.rows.Rows.+descend.Given as goal

abbrev pub decreases-descend : goal.decreases-descend
decreases-descend l = l.allowed
