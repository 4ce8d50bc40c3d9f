use mathlib.Core.Path.{sym}
use native.Mathlib.Omega.{arith}
use Rattle.grid_checks.proofs.JudgeLaws.{sum_few, out_of_range, in_range_by}
use Rattle.grid_checks.proofs.judge.Goals as goal

pub returns-then-not-in_range : goal.returns-then-not-in_range
returns-then-not-in_range c = out_of_range _ _ _ _ _ (sym (c.if-not-in_range.ensures))

pub overflow_add-rows : goal.overflow_add-rows
overflow_add-rows c = omega (arith, sum_few _ _ _ (sym (c.if-not-in_range.ensures)))

pub returns-then-words-fits : goal.returns-then-words-fits
returns-then-words-fits c = in_range_by _ _ _ _ _ (sym (c.if-not-in_range.ensures)) _ c.fits.ensures _ c.if-words-fits.true

pub returns-else-words-fits : goal.returns-else-words-fits
returns-else-words-fits c = in_range_by _ _ _ _ _ (sym (c.if-not-in_range.ensures)) _ c.fits.ensures _ c.if-words-fits.false
