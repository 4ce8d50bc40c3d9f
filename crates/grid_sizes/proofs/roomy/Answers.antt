use borrow.Author.Tests.{not-true, not-false}
use mathlib.Core.Path.{◌∙◌}
use native.Mathlib.Omega.{arith}
use Rattle.grid_sets.proofs.RoomLaws.{many_lines, few_lines, lines_few}
use Rattle.grid_sizes.proofs.roomy.Goals as goal

pub returns-then-not-rows-columns : goal.returns-then-not-rows-columns
returns-then-not-rows-columns c = let a = c.args in many_lines a.k a.rows a.columns a.bytes (not-true _ c.if-not-rows-columns.true-raw)

pub overflow_add-rows : goal.overflow_add-rows
overflow_add-rows c = let a = c.args in omega (arith, lines_few a.rows a.columns (not-false _ c.if-not-rows-columns.false-raw))

pub returns : goal.returns
returns c = let a = c.args in c.fits.ensures ∙ few_lines a.k a.rows a.columns a.bytes (not-false _ c.if-not-rows-columns.false-raw)
