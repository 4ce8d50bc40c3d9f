use borrow.Author.Tests.{le-leb, lt-leb}
use native.Mathlib.Omega.{arith}
use Rattle.grid_sizes.proofs.is_between.Goals as goal

pub returns-then-first-x : goal.returns-then-first-x
returns-then-first-x c = rw (le-leb c.args.first c.args.x c.if-first-x.true)

pub returns-else-first-x : goal.returns-else-first-x
returns-else-first-x c = rw (lt-leb c.args.first c.args.x (omega arith))
