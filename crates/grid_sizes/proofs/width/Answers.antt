use native.Mathlib.Omega.{arith}
use borrow.Author.Tests.{le-leb, lt-leb}
use Rattle.rdis.specs.Packing.{width}
use Rattle.grid_sizes.proofs.width.Goals as goal

pub returns-then-k-le1 : goal.returns-then-k-le1
unfolding width
returns-then-k-le1 c = rw (le-leb c.args.k 1 c.if-k-le1.true)

pub returns-then-k-le3 : goal.returns-then-k-le3
unfolding width
returns-then-k-le3 c = let k = c.args.k in rw (lt-leb k 1 (omega arith), le-leb k 3 c.if-k-le3.true)

pub returns-else-k-le3 : goal.returns-else-k-le3
unfolding width
returns-else-k-le3 c = let k = c.args.k in rw (lt-leb k 1 (omega arith), lt-leb k 3 (omega arith))
