use mathlib.Core.Path.{refl}
use lib.ListN.{length}
use Rattle.bits.proofs.TestLaws.{clash}
use Rattle.grid_patterns.specs.Promises.{invertible}
use Rattle.grid_patterns.proofs.InvertLaws.{sizes}
use Rattle.grid_patterns.proofs.invert.Goals as goal

pub fill-requires : goal.fill-requires
unfolding invertible
fill-requires c = let a = c.args in sizes a.used (length a.from.now) (length a.into.now) c.if-from-used.true

pub returns-then-from-used : goal.returns-then-from-used
unfolding invertible
returns-then-from-used c = record { inverted = λ _. c.fill.ensures; untouched = λ h. clash c.if-from-used.true h }

pub returns-else-from-used : goal.returns-else-from-used
unfolding invertible
returns-else-from-used c = record { inverted = λ h. clash h c.if-from-used.false; untouched = λ _. refl }
