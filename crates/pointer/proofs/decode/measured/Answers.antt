use mathlib.Core.Bool.{true, false}
use mathlib.Core.Path.{sym}
use Rattle.std.proofs.Common.{arith, rules}
use Rattle.std.proofs.lemmas.Grind.{common_steps}
use Rattle.pointer_promises.proofs.NumberLaws.{measured_in}
use Rattle.pointer.proofs.RowLaws.{measured_out}
use Rattle.pointer.proofs.decode.measured.Goals as goal

-- `measured` judges n first, then the lengths. Assumes nothing.

pub returns-then-not-contains : goal.returns-then-not-contains
returns-then-not-contains c = measured_out _ _ _ (grind (arith, common_steps))

pub returns-then-fixed-metadata : goal.returns-then-fixed-metadata
returns-then-fixed-metadata c = measured_in _ _ _ true (search rules) (search rules) (sym c.if-fixed-metadata.true)

pub returns-else-fixed-metadata : goal.returns-else-fixed-metadata
returns-else-fixed-metadata c = measured_in _ _ _ false (search rules) (search rules) (sym c.if-fixed-metadata.false)
