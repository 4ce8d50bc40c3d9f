use Rattle.pointer.proofs.CellLaws.{Patching}
use Rattle.pointer.proofs.cells.show.Given as goal

abbrev pub invariant-loop-i : goal.invariant-loop-i
invariant-loop-i l = Patching l.cells l.row.metadata.now l.out l.i
