use Rattle.bits.specs.Bits.{list}
use Rattle.pointer_promises.specs.Pointer.{entry}
use Rattle.pointer.specs.Steps.{Noted}
use Rattle.pointer.proofs.encode.kept.Given as goal

abbrev pub invariant-loop-e : goal.invariant-loop-e
invariant-loop-e l = Noted l.«data» l.digits (list l.e (entry l.row.metadata.now))
