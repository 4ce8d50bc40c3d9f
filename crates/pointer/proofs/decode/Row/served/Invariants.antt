use Rattle.pointer.proofs.DecodeLaws.{Marking}
use Rattle.pointer.proofs.decode.Row.served.Given as goal

abbrev pub invariant-loop-i : goal.invariant-loop-i
invariant-loop-i l = Marking l.self.metadata.now l.i l.served
