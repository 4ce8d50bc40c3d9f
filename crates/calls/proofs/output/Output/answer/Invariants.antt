use lib.ListN.{take}
use Rattle.wire.specs.Text.{decimal}
use Rattle.calls.specs.Text.{each, behind}
use Rattle.calls.specs.Output.{Adds}
use Rattle.calls.proofs.output.Output.answer.Given as goal

abbrev pub invariant-loop-x : goal.invariant-loop-x
invariant-loop-x l = Adds (each (λ x. behind (decimal x)) (take l.x-index l.figures)) l.initial.self l.self
