use Prim.Native.Nat.{◌*◌}
use lib.ListN.{take}
use Rattle.wire.specs.Text.{hex_of}
use Rattle.calls.specs.Text.{each}
use Rattle.calls.specs.Output.{Adds}
use Rattle.calls.proofs.output.Output.buffer.Given as goal

abbrev pub invariant-loop-element : goal.invariant-loop-element
invariant-loop-element g l =
    Adds (each (λ x. hex_of (2 * g.T.Element.WIDTH) (g.T.Element.number x)) (take l.element-index l.elements)) l.initial.self l.self
