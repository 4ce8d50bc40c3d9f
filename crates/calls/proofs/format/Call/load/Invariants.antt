use mathlib.Core.Path.{◌≡◌}
use lib.ListN.{take}
use Rattle.std.specs.Prelude.{map}
use Rattle.bits.specs.Bits.{list}
use Rattle.calls.proofs.ElementLaws.{at_place}
use Rattle.calls.proofs.format.Call.load.Given as goal

abbrev pub invariant-loop-j : goal.invariant-loop-j
invariant-loop-j g l =
    take l.j (map g.T.Element.number l.loaded) ≡ list l.j (at_place g.T.Element.number l.self.bytes.now l.at g.T.Element.WIDTH)
