use mathlib.Core.Path.{◌≡◌}
use mathlib.Core.List.{◌++◌}
use lib.ListN.{length, drop}
use Rattle.wire.specs.Text.{hex_of}
use Rattle.wire.proofs.text.hex.Given as goal

abbrev pub invariant-loop-i : goal.invariant-loop-i
invariant-loop-i l = hex_of l.i l.rest ++ drop l.i l.text ≡ hex_of (length l.text) l.x
