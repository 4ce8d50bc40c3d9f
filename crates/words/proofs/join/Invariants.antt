use mathlib.Core.Path.{◌≡◌}
use lib.ListN.{take, drop}
use Rattle.bits.specs.Bits.{number}
use Rattle.words.proofs.join.Given as goal

abbrev pub invariant-loop-j : goal.invariant-loop-j
invariant-loop-j l = l.v ≡ number 256 (take l.j (drop l.at l.bytes))
