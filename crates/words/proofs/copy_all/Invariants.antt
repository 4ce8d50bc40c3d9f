use mathlib.Core.Path.{◌≡◌}
use lib.ListN.{take}
use Rattle.words.proofs.copy_all.Given as goal

abbrev pub invariant-loop-i : goal.invariant-loop-i
invariant-loop-i l = take l.i l.into ≡ take l.i l.from
