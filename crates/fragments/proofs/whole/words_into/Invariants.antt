use mathlib.Core.Path.{◌≡◌}
use lib.ListN.{take}
use Rattle.fragment_promises.specs.Transfers.{words_from}
use Rattle.fragments.proofs.whole.words_into.Given as goal

abbrev pub invariant-loop-i : goal.invariant-loop-i
invariant-loop-i l = take l.i l.all ≡ words_from l.from l.i l.bytes
