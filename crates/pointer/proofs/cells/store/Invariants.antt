use mathlib.Core.Path.{◌≡◌}
use lib.ListN.{take}
use Rattle.bits.specs.Bits.{bytes}
use Rattle.pointer_promises.specs.Pointer.{stored}
use Rattle.pointer.proofs.cells.store.Given as goal

abbrev pub invariant-loop-j : goal.invariant-loop-j
invariant-loop-j l = take l.j l.cells ≡ bytes l.j (stored l.wanted.«data».now l.wanted.mask.now l.wanted.values.now)
