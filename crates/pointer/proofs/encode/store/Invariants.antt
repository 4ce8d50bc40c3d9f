use mathlib.Core.Path.{◌≡◌}
use lib.ListN.{take}
use Rattle.bits.specs.Bits.{bytes}
use Rattle.pointer.specs.Steps.{digit_bit}
use Rattle.pointer.proofs.encode.store.Given as goal

abbrev pub invariant-loop-j : goal.invariant-loop-j
invariant-loop-j l = take l.j l.m ≡ bytes l.j (digit_bit l.digits)
