use Prim.Native.Nat.{◌*◌}
use Rattle.bits.specs.Bits.{list}
use Rattle.pointer_promises.specs.Pointer.{entry}
use Rattle.pointer.specs.Steps.{unserved_at}
use Rattle.pointer.proofs.PlanLaws.{Planning, Sifting}
use Rattle.pointer.proofs.plan.planned.Given as goal

abbrev pub invariant-loop-i : goal.invariant-loop-i
invariant-loop-i l =
    let w = l.wanted in
    Planning l.row.n w.«data».now (unserved_at w.«data».now w.mask.now w.values.now l.served) (list l.row.active (entry l.row.metadata.now)) l.digits l.active (8 * l.i)

abbrev pub invariant-loop-k : goal.invariant-loop-k
invariant-loop-k l =
    let w = l.wanted in
    Sifting l.row.n w.«data».now (unserved_at w.«data».now w.mask.now w.values.now l.served) (list l.row.active (entry l.row.metadata.now)) l.digits l.active l.i l.k-iterator.rest
