use mathlib.Core.Path.{refl, sym}
use Rattle.pointer_promises.proofs.NumberLaws.{measured_zero}
use Rattle.refusals.proofs.NumberLaws.{passed_on}
use Rattle.pointer.proofs.RowLaws.{found_arranged, found_shared}
use Rattle.pointer.proofs.decode.found.Goals as goal

-- `found` judges step by step. Assumes nothing.

pub count-requires : goal.count-requires
count-requires c = let s = measured_zero _ _ _ (sym c.in_ok-measured.ensures) in (s.least, s.most)

pub invariant_of-row : goal.invariant_of-row
invariant_of-row c =
    let s = measured_zero _ _ _ (sym c.in_ok-measured.ensures) in
    record { counted = record { least = s.least; most = s.most; long = s.long; count = c.count.ensures.0; few = c.count.ensures.1 } }

pub returns-in_err-arranged-clause-number : goal.returns-in_err-arranged-clause-number
returns-in_err-arranged-clause-number c = passed_on _ _ _ c.from_residual-in_err-arranged.ensures.1 (found_arranged _ _ _ c.in_ok-measured.ensures _ c.in_err-arranged.ensures)

pub returns-in_err-served-clause-number : goal.returns-in_err-served-clause-number
returns-in_err-served-clause-number c =
    passed_on _ _ _ c.from_residual-in_err-served.ensures.1 (found_shared _ _ _ c.in_ok-measured.ensures _ c.in_ok-arranged.ensures c.in_err-served.ensures.number)

pub returns-clause-number : goal.returns-clause-number
returns-clause-number c = found_shared _ _ _ c.in_ok-measured.ensures _ c.in_ok-arranged.ensures c.in_ok-served.ensures.number

pub returns-clause-found : goal.returns-clause-found
returns-clause-found c =
    let s = measured_zero _ _ _ (sym c.in_ok-measured.ensures) in
    record { entries = refl; bytes = refl; sized = s.sized; marks = c.in_ok-served.ensures.served }
