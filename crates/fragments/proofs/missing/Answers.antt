use native.Mathlib.Omega.{arith}
use Rattle.refusals.proofs.NumberLaws.{not_zero}
use Rattle.fragment_promises.proofs.MissingLaws.{missing_refused, missing_counted}
use Rattle.fragments.proofs.missing.Goals as goal

pub returns-in-Ok : goal.returns-in-Ok
returns-in-Ok c =
    let a = c.args in
    missing_counted a.rows a.columns a.k a.taken 0 c.in-Ok.bytes c.in-Ok.ensures.noted (λ i. 0) (omega (arith, c.in-Ok.ensures.counted))

pub returns-in-Err : goal.returns-in-Err
returns-in-Err c =
    let a = c.args in
    rw c.number.ensures (missing_refused a.rows a.columns a.k a.taken _ c.in-Err.ensures.noted (not_zero _))
