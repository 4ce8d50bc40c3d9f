use mathlib.Core.Path.{sym}
use Rattle.std.proofs.lemmas.Result.{err_from_is_err_and}
use Rattle.fragment_promises.proofs.StandingLaws.{stands_bad}
use Rattle.fragments.proofs.JudgeLaws.{stands_at}
use Rattle.fragments.proofs.lacking.Goals as goal

pub returns-in_err-new-clause-noted : goal.returns-in_err-new-clause-noted
returns-in_err-new-clause-noted c =
    let p = err_from_is_err_and c.from_residual.result c.from_residual.ensures.1 in
    let (e, bad) = c.in_err-new.ensures.refused in
    let a = c.args in
    rw (p.1, p.2, e) (sym (stands_bad a.rows a.columns a.k a.taken bad))

pub returns-clause-noted : goal.returns-clause-noted
returns-clause-noted c =
    let (m, n, k) = c.in_ok-new.ensures.kept in
    let s = c.in_ok-new.field-0 in
    rw (← m, ← n, ← k) (stands_at s.rows s.columns s.k c.args.taken s.in_range c.lacking.result c.lacking.ensures.counted c.lacking.ensures.refused)
