use Rattle.std.proofs.lemmas.Result.{err_from_is_err_and}
use Rattle.grid.proofs.ConvertLaws.{convert_judged_lem, convert_done}
use Rattle.grid.proofs.try_convert.Goals as goal

pub returns-in_err-judge_convert : goal.returns-in_err-judge_convert
returns-in_err-judge_convert c =
    let a = c.args in
    let p = err_from_is_err_and c.from_residual.result c.from_residual.ensures.1 in
    rw (p.1, p.2) (convert_judged_lem a.rows a.columns a.k a.to a.counters.now a.out.now (λ i. (c.type_inv.counters i).fits) _ c.in_err-judge_convert.ensures)

pub returns : goal.returns
returns c =
    let a = c.args in
    convert_done a.rows a.columns a.k a.to a.counters.now a.out.now (λ i. (c.type_inv.counters i).fits) c.in_ok-judge_convert.ensures c.convert.result _ c.convert.ensures
