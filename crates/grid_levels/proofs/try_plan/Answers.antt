use Rattle.std.proofs.lemmas.Result.{err_from_is_err_and}
use Rattle.grid_levels.proofs.PlanLaws.{plan_judged_lem, plan_rows, plan_goes_on, plan_comes_back}
use Rattle.grid_levels.proofs.try_plan.Goals as goal

pub returns-in_err-judge_plan : goal.returns-in_err-judge_plan
returns-in_err-judge_plan c =
    let a = c.args in
    let p = err_from_is_err_and c.from_residual.result c.from_residual.ensures.1 in
    rw (p.1, p.2) (plan_judged_lem a.rows a.columns a.k a.«data».now a.mask.now a.values.now a.counters.now _ c.in_err-judge_plan.ensures)

pub invariant_of-lent : goal.invariant_of-lent
invariant_of-lent c =
    let a = c.args in
    let r = plan_rows a.rows a.columns a.k a.«data».now a.mask.now a.values.now a.counters.now c.in_ok-judge_plan.ensures in
    record { few = r.0; masks = r.1; stuck_at = r.2; fit = λ i. (c.type_inv.mask i).fits }

pub plan_sized-requires : goal.plan_sized-requires
plan_sized-requires c =
    let a = c.args in
    plan_goes_on a.rows a.columns a.k a.«data».now a.mask.now a.values.now a.counters.now c.in_ok-judge_plan.ensures

pub returns : goal.returns
returns c =
    let a = c.args in
    plan_comes_back a.rows a.columns a.k a.«data».now a.mask.now a.values.now a.counters.now c.in_ok-judge_plan.ensures _ _ c.plan_sized.ensures
