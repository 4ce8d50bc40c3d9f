use mathlib.Core.Path.{ap, ◌∙◌}
use Rattle.refusals.specs.Numbers.{number}
use Rattle.refusals.proofs.NumberLaws.{passed_on}
use Rattle.pointer.proofs.RowLaws.{made_judged, made_full, planned_few, made_number, made_planned}
use Rattle.pointer.proofs.plan.made.Goals as goal

-- `made` judges, plans, and adds the full bit or the count. Assumes nothing.

pub returns-in_err-row-clause-number : goal.returns-in_err-row-clause-number
returns-in_err-row-clause-number c = passed_on _ _ _ c.from_residual.ensures.1 (made_judged _ _ _ _ _ _ _ c.in_err-row.ensures.number)

pub returns-in_err-active-clause-number : goal.returns-in_err-active-clause-number
returns-in_err-active-clause-number c =
    let f = c.in_ok-row in
    let e = c.in_err-active.ensures in
    passed_on _ _ _ c.from_residual-in_err-active.ensures.1 (ap number e.0 ∙ made_full _ _ _ _ _ _ _ _ _ _ f.ensures.number f.row.counted f.ensures.found e.1)

pub overflow_sub-result : goal.overflow_sub-result
overflow_sub-result c = let f = c.in_ok-row in planned_few _ _ _ _ _ _ _ _ _ _ f.ensures.number f.row.counted f.ensures.found _ _ c.in_ok-active.ensures

pub returns-clause-number : goal.returns-clause-number
returns-clause-number c = let f = c.in_ok-row in made_number _ _ _ _ _ _ _ _ _ _ f.ensures.number f.row.counted f.ensures.found _ _ c.in_ok-active.ensures

pub returns-clause-made : goal.returns-clause-made
returns-clause-made c = let f = c.in_ok-row in made_planned _ _ _ _ _ _ _ _ _ _ f.ensures.number f.row.counted f.ensures.found _ _ c.in_ok-active.ensures _ c.counted.ensures
