use mathlib.Core.Path.{ap, ◌∙◌}
use native.Mathlib.Omega.{arith}
use Rattle.bits.proofs.TestLaws.{and_left}
use Rattle.grid_checks.specs.Numbers.{judged}
use Rattle.grid_checks.proofs.JudgeLaws.{sum_few, target_refused, target_passes}
use Rattle.grid_checks.proofs.judge_convert.Goals as goal

pub returns-then-not-in_range-k : goal.returns-then-not-in_range-k
returns-then-not-in_range-k c = target_refused _ _ _ _ _ _ (rw c.in_range.ensures at c.if-not-in_range-k.true)

pub overflow_add-rows : goal.overflow_add-rows
overflow_add-rows c = omega (arith, sum_few _ _ _ (and_left _ _ (rw c.in_range.ensures at c.if-not-in_range-k.false)))

pub returns : goal.returns
returns c =
    let a = c.args in
    c.judge.ensures ∙ ap (judged a.rows a.columns a.k a.counters) c.fits-room.ensures ∙ target_passes _ _ _ _ _ _ (rw c.in_range.ensures at c.if-not-in_range-k.false)
