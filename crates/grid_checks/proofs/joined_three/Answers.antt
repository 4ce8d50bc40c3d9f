use Rattle.grid_checks.proofs.JudgeLaws.{three_apart}
use Rattle.grid_checks.proofs.joined_three.Goals as goal

pub returns : goal.returns
returns c n =
    let a = c.args in
    three_apart n c.joined.result c.joined-2.result c.joined-3.result a.«data».now a.mask.now a.values.now
    (c.joined.ensures n) (c.joined-2.ensures n) (c.joined-3.ensures n)
