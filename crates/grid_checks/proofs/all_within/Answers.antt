use Rattle.grid_checks.proofs.JudgeLaws.{three_none_past}
use Rattle.grid_checks.proofs.all_within.Goals as goal

pub returns-then-columns-ge-BITS : goal.returns-then-columns-ge-BITS
returns-then-columns-ge-BITS c =
    let a = c.args in
    three_none_past a.columns a.«data».now a.mask.now a.values.now c.if-columns-ge-BITS.true
    (λ i. (c.type_inv.data i).fits) (λ i. (c.type_inv.mask i).fits) (λ i. (c.type_inv.values i).fits)
