use native.Mathlib.Omega.{arith}
use Rattle.grid_levels.specs.Steps.{subgrid}
use Rattle.grid_levels.proofs.DescendLaws.{planned_none, planned_stop, planned_more}
use Rattle.grid_levels.proofs.rows.Rows.+descend.Goals as goal

pub returns-then-taken-eq0 : goal.returns-then-taken-eq0
returns-then-taken-eq0 t c =
    let a = c.args in
    let r = a.self.now in
    planned_none r.«data».now r.mask.now r.values.now a.wrong (subgrid a.taken) a.allowed a.at a.rows.now a.columns.now c.if-taken-eq0.true

pub returns-then-allowed-eq0 : goal.returns-then-allowed-eq0
returns-then-allowed-eq0 t c =
    let a = c.args in
    let r = a.self.now in
    planned_stop r.«data».now r.mask.now r.values.now a.wrong (subgrid a.taken) a.allowed a.at a.rows.now a.columns.now c.if-taken-eq0.false c.if-allowed-eq0.true

pub returns : goal.returns
returns t c =
    let a = c.args in
    let r = a.self.now in
    let p = c.requires.room in
    let y = c.if-allowed-eq0.false in
    let k = c.take_level-next in
    planned_more r.«data».now r.mask.now r.values.now a.wrong (subgrid a.taken) a.allowed a.at a.rows.now a.columns.now (subgrid k.result) _ _ c.descend.result
    c.if-taken-eq0.false y (omega (arith, y, p.0, p.1)) (omega (arith, y, p.0, p.2)) k.ensures c.descend.ensures
