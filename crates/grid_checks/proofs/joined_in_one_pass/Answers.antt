use native.Mathlib.Omega.{arith}
use Rattle.grid_checks.proofs.JudgeLaws.{three_none, three_more, three_done}
use Rattle.grid_checks.proofs.joined_in_one_pass.Goals as goal

pub loop-i-init : goal.loop-i-init
loop-i-init c = three_none c.args.«data».now c.args.mask.now c.args.values.now

pub loop-i-preserved : goal.loop-i-preserved
loop-i-preserved c =
    let a = c.args in
    let l = c.loop-i in
    three_more a.«data».now a.mask.now a.values.now l.i l.all l.invariant

pub returns : goal.returns
returns c =
    let a = c.args in
    let l = c.loop-i in
    three_done a.«data».now a.mask.now a.values.now l.i l.all (omega arith) c.requires.masks c.requires.stuck_at l.invariant
