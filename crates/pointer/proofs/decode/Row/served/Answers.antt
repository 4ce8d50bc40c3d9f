use native.Mathlib.Omega.{arith}
use Rattle.pointer.proofs.DecodeLaws.{mark_start, mark_more, mark_twice, mark_none, mark_done}
use Rattle.pointer.proofs.decode.Row.served.Goals as goal

-- `served` marks entry by entry. Assumes nothing.

pub loop-i-init : goal.loop-i-init
loop-i-init c = mark_start _

pub loop-i-preserved : goal.loop-i-preserved
loop-i-preserved c =
    let l = c.loop-i in
    mark_more _ l.i c.entry_at-p.result _ l.served c.entry_at-p.ensures (omega (arith, c.shown-c.type_inv)) c.shown-c.ensures l.invariant c.if-b-c.false

pub returns-then-b-c-clause-number : goal.returns-then-b-c-clause-number
returns-then-b-c-clause-number c =
    let l = c.loop-i in
    mark_twice _ l.i c.entry_at-p.result _ l.served c.entry_at-p.ensures (omega (arith, c.shown-c.type_inv)) c.shown-c.ensures l.invariant _ _ c.args.self.now.counted (omega arith) c.if-b-c.true

pub returns-clause-number : goal.returns-clause-number
returns-clause-number c = mark_none _ _ _ _ _ c.args.self.now.counted (omega arith) c.loop-i.invariant

pub returns-clause-served : goal.returns-clause-served
returns-clause-served c = mark_done _ _ _ _ _ c.args.self.now.counted (omega arith) c.loop-i.invariant
