use mathlib.Core.Path.{◌≡◌, refl}
use native.Mathlib.Omega.{arith}
use Rattle.std.proofs.Common.{rules}
use Rattle.bits.proofs.BoundLaws.{length_list}
use Rattle.words.proofs.SetBitsLaws.{place_below}
use Rattle.pointer_promises.specs.Pointer.{entry}
use Rattle.pointer.proofs.PlanLaws.{plan_start, sift_start, sift_more, sift_over, sift_done}
use Rattle.pointer.proofs.plan.planned.Goals as goal

-- `planned` goes from byte to byte, and within each from one unserved position to the next.
-- Assumes nothing.

pub loop-i-init : goal.loop-i-init
loop-i-init c = let r = c.args.row.now in plan_start _ _ _ _ _ r.active (omega arith) (length_list r.active (entry r.metadata.now)) c.kept-digits.ensures

pub loop-k-init : goal.loop-k-init
loop-k-init c =
    let all : c.into_iter-k-iterator.result.rest ≡ c.unserved.result = search rules in
    rw all (sift_start _ _ _ _ _ _ _ _ _ _ c.loop-i.invariant (omega (arith, c.unserved.type_inv)) c.unserved.ensures)

pub returns-then-row-active : goal.returns-then-row-active
returns-then-row-active c = (refl, sift_over _ _ _ _ _ _ _ _ c.loop-k.invariant (omega arith) _ _ c.in-Some.ensures.steps c.if-row-active.true)

pub overflow_add-i : goal.overflow_add-i
overflow_add-i c = omega (arith, place_below 8 _ _ _ c.loop-k.invariant.small c.in-Some.ensures.steps)

pub loop-k-preserved : goal.loop-k-preserved
loop-k-preserved c = sift_more _ _ _ _ _ _ _ _ c.loop-k.invariant (omega arith) _ _ c.in-Some.ensures.steps _ c.if-row-active.false (omega arith) c.renewed.ensures

pub loop-i-preserved : goal.loop-i-preserved
loop-i-preserved c = sift_done _ _ _ _ _ _ _ _ c.loop-k.invariant (omega arith) c.in-None.ensures.steps.0
