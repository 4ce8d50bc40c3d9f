use Prim.Native.Nat.{◌≤◌, ◌<◌}
use mathlib.Core.Path.{ap, ◌∙◌}
use native.Mathlib.Omega.{arith}
use lib.Count.{ones-le}
use lib.ListN.{length, get_or}
use Rattle.grid_levels.proofs.StuckLaws.{rows_few}
use Rattle.grid_levels.proofs.CountLaws.{counting_starts, counting_few, counting_inside, counting_more, counting_least, counting_done}
use Rattle.grid.proofs.stores.counted.Goals as goal
use Rattle.grid.proofs.stores.counted.Goals.{In-Some}

inside : (c : In-Some) → c.in-Some.i < length c.args.rows.now.«data».now
inside c = let r = c.args.rows.now in counting_inside _ _ _ r.few r.fit _ _ _ c.loop-i.invariant _ _ c.in-Some.ensures.steps

few : (c : In-Some) → (c.loop-i.faults ≤ 4096) × (c.loop-i.wrong ≤ 4096)
few c = let r = c.args.rows.now in counting_few _ _ _ r.few r.fit _ _ _ c.loop-i.invariant

pub loop-i-init : goal.loop-i-init
loop-i-init c =
    let r = c.args.rows.now in
    counting_starts _ _ _ _ r.masks
    (ap (λ x. x.rest) c.into_iter-i-iterator.ensures.into_iter_gives ∙ c.ones-i-items.ensures ∙ rows_few r.mask.now _ (omega (arith, r.few, r.masks)) c.stuck_rows.ensures)

pub offset_bounds-rows-i : goal.offset_bounds-rows-i
offset_bounds-rows-i c = omega (arith, inside (goal.at.offset_bounds-rows-i c).In-Some)

pub bounds-rows-i : goal.bounds-rows-i
bounds-rows-i c = omega (arith, inside (goal.at.bounds-rows-i c).In-Some)

pub offset_bounds-rows-i-in-loop-i : goal.offset_bounds-rows-i-in-loop-i
offset_bounds-rows-i-in-loop-i c = omega (arith, inside (goal.at.offset_bounds-rows-i-in-loop-i c).In-Some)

pub bounds-rows-i-in-loop-i : goal.bounds-rows-i-in-loop-i
bounds-rows-i-in-loop-i c = omega (arith, inside (goal.at.bounds-rows-i-in-loop-i c).In-Some)

pub offset_bounds-rows-i-in-loop-i-2 : goal.offset_bounds-rows-i-in-loop-i-2
offset_bounds-rows-i-in-loop-i-2 c = omega (arith, inside (goal.at.offset_bounds-rows-i-in-loop-i-2 c).In-Some)

pub bounds-rows-i-in-loop-i-2 : goal.bounds-rows-i-in-loop-i-2
bounds-rows-i-in-loop-i-2 c = omega (arith, inside (goal.at.bounds-rows-i-in-loop-i-2 c).In-Some)

pub overflow_add-faults : goal.overflow_add-faults
overflow_add-faults c = omega (arith, few (goal.at.overflow_add-faults c).In-Some, ones-le 64 (get_or c.args.rows.now.mask.now c.in-Some.i 0) (c.args.rows.now.fit c.in-Some.i))

pub overflow_add-wrong : goal.overflow_add-wrong
overflow_add-wrong c = omega (arith, few (goal.at.overflow_add-wrong c).In-Some, ones-le 64 c.wrong_cells-w.result (omega arith))

pub loop-i-preserved : goal.loop-i-preserved
loop-i-preserved c =
    let r = c.args.rows.now in
    counting_more _ _ _ r.few r.fit _ _ _ c.loop-i.invariant _ _ c.in-Some.ensures.steps c.wrong_cells-w.result (omega arith) c.wrong_cells-w.ensures

pub overflow_sub-result : goal.overflow_sub-result
overflow_sub-result c = let r = c.args.rows.now in counting_least _ _ _ r.few r.fit _ _ _ c.loop-i.invariant c.in-None.ensures.steps.0

pub returns : goal.returns
returns c = let r = c.args.rows.now in counting_done _ _ _ r.few r.fit _ _ _ c.loop-i.invariant c.in-None.ensures.steps.0 c.args.levels
