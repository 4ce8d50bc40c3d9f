use Prim.Native.Nat.{◌≤◌, ◌<◌}
use mathlib.Core.Path.{ap, ◌∙◌}
use native.Mathlib.Omega.{arith}
use lib.Count.{ones-le}
use lib.ListN.{length, get_or}
use Rattle.grid_levels.proofs.CountLaws.{counting_few}
use Rattle.grid_levels.proofs.LevelLaws.{walk_inside}
use Rattle.grid_levels.proofs.FirstLaws.{begin_starts, begin_more, begin_done}
use Rattle.grid_levels.proofs.rows.Rows.first_level.Goals as goal
use Rattle.grid_levels.proofs.rows.Rows.first_level.Goals.{In-Some}

inside : (c : In-Some) → c.in-Some.i < length c.args.self.now.«data».now
inside c = walk_inside _ _ _ _ _ _ c.loop-i.invariant.small c.in-Some.ensures.steps

few : (c : In-Some) → (c.loop-i.faults ≤ 4096) × (c.loop-i.wrong ≤ 4096)
few c = let r = c.args.self.now in counting_few _ _ _ r.few r.fit _ _ _ c.loop-i.invariant.counting

pub loop-i-init : goal.loop-i-init
loop-i-init c =
    begin_starts _ _ _ c.args.self.now.masks _ (ap (λ x. x.rest) c.into_iter-i-iterator.ensures.into_iter_gives ∙ c.ones-i-items.ensures ∙ c.stuck_rows.ensures)

pub stuck_as-w-requires : goal.stuck_as-w-requires
stuck_as-w-requires c = inside (goal.at.stuck_as-w-requires c).In-Some

pub offset_bounds-self-i : goal.offset_bounds-self-i
offset_bounds-self-i c = omega (arith, inside (goal.at.offset_bounds-self-i c).In-Some)

pub bounds-self-i : goal.bounds-self-i
bounds-self-i c = omega (arith, inside (goal.at.bounds-self-i c).In-Some)

pub overflow_add-faults : goal.overflow_add-faults
overflow_add-faults c =
    omega (arith, few (goal.at.overflow_add-faults c).In-Some, ones-le 64 (get_or c.args.self.now.mask.now c.in-Some.i 0) (c.args.self.now.fit c.in-Some.i))

pub overflow_add-wrong : goal.overflow_add-wrong
overflow_add-wrong c = omega (arith, few (goal.at.overflow_add-wrong c).In-Some, ones-le 64 c.stuck_as-w.result (omega arith))

pub mark_if-rows-requires : goal.mark_if-rows-requires
mark_if-rows-requires c = omega (arith, inside (goal.at.mark_if-rows-requires c).In-Some, c.args.self.now.few)

pub loop-i-preserved : goal.loop-i-preserved
loop-i-preserved c =
    let r = c.args.self.now in
    begin_more _ _ _ r.masks _ r.few r.fit _ _ _ _ _ c.loop-i.invariant _ _ c.in-Some.ensures.steps c.stuck_as-w.result c.mark_if-rows.result (omega arith) c.stuck_as-w.ensures c.mark_if-rows.ensures

pub returns : goal.returns
returns c =
    let r = c.args.self.now in
    begin_done _ _ _ r.masks _ r.few r.fit _ _ _ _ _ c.loop-i.invariant c.in-None.ensures.steps.0
