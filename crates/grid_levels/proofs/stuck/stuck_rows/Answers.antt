use Prim.Native.Nat.{◌-◌}
use native.Mathlib.Omega.{arith}
use Rattle.grid_levels.proofs.StuckLaws.{mark_few, from_end, from_few, from_more, from_room, from_eight, four_few}
use Rattle.grid_levels.proofs.stuck.stuck_rows.Goals as goal
use Rattle.grid_levels.proofs.stuck.stuck_rows.Invariants.{holds}

pub loop-i-init : goal.loop-i-init
loop-i-init c = (omega arith, from_end _ (holds c.args.mask.now))

pub overflow_mul-rows : goal.overflow_mul-rows
overflow_mul-rows c = let l = c.loop-i in omega (arith, from_few _ (holds c.args.mask.now) l.i l.rows c.requires (omega arith) l.invariant.1)

pub overflow_add-rows : goal.overflow_add-rows
overflow_add-rows c =
    let l = c.loop-i in
    let stuck = holds c.args.mask.now in
    omega (arith, from_few _ stuck l.i l.rows c.requires (omega arith) l.invariant.1, mark_few (stuck (l.i - 1)) c.mark_if.result c.mark_if.ensures)

pub loop-i-preserved : goal.loop-i-preserved
loop-i-preserved c =
    let l = c.loop-i in
    (omega arith, from_more _ (holds c.args.mask.now) l.i l.rows c.mark_if.result (omega arith) (omega arith) c.mark_if.ensures l.invariant.1)

pub overflow_mul-rows-in-loop-e : goal.overflow_mul-rows-in-loop-e
overflow_mul-rows-in-loop-e c = let l = c.loop-e in omega (arith, from_room _ (holds c.args.mask.now) l.e l.rows c.requires (omega arith) l.invariant)

pub overflow_mul-rows-in-loop-e-2 : goal.overflow_mul-rows-in-loop-e-2
overflow_mul-rows-in-loop-e-2 c = omega (arith, four_few c.bits_of_four.result _ c.bits_of_four.ensures)

pub overflow_add-rows-in-loop-e : goal.overflow_add-rows-in-loop-e
overflow_add-rows-in-loop-e c = omega (arith, four_few c.bits_of_four.result _ c.bits_of_four.ensures, four_few c.bits_of_four-in-loop-e.result _ c.bits_of_four-in-loop-e.ensures)

pub overflow_add-rows-in-loop-e-2 : goal.overflow_add-rows-in-loop-e-2
overflow_add-rows-in-loop-e-2 c =
    let l = c.loop-e in
    omega (
      arith,
      four_few c.bits_of_four.result _ c.bits_of_four.ensures,
      four_few c.bits_of_four-in-loop-e.result _ c.bits_of_four-in-loop-e.ensures,
      from_room _ (holds c.args.mask.now) l.e l.rows c.requires (omega arith) l.invariant,
    )

pub loop-e-preserved : goal.loop-e-preserved
loop-e-preserved c =
    let l = c.loop-e in
    from_eight _ (holds c.args.mask.now) l.e l.rows c.bits_of_four.result c.bits_of_four-in-loop-e.result (omega arith) (omega arith) c.bits_of_four.ensures c.bits_of_four-in-loop-e.ensures l.invariant
