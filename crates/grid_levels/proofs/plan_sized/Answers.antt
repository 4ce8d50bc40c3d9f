use mathlib.Core.Path.{refl, sym}
use native.Mathlib.Omega.{arith}
use borrow.Author.Tests.{not-true, not-false}
use Rattle.std.proofs.lemmas.Result.{err_from_is_err_and}
use Rattle.grid_promises.specs.Refusals.{InRange}
use Rattle.grid_promises.proofs.RefusalLaws.{in_range_lem}
use Rattle.grid_levels.proofs.PlanLaws.{plan_past_lem, plan_unmaskable, plan_done, plan_clear}
use Rattle.grid_levels.proofs.plan_sized.Goals as goal
use Rattle.grid_levels.proofs.plan_sized.Goals.{Start}

pub returns-then-not-all_within : goal.returns-then-not-all_within
returns-then-not-all_within c = plan_past_lem _ _ _ _ _ _ c.args.lent.now.masks c.args.lent.now.stuck_at c.requires (not-false _ (sym c.if-not-all_within.ensures))

pub returns-then-first-eq0 : goal.returns-then-first-eq0
returns-then-first-eq0 c =
    let f = c.first_level-first in
    plan_clear _ _ _ _ _ _ c.args.lent.now.masks c.args.lent.now.stuck_at c.requires (not-true _ (sym c.if-not-all_within.ensures)) f.result f.ensures _ _ c.if-first-eq0.true c.accepted.ensures c.clear.ensures

pub descend-requires-clause-room : goal.descend-requires-clause-room
descend-requires-clause-room c = let r : InRange _ _ _ = (in_range_lem _ _ _).0 c.requires.ranges in (omega (arith, r.levels.1), refl, refl)

pub returns-in_err-used : goal.returns-in_err-used
returns-in_err-used c =
    let f = c.first_level-first in
    let p = err_from_is_err_and c.from_residual.result c.from_residual.ensures.1 in
    rw (p.1, p.2)
    (plan_unmaskable _ _ _ _ _ _ c.args.lent.now.masks c.args.lent.now.stuck_at c.requires (not-true _ (sym c.if-not-all_within.ensures)) f.result f.ensures _ _ _ _ _ _ c.descend.ensures c.in_err-used.ensures.value)

pub returns : goal.returns
returns c =
    let f = c.first_level-first in
    plan_done _ _ _ _ _ _ c.args.lent.now.masks c.args.lent.now.stuck_at c.requires (not-true _ (sym c.if-not-all_within.ensures)) f.result f.ensures _ _ _ _ _ (rw c.in_ok-used.ensures.ok_part at c.descend.ensures) _ _ c.accepted-2.ensures c.pack.ensures
