use native.Mathlib.Omega.{arith}
use Rattle.std.proofs.lemmas.Result.{err_from_is_err_and}
use Rattle.grid_promises.specs.Refusals.{InRange}
use Rattle.grid_promises.proofs.RefusalLaws.{in_range_lem}
use Rattle.grid.proofs.StoreLaws.{shows_on, store_refused_lem, store_misread, store_done}
use Rattle.grid.proofs.store_by.Goals as goal

pub show_sized-requires : goal.show_sized-requires
show_sized-requires c =
    let p = c.requires in
    let r = c.args.lent.now in
    let l : InRange _ _ _ = (in_range_lem _ _ _).0 p.sized.planned.ranges in
    (shows_on _ _ _ _ _ _ _ r.masks r.stuck_at p.sized p.inside _ p.room, omega (arith, l.levels.1))

pub returns-in_err-levels : goal.returns-in_err-levels
returns-in_err-levels c =
    let p = c.requires in
    let r = c.args.lent.now in
    let q = err_from_is_err_and c.from_residual.result c.from_residual.ensures.1 in
    rw (q.1, q.2) (store_refused_lem _ _ _ _ _ _ _ r.masks r.stuck_at p.sized p.inside _ _ p.room _ c.in_err-levels.ensures)

pub returns-then-misreads : goal.returns-then-misreads
returns-then-misreads c =
    let p = c.requires in
    let r = c.args.lent.now in
    store_misread _ _ _ _ _ _ _ r.masks r.stuck_at p.sized p.inside _ _ p.room _ c.in_ok-levels.ensures _ c.misreads.ensures c.if-misreads.true

pub returns : goal.returns
returns c =
    let p = c.requires in
    let r = c.args.lent.now in
    store_done _ _ _ _ _ _ _ r.masks r.stuck_at p.sized p.inside _ _ p.room _ c.in_ok-levels.ensures _ c.misreads.ensures _ _ c.if-misreads.false c.counted.ensures c.copy.ensures
