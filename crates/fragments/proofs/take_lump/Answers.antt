use Rattle.std.proofs.Common.{rules}
use native.Mathlib.Omega.{arith}
use mathlib.Core.Path.{sym}
use Rattle.std.proofs.lemmas.Result.{err_from_is_err_and}
use Rattle.refusals.proofs.NumberLaws.{number_some}
use Rattle.fragment_promises.proofs.StepLaws.{lump_refused}
use Rattle.fragments.proofs.CodeLaws.{lump_noted, lump_end, lump_copied}
use Rattle.fragments.proofs.take_lump.Goals as goal

pub returns-in_err-room : goal.returns-in_err-room
returns-in_err-room c =
    let p = err_from_is_err_and c.from_residual.result c.from_residual.ensures.1 in
    rw (p.1, p.2) (lump_noted c.args.transfer.now c.args.lump.now _ (search rules) c.in_err-room.ensures.noted (number_some _))

pub returns-then-lump-room : goal.returns-then-lump-room
returns-then-lump-room c =
    let e = c.in_ok-room.ensures in
    lump_refused c.args.transfer.now c.args.lump.now (search rules) (sym e.noted) (omega (arith, e.counted, c.if-lump-room.true))

pub overflow_add-end : goal.overflow_add-end
overflow_add-end c =
    let e = c.in_ok-room.ensures in
    omega (arith, lump_end c.args.transfer.now c.in_ok-room.room _ e.noted e.counted c.if-lump-room.false)

pub slice_bounds-copy_bytes-end : goal.slice_bounds-copy_bytes-end
slice_bounds-copy_bytes-end c =
    let e = c.in_ok-room.ensures in
    let l = lump_end c.args.transfer.now c.in_ok-room.room _ e.noted e.counted c.if-lump-room.false in
    search rules

pub returns : goal.returns
returns c =
    let e = c.in_ok-room.ensures in
    lump_copied c.args.transfer.now c.args.lump.now _ c.in_ok-room.room _ (search rules) e.noted e.counted c.if-lump-room.false c.copy_bytes.ensures (omega arith)
