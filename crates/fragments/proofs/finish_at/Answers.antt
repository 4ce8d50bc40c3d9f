use Rattle.std.proofs.Common.{rules}
use mathlib.Core.Path.{refl}
use native.Mathlib.Omega.{arith}
use lib.ListN.{take, length-take}
use Rattle.refusals.proofs.NumberLaws.{not_zero}
use Rattle.fragments.proofs.JudgeLaws.{Held, held_is, whole_size, finish_refused, finish_whole}
use Rattle.fragments.proofs.finish_at.Goals as goal
use Rattle.fragments.proofs.finish_at.Goals.{In-Ok}

-- what is held, where it is a whole block
whole : (g : In-Ok) → let t = g.args.transfer.now in Held t.rows t.columns t.k t.taken (take g.min.result t.bytes) g.args.out.now 0
whole g = record { below = g.in-Ok.ensures.bytes; few = omega (arith, length-take g.min.result g.args.transfer.now.bytes, g.min.ensures); first = g.in-Ok.ensures.judged }

pub read_whole-requires : goal.read_whole-requires
read_whole-requires c =
    let (m, n, k) = c.in-Ok.ensures.kept in
    rw (m, n, k) (whole_size (whole (goal.at.read_whole-requires c).In-Ok) refl)

pub returns-in-Ok : goal.returns-in-Ok
returns-in-Ok c =
    let (m, n, k) = c.in-Ok.ensures.kept in
    rw (← held_is c.args.transfer.now c.min.result (search rules) c.min.ensures)
    (finish_whole (whole (goal.at.returns-in-Ok c).In-Ok) refl c.read_whole.result _ (rw (← m, ← n, ← k) c.read_whole.ensures))

pub returns-in-Err : goal.returns-in-Err
returns-in-Err c =
    let t = c.args.transfer.now in
    rw (c.number.ensures, ← held_is t c.min.result (search rules) c.min.ensures)
    (finish_refused (record { below = c.in-Err.ensures.bytes; few = omega (arith, length-take c.min.result t.bytes, c.min.ensures); first = c.in-Err.ensures.judged }) (not_zero _))
