use mathlib.Core.Path.{sym}
use native.Mathlib.Omega.{arith}
use Rattle.calls.proofs.StreamLaws.{whole_not_cut}
use Rattle.calls.proofs.CallLaws.{kind_ends}
use Rattle.calls.proofs.call.is_cut_short.Goals as goal

pub returns-in-Ok : goal.returns-in-Ok
returns-in-Ok c =
    let k = c.in-Ok.field-0 in
    let e = kind_ends c.args.s.now k.kind k.ends c.in-Ok.ensures in
    sym (whole_not_cut c.args.s.now (λ z. omega (arith, k.whole)))
