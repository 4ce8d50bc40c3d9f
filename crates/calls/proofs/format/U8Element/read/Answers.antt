use Rattle.std.proofs.Common.{rules, get_or, ◌≡◌}
use mathlib.Core.Path.{◌∙◌}
use Rattle.calls.proofs.ElementLaws.{byte_number}
use Rattle.calls.proofs.format.U8Element.read.Goals as goal

pub returns : goal.returns
returns c =
    let e : c.unwrap_or.result ≡ get_or c.args.bytes.now c.args.at 0 = search rules in
    e ∙ byte_number _ _
