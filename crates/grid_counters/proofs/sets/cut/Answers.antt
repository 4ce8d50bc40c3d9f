use native.Mathlib.Omega.{arith}
use Rattle.grid_counters.proofs.SetLaws.{cut_second, cut_both}
use Rattle.grid_counters.proofs.sets.cut.Goals as goal

pub returns-then-lines-eq64 : goal.returns-then-lines-eq64
returns-then-lines-eq64 c f e g =
    let a = c.args in
    cut_second a.lines.count a.first a.second a.lines.at f a.lines.few e g c.low_bits-inside.result c.low_bits-inside.ensures c.if-lines-eq64.true

pub returns : goal.returns
returns c f e g =
    let a = c.args in
    cut_both a.lines.count a.first a.second a.lines.at f a.lines.few e g c.low_bits-inside.result c.low_bits-inside.ensures (omega arith)
