use native.Mathlib.Omega.{arith}
use mathlib.Core.Path.{ap, ◌∙◌}
use Rattle.rdis.specs.Packing.{width, counter}
use Rattle.grid_sets.proofs.SetLaws.{sets_ext}
use Rattle.grid_sets.proofs.PlaneLaws.{threes_ext}
use Rattle.grid_counters.proofs.PromiseLaws.{counter_few, judged}
use Rattle.grid_counters.proofs.held.Held.unpack_narrow.Goals as goal

pub returns : goal.returns
returns g c =
    let h = c.args.self.now in
    let f = counter (width h.k) h.bytes.now in
    let few = counter_few h.k h.bytes.now in
    let first = threes_ext 64 _ f _ (λ i _. ap f (omega arith)) (rw h.wide at c.read-first.ensures) in
    let second = rw h.wide at c.read-second.ensures in
    judged h.k h.rows h.columns h.bytes.now _ _ (record { rows = h.few_rows; columns = h.few_columns; size = h.sized })
    (c.sets-rows.ensures f few first second ∙ sets_ext h.rows _ f (λ i _. ap f (omega arith)))
    (c.sets-columns.ensures f few first second) _ _ _ c.spare_clear.ensures c.none_above-lines.ensures c.and.ensures
