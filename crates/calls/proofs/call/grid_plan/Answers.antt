use mathlib.Core.Path.{ap}
use mathlib.Core.List.{[], ◌∷◌}
use Rattle.bits.specs.Bits.{list}
use Rattle.calls.specs.Format.{table, form_of}
use Rattle.calls.specs.Kinds.{tag_of}
use Rattle.calls.specs.Calls.{grid_plan}
use Rattle.calls.proofs.TextLaws.{put_next}
use Rattle.calls.proofs.CallLaws.{put_made}
use Rattle.calls.proofs.call.grid_plan.Goals as goal

pub returns : goal.returns
unfolding table form_of list
returns c =
    let r = c.plan-r in
    put_made c.args.call.bytes.now (ap tag_of c.requires) (grid_plan r.ensures r.auto.counters) c.grid_numbers-rows.ensures
    (λ i. c.load-wanted.ensures i ∷ c.load-mask.ensures i ∷ c.load-values.ensures i ∷ c.load-counters.ensures i ∷ [])
    (put_next _ _ _ c.answer.ensures c.buffer.ensures)
