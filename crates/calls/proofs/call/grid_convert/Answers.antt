use mathlib.Core.Path.{ap}
use mathlib.Core.List.{[], ◌∷◌, ◌++◌}
use Rattle.bits.specs.Bits.{list}
use Rattle.calls.specs.Format.{table, form_of}
use Rattle.calls.specs.Kinds.{tag_of}
use Rattle.calls.specs.Calls.{grid_convert}
use Rattle.calls.proofs.TextLaws.{put_next}
use Rattle.calls.proofs.CallLaws.{put_made}
use Rattle.calls.proofs.call.grid_convert.Goals as goal

pub returns : goal.returns
unfolding table form_of list
returns c =
    let r = c.convert-r in
    put_made c.args.call.bytes.now (ap tag_of c.requires) (grid_convert r.ensures r.auto.out)
    (λ i. c.grid_numbers-rows.ensures i ++ (c.number-target.ensures i ∷ []))
    (λ i. c.bytes-counters.ensures i ∷ c.load-converted.ensures i ∷ [])
    (put_next _ _ _ c.answer.ensures c.buffer.ensures)
