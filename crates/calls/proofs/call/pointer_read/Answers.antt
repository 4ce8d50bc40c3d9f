use mathlib.Core.Path.{ap}
use mathlib.Core.List.{[], ◌∷◌}
use Rattle.bits.specs.Bits.{list}
use Rattle.calls.specs.Format.{table, form_of}
use Rattle.calls.specs.Kinds.{tag_of}
use Rattle.calls.specs.Calls.{pointer_read}
use Rattle.calls.proofs.TextLaws.{put_next}
use Rattle.calls.proofs.CallLaws.{put_made}
use Rattle.calls.proofs.call.pointer_read.Goals as goal

pub returns : goal.returns
unfolding table form_of list
returns c =
    let r = c.read-r in
    put_made c.args.call.bytes.now (ap tag_of c.requires) (pointer_read r.ensures r.auto.out) (λ i. c.number-n.ensures i ∷ [])
    (λ i. c.bytes-cells.ensures i ∷ c.bytes-metadata.ensures i ∷ c.load-shown.ensures i ∷ [])
    (put_next _ _ _ c.answer.ensures c.buffer.ensures)
