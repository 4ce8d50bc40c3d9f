use mathlib.Core.Path.{ap}
use mathlib.Core.List.{[], ◌∷◌}
use Rattle.bits.specs.Bits.{list}
use Rattle.calls.specs.Format.{table, form_of}
use Rattle.calls.specs.Kinds.{tag_of}
use Rattle.calls.specs.Calls.{pointer_write}
use Rattle.calls.proofs.TextLaws.{put_next}
use Rattle.calls.proofs.CallLaws.{put_made}
use Rattle.calls.proofs.call.pointer_write.Goals as goal

pub returns : goal.returns
unfolding table form_of list
returns c =
    let r = c.write-r in
    put_made c.args.call.bytes.now (ap tag_of c.requires) (pointer_write r.ensures r.auto.cells r.auto.metadata) (λ i. c.number-n.ensures i ∷ [])
    (λ i. c.bytes-wanted.ensures i ∷ c.bytes-mask.ensures i ∷ c.bytes-values.ensures i ∷ c.load-cells.ensures i ∷ c.load-metadata.ensures i ∷ [])
    (put_next _ _ _ (put_next _ _ _ c.answer.ensures c.buffer.ensures) c.buffer-2.ensures)
