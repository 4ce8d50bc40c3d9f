use mathlib.Core.Path.{ap}
use mathlib.Core.List.{[], ◌∷◌}
use native.Mathlib.Omega.{arith}
use Rattle.bits.specs.Bits.{list}
use Rattle.calls.specs.Format.{table, form_of, width}
use Rattle.calls.specs.Kinds.{tag_of}
use Rattle.calls.specs.Calls.{transfer}
use Rattle.calls.proofs.FormatLaws.{held}
use Rattle.calls.proofs.ElementLaws.{few_of}
use Rattle.calls.proofs.TextLaws.{put_next}
use Rattle.calls.proofs.CallLaws.{put_made}
use Rattle.calls.proofs.call.transfer.Goals as goal

pub front-steps-requires : goal.front-steps-requires
unfolding table form_of
front-steps-requires c =
    let s = c.args.call in
    omega (arith, few_of (held s.kind s.ends s.whole (ap (λ k. width (tag_of k) 1) c.requires) (omega arith)) c.bytes-script.ensures)

pub returns : goal.returns
unfolding table form_of list
returns c =
    put_made c.args.call.bytes.now (ap tag_of c.requires) (transfer c.run-r.ensures) c.grid_numbers-numbers.ensures
    (λ i. c.bytes-bytes.ensures i ∷ c.bytes-script.ensures i ∷ c.load-shown.ensures i ∷ [])
    (put_next _ _ _ (put_next _ _ _ c.answer.ensures c.buffer.ensures) c.buffer-2.ensures)
