use mathlib.Core.Path.{refl}
use Rattle.wire.specs.Text.{decimal}
use Rattle.wire.proofs.TextLaws.{put_both}
use Rattle.calls.specs.Text.{behind}
use Rattle.calls.proofs.TextLaws.{none_yet, one_more_lem, all_put, put_first}
use Rattle.calls.proofs.output.Output.answer.Goals as goal

-- The loop has put the figures below its index.

pub loop-x-init : goal.loop-x-init
loop-x-init c = none_yet _

pub loop-x-preserved : goal.loop-x-preserved
loop-x-preserved c =
    let l = c.loop-x in
    one_more_lem (λ x. behind (decimal x)) c.args.figures.now l.x-index 0 _ c.loop-x-test.true refl l.invariant (put_both c.text.ensures c.number-in-loop-x.ensures)

pub returns : goal.returns
returns c = put_first _ _ c.number.ensures (all_put (λ x. behind (decimal x)) c.args.figures.now c.loop-x.x-index c.loop-x-test.false c.loop-x.invariant)
