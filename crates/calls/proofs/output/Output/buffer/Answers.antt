use mathlib.Core.Path.{sym, ap₂, ◌∙◌}
use borrow.Author.Tests.{eqb-true, eqb-false}
use Prim.Native.Nat.{◌*◌}
use Rattle.wire.specs.Text.{hex_of}
use Rattle.wire.proofs.TextLaws.{put_same}
use Rattle.calls.proofs.TextLaws.{none_yet, one_more_lem, put_empty, put_some}
use Rattle.calls.proofs.output.Output.buffer.Goals as goal

-- The loop has put the elements below its index.

pub loop-element-init : goal.loop-element-init
loop-element-init g c = none_yet _

pub loop-element-preserved : goal.loop-element-preserved
loop-element-preserved g c =
    let l = c.loop-element in
    one_more_lem (λ x. hex_of (2 * g.T.Element.WIDTH) (g.T.Element.number x)) c.args.elements.now l.element-index c.element-item.result c.element-item.result c.loop-element-test.true
    c.element-item.is l.invariant (put_same (ap₂ (λ w n. hex_of (2 * w) n) c.WIDTH.ensures c.number.ensures) c.digits.ensures)

pub returns-then-is_empty : goal.returns-then-is_empty
returns-then-is_empty g c =
    put_empty g.T.Element.number (2 * g.T.Element.WIDTH) c.args.elements.now (g.met.T.Element.each_number c.args.elements.now) (eqb-true _ 0 (sym c.is_empty.ensures ∙ c.if-is_empty.true))
    c.text.ensures c.text-then-is_empty.ensures

pub returns : goal.returns
returns g c =
    let l = c.loop-element in
    put_some g.T.Element.number (2 * g.T.Element.WIDTH) l.element-index c.args.elements.now (g.met.T.Element.each_number c.args.elements.now) (eqb-false _ 0 (sym c.is_empty.ensures ∙ c.if-is_empty.false)) c.loop-element-test.false
    c.text.ensures l.invariant
