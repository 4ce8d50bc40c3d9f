use mathlib.Core.Path.{◌≡◌, ap, ◌∙◌}
use Prim.Native.Nat.{ℕ, ◌+◌, ◌*◌, ◌<◌}
use native.Mathlib.Omega.{arith}
use lib.ListN.{length, get_or, take, length-take}
use lib.Seq.{get_or-take}
use Rattle.std.proofs.lemmas.Result.{err_from_is_err_and}
use Rattle.calls.specs.Format.{form_of}
use Rattle.calls.specs.Kinds.{tag_of}
use Rattle.calls.specs.declared.kind.Form.{Form}
use Rattle.calls.proofs.FormatLaws.{small_form, place_within, no_numbers, place_first, place_next, no_place}
use Rattle.calls.proofs.format.place.Goals as goal
use Rattle.calls.proofs.format.place.Goals.{After-form-form}

-- The loop has found where the buffer at its index starts.

numbers : (c : After-form-form) → 1 + 8 * c.form-form.result.numbers ≡ 1 + 8 * (form_of (tag_of c.args.kind)).numbers
numbers c = ap (λ (f : Form). 1 + 8 * f.numbers) c.form-form.ensures

widths : (c : After-form-form) (j : ℕ) → j < length (take c.args.i c.form-form.result.widths)
    → get_or (take c.args.i c.form-form.result.widths) j 0 ≡ get_or (form_of (tag_of c.args.kind)).widths j 0
widths c j l =
    get_or-take c.args.i c.form-form.result.widths j 0 (omega (arith, length-take c.args.i c.form-form.result.widths))
    ∙ ap (λ (f : Form). get_or f.widths j 0) c.form-form.ensures

pub overflow_mul-at : goal.overflow_mul-at
overflow_mul-at c = omega (arith, numbers c, (small_form (tag_of c.args.kind)).numbers)

pub overflow_add-at : goal.overflow_add-at
overflow_add-at c = let few = (small_form (tag_of c.args.kind)).numbers in omega (arith, numbers (goal.at.overflow_add-at c).After-form-form)

pub returns-then-s-at : goal.returns-then-s-at
returns-then-s-at c = no_numbers _ _ _ (omega (arith, c.if-s-at.true, numbers (goal.at.returns-then-s-at c).After-form-form))

pub loop-width-init : goal.loop-width-init
loop-width-init c =
    let e = numbers (goal.at.loop-width-init c).After-form-form in
    (omega arith, e ∙ place_first _ _ (omega arith))

pub after_buffer-requires-clause-inside : goal.after_buffer-requires-clause-inside
after_buffer-requires-clause-inside c =
    let v = c.loop-width.invariant in
    (v.0, omega (arith, v.1, place_within c.args.s.now (form_of (tag_of c.args.kind)) c.loop-width.width-index))

pub after_buffer-requires-clause-narrow : goal.after_buffer-requires-clause-narrow
after_buffer-requires-clause-narrow c =
    let j = c.loop-width.width-index in
    let e = widths (goal.at.after_buffer-requires-clause-narrow c).After-form-form j c.loop-width-test.true in
    omega (arith, (small_form (tag_of c.args.kind)).widths j)

pub returns-in_err-at : goal.returns-in_err-at
returns-in_err-at c =
    let p = err_from_is_err_and c.from_residual.result c.from_residual.ensures.1 in
    let l = c.loop-width in
    rw (p.1, p.2)
    (no_place c.args.s.now (form_of (tag_of c.args.kind)) l.width-index c.args.i (omega (arith, length-take c.args.i c.form-form.result.widths)) l.invariant.0 l.invariant.1
    (widths (goal.at.returns-in_err-at c).After-form-form l.width-index c.loop-width-test.true) c.in_err-at.ensures)

pub loop-width-preserved : goal.loop-width-preserved
loop-width-preserved c =
    let l = c.loop-width in
    let h = c.in_ok-at.ensures in
    (h.1, place_next _ _ l.width-index l.invariant.1 (widths (goal.at.loop-width-preserved c).After-form-form l.width-index c.loop-width-test.true) h.0)
