use mathlib.Core.Path.{ap, ◌∙◌}
use native.Mathlib.Omega.{arith}
use Rattle.std.proofs.lemmas.Result.{err_from_is_err_and}
use Rattle.calls.specs.Kinds.{tag_of}
use Rattle.calls.specs.declared.kind.Form.{Form}
use Rattle.calls.proofs.FormatLaws.{small_form, kind_end}
use Rattle.calls.proofs.BadLaws.{no_bytes, no_kind, no_end}
use Rattle.calls.proofs.format.Call.read.Goals as goal

pub returns-in_default : goal.returns-in_default
returns-in_default c = no_bytes _ c.in_default.ensures.value

pub returns-in_err-kind : goal.returns-in_err-kind
returns-in_err-kind c =
    let p = err_from_is_err_and c.from_residual.result c.from_residual.ensures.1 in
    rw (p.1, p.2) (no_kind _ c.in-Some.ensures.value c.in_err-kind.ensures)

pub place-requires : goal.place-requires
place-requires c = omega (arith, ap (λ (f : Form). f.buffers) c.form-form.ensures, (small_form (tag_of c.in_ok-kind.kind)).buffers)

pub returns-in_err-end : goal.returns-in_err-end
returns-in_err-end c =
    let p = err_from_is_err_and c.from_residual-in_err-end.result c.from_residual-in_err-end.ensures.1 in
    rw (p.1, p.2) (no_end _ c.in_ok-kind.kind c.in-Some.ensures.value c.in_ok-kind.ensures (rw c.form-form.ensures at c.in_err-end.ensures))

pub invariant_of-result : goal.invariant_of-result
invariant_of-result c =
    let e = c.in_ok-end.ensures in
    record { ends = rw c.form-form.ensures at e.0 ∙ kind_end c.args.bytes.now c.in_ok-kind.kind; whole = e.1 }
