use mathlib.Core.Path.{sym, subst, ◌∙◌}
use Rattle.fragment_promises.specs.Transfers.{started}
use Rattle.fragment_promises.specs.Promises.{Start}
use Rattle.fragment_promises.proofs.StepLaws.{start_promise}
use Rattle.fragments.proofs.start_at.Goals as goal

pub returns : goal.returns
returns c =
    let a = c.args in
    subst (λ x. Start a.rows a.columns a.k x (started a.rows a.columns a.k)) (sym (c.number_of.ensures ∙ c.lacking.ensures.noted)) (start_promise a.rows a.columns a.k)
