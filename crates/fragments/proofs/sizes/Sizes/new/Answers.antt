use mathlib.Core.Path.{refl, sym, ◌∙◌}
use Rattle.bits.proofs.TestLaws.{iff_false}
use Rattle.grid_promises.proofs.RefusalLaws.{in_range_lem}
use Rattle.fragments.proofs.sizes.Sizes.new.Goals as goal

pub invariant_of-result : goal.invariant_of-result
invariant_of-result c = let a = c.args in record { in_range = (in_range_lem a.rows a.columns a.k).0 (sym c.in_range.ensures ∙ c.if-in_range.true) }

pub returns-else-in_range-clause-refused : goal.returns-else-in_range-clause-refused
returns-else-in_range-clause-refused c =
    let a = c.args in (refl, iff_false _ (in_range_lem a.rows a.columns a.k) (sym c.in_range.ensures ∙ c.if-in_range.false))
