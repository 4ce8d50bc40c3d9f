use mathlib.Core.List.{[], ◌∷◌}
use Rattle.bits.specs.Bits.{list}
use Rattle.calls.proofs.format.Call.grid_numbers.Goals as goal

pub returns : goal.returns
unfolding list
returns c = λ i. c.number.ensures i ∷ c.number-2.ensures i ∷ c.number-3.ensures i ∷ []
