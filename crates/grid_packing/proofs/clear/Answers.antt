use mathlib.Core.Path.{◌∙◌}
use Rattle.grid_packing.proofs.ClearLaws.{zeros}
use Rattle.grid_packing.proofs.clear.Goals as goal

pub returns : goal.returns
returns c = c.fill.ensures.after (λ y e. e) ∙ zeros _
