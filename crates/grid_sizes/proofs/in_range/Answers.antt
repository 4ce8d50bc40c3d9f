use mathlib.Core.Path.{ap₂}
use mathlib.Core.Bool.{◌&&◌}
use Rattle.grid_promises.specs.Calls.{in_range}
use Rattle.grid_sizes.proofs.in_range.Goals as goal

pub returns : goal.returns
returns c = unfold in_range in ap₂ ◌&&◌ c.is_between.ensures (ap₂ ◌&&◌ c.is_between-2.ensures c.is_between-3.ensures)
