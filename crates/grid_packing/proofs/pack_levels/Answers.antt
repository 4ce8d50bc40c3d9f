use native.Mathlib.Omega.{arith}
use mathlib.Core.Path.{◌≡◌, ap, ◌∙◌}
use lib.ListN.{length, take}
use Rattle.rdis.specs.Packing.{width, packed}
use Rattle.grid_packing.specs.Steps.{counts_of}
use Rattle.grid_packing.proofs.TallyLaws.{taken_counts}
use Rattle.grid_packing.proofs.pack_levels.Goals as goal
use Rattle.grid_packing.proofs.pack_levels.Goals.{Start}

-- the counters by the first sets are those of so many levels
first_sets : (s : Start) → let a = s.args in
    let rows = a.rowsets.now in
    let columns = a.columnsets.now in
    packed (width a.k) (counts_of a.rows.count a.columns.count (length (take a.used rows)) (take a.used rows) (take a.used columns))
    ≡ packed (width a.k) (counts_of a.rows.count a.columns.count a.used rows columns)
first_sets s = let a = s.args in ap (packed (width a.k)) (taken_counts a.used a.rows.count a.columns.count a.rowsets.now a.columnsets.now (omega arith) (omega arith))

pub returns-then-used-eq1 : goal.returns-then-used-eq1
returns-then-used-eq1 c = c.pack_narrow.ensures ∙ first_sets (goal.at.returns-then-used-eq1 c).Start

pub returns-then-used-lt4 : goal.returns-then-used-lt4
returns-then-used-lt4 c = c.pack_narrow-then-used-lt4.ensures ∙ first_sets (goal.at.returns-then-used-lt4 c).Start

pub returns-else-used-lt4 : goal.returns-else-used-lt4
returns-else-used-lt4 c = c.pack_narrow-else-used-lt4.ensures ∙ first_sets (goal.at.returns-else-used-lt4 c).Start
