use native.Mathlib.Omega.{arith}
use mathlib.Core.Path.{sym, ◌∙◌}
use lib.ListN.{length}
use Rattle.rdis.proofs.PackingLaws.{width_some, width_few}
use Rattle.grid_sets.proofs.RoomLaws.{Room, has_room}
use Rattle.grid_counters.proofs.held.Held.new.Goals as goal
use Rattle.grid_counters.proofs.held.Held.new.Goals.{Then-roomy}

room : (t : Then-roomy) → let a = t.args in Room a.k a.rows a.columns (length a.bytes.now)
room t = has_room _ _ _ _ (sym t.roomy.ensures ∙ t.if-roomy.true)

pub invariant_of-result : goal.invariant_of-result
invariant_of-result c =
    let k = c.args.k in
    let r = room (goal.at.invariant_of-result c).Then-roomy in
    record {
      few_rows = r.rows;
      few_columns = r.columns;
      wide = c.width.ensures;
      narrow = (omega (arith, c.width.ensures, width_some k), omega (arith, c.width.ensures, width_few k));
      small = λ i. (c.type_inv.bytes i).fits;
      sized = r.size;
    }
