use native.Mathlib.Omega.{arith}
use mathlib.Core.Path.{sym, ◌∙◌}
use Prim.Native.Nat.{◌^◌, ◌<◌}
use lib.ListN.{length}
use Rattle.rdis.specs.Packing.{width}
use Rattle.rdis.proofs.PackingLaws.{bits_few}
use Rattle.grid_sets.proofs.RoomLaws.{Room, packs}
use Rattle.grid_packing.proofs.pack.Goals as goal
use Rattle.grid_packing.proofs.pack.Goals.{Then-packable}

room : (t : Then-packable) → let a = t.args in (a.used < 2 ^ width a.k) × Room a.k a.rows a.columns (length a.out.now)
room t = let a = t.args in packs a.k a.rows a.columns a.used (length a.out.now) (sym t.packable.ensures ∙ t.if-packable.true)

pub invariant_of-row_lines : goal.invariant_of-row_lines
invariant_of-row_lines c = record { few = (room (goal.at.invariant_of-row_lines c).Then-packable).1.rows }

pub invariant_of-column_lines : goal.invariant_of-column_lines
invariant_of-column_lines c = record { few = (room (goal.at.invariant_of-column_lines c).Then-packable).1.columns }

pub pack_levels-requires : goal.pack_levels-requires
pack_levels-requires c =
    let r = room (goal.at.pack_levels-requires c).Then-packable in
    record { few = omega (arith, bits_few c.args.k, r.0); held = r.0; sized = r.1.size }
