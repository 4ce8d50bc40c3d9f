use Prim.Native.Nat.{ℕ, ◌*◌, ◌/◌, ◌≤◌}
use mathlib.Core.Bool.{Bool, not}
use mathlib.Core.List.{List}
use lib.Dec.{eqb}
use lib.ListN.{length, get_or}
use Rattle.grid_levels.proofs.StuckLaws.{From}
use Rattle.grid_levels.proofs.stuck.stuck_rows.Given as goal

-- row i holds a stuck cell
abbrev pub holds : List ℕ → ℕ → Bool
holds mask i = not (eqb (get_or mask i 0) 0)

abbrev pub invariant-loop-i : goal.invariant-loop-i
invariant-loop-i l = (8 * (length l.mask / 8) ≤ l.i) × From (length l.mask) (holds l.mask) l.i l.rows

abbrev pub invariant-loop-e : goal.invariant-loop-e
invariant-loop-e l = From (length l.mask) (holds l.mask) (8 * l.e) l.rows
