use Prim.Native.Nat.{ℕ, ◌^◌, ◌<◌}
use Rattle.grid_levels.specs.Steps.{subgrid}
use Rattle.grid_levels.proofs.LevelLaws.{Small, Walk}
use Rattle.grid_levels.proofs.rows.Rows.take_level.Given as goal

abbrev pub invariant-loop-i : goal.invariant-loop-i
invariant-loop-i l =
    let r = l.self in
    Small r.«data».now l.i-iterator.rest l.rows l.columns
    × ((n : ℕ) → l.among.columns < 2 ^ n → Walk n r.«data».now r.mask.now r.values.now (subgrid l.among) l.wrong l.i-iterator.rest l.rows l.columns)
