use Prim.Native.Nat.{◌^◌, ◌<◌}
use mathlib.Core.Path.{◌≡◌, ap, ◌∙◌}
use native.Mathlib.Omega.{arith}
use lib.Bits.{bit_and, and_le_l}
use lib.ListN.{length}
use Rattle.grid_levels.specs.Steps.{subgrid}
use Rattle.grid_levels.proofs.LevelLaws.{row_holds, small_starts, walk_starts, walk_inside, small_more, walk_more, walk_done}
use Rattle.grid_levels.proofs.rows.Rows.take_level.Goals as goal
use Rattle.grid_levels.proofs.rows.Rows.take_level.Goals.{In-Some}

inside : (c : In-Some) → c.in-Some.i < length c.args.self.now.«data».now
inside c = walk_inside _ _ _ _ _ _ c.loop-i.invariant.0 c.in-Some.ensures.steps

pub loop-i-init : goal.loop-i-init
loop-i-init c =
    let r = c.args.self.now in
    let e : c.into_iter-i-iterator.result.rest ≡ c.args.among.rows = ap (λ x. x.rest) c.into_iter-i-iterator.ensures.into_iter_gives ∙ c.ones-i-items.ensures in
    rw e (small_starts _ _ c.requires, λ n _. walk_starts n r.«data».now r.mask.now r.values.now (subgrid c.args.among) c.args.wrong)

pub stuck_as-requires : goal.stuck_as-requires
stuck_as-requires c = inside (goal.at.stuck_as-requires c).In-Some

pub mark_if-rows-requires : goal.mark_if-rows-requires
mark_if-rows-requires c = omega (arith, inside (goal.at.mark_if-rows-requires c).In-Some, c.args.self.now.few)

pub loop-i-preserved : goal.loop-i-preserved
loop-i-preserved c =
    let r = c.args.self.now in
    let k = c.stuck_as in
    let s = subgrid c.args.among in
    let v = c.loop-i.invariant in
    let next = c.in-Some.ensures.steps in
    let fits : bit_and k.result s.columns < 2 ^ 64 = omega (arith, and_le_l k.result s.columns) in (
      small_more _ _ _ _ _ _ v.0 next _ c.mark_if-rows.result fits c.mark_if-rows.ensures,
      λ n h. walk_more n _ _ _ s c.args.wrong _ _ _ v.0 (v.1 n h) h _ _ next _ c.mark_if-rows.result fits
          (row_holds n r.«data».now r.mask.now r.values.now c.args.wrong s.columns c.in-Some.i k.result k.ensures) c.mark_if-rows.ensures,
    )

pub returns : goal.returns
returns c =
    let v = c.loop-i.invariant in
    record {
      few = v.0.rows_fit;
      taken· = λ n h. walk_done n _ _ _ (subgrid c.args.among) c.args.wrong _ _ _ v.0 (v.1 n h) h c.in-None.ensures.steps.0;
    }
