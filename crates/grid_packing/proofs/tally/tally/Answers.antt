use native.Mathlib.Omega.{arith}
use mathlib.Core.Path.{◌≡◌, subst}
use lib.ListN.{length}
use Rattle.grid_sets.specs.Sets.{times}
use Rattle.grid_sets.specs.Planes.{AreThrees}
use Rattle.grid_sets.proofs.RoomLaws.{times_few}
use Rattle.grid_packing.proofs.TallyLaws.{times_none, times_step}
use Rattle.grid_packing.proofs.tally.tally.Goals as goal

pub loop-set-init : goal.loop-set-init
loop-set-init g c = times_none c.args.sets.now

pub loop-set-preserved : goal.loop-set-preserved
loop-set-preserved g c = times_step c.args.sets.now c.loop-set.set-index _ (c.with_set-p.ensures _ c.loop-set.invariant)

pub returns : goal.returns
returns g c =
    let sets = c.args.sets.now in
    let l = c.loop-set in
    let n = c.args.lines.count in
    let e : l.set-index ≡ length sets = omega arith in
    let all = c.within.ensures _ (subst (λ m. AreThrees 64 (times sets m) l.p) e l.invariant) in
    rw (c.from_planes.ensures.all n _ (λ i. omega (arith, times_few sets (length sets) i, c.requires)) all) all
