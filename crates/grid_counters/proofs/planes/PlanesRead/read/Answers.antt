use native.Mathlib.Omega.{arith}
use mathlib.Core.Path.{◌≡◌, sym, subst}
use Prim.Native.Nat.{◌+◌}
use lib.Dec.{lit≤}
use Rattle.rdis.specs.Packing.{counter}
use Rattle.grid_sets.specs.Planes.{AreThrees}
use Rattle.grid_packing.specs.Steps.{twos_of}
use Rattle.grid_counters.proofs.ReadingLaws.{single_planes, double_planes, no_plane}
use Rattle.grid_counters.proofs.planes.PlanesRead.read.Goals as goal

pub returns-then-width-eq1 : goal.returns-then-width-eq1
returns-then-width-eq1 c =
    let a = c.args in
    subst (λ w. AreThrees 64 (λ i. counter w a.bytes.now (a.first + i)) (twos_of (record { low = c.load.result; high = 0 }))) (sym c.if-width-eq1.true)
    (record { bits = single_planes a.first a.bytes.now (λ i. (c.type_inv.bytes i).fits) c.requires.first.0 c.load.result c.load.ensures; third = no_plane 1 a.first 2 a.bytes.now (lit≤ tt) })

pub returns : goal.returns
returns c =
    let a = c.args in
    let two : 2 ≡ a.width = omega (arith, c.requires.width.0, c.requires.width.1, c.if-width-eq1.false) in
    subst (λ w. AreThrees 64 (λ i. counter w a.bytes.now (a.first + i)) (twos_of (record { low = c.plane.result; high = c.plane-2.result }))) two
    (record {
      bits = double_planes a.first a.bytes.now (λ i. (c.type_inv.bytes i).fits) c.requires.first.0 c.load-a.result c.load-b.result c.plane.result c.plane-2.result
          c.load-a.ensures c.load-b.ensures c.plane.ensures c.plane-2.ensures;
      third = no_plane 2 a.first 2 a.bytes.now (lit≤ tt);
    })
