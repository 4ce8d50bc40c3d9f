use native.Mathlib.Omega.{arith}
use Prim.Native.Nat.{◌*◌, ◌/◌}
use Rattle.grid_counters.proofs.ThreeLaws.{triple_planes, no_threes}
use Rattle.grid_counters.proofs.threes.ThreesRead.read.Goals as goal

pub returns-then-a-b-eq0 : goal.returns-then-a-b-eq0
returns-then-a-b-eq0 c =
    let a = c.args in
    rw c.requires.width
    (no_threes a.first (a.first / 8 * 3) a.bytes.now (λ i. (c.type_inv.bytes i).fits) (omega (arith, c.requires.first.0)) c.load-a.result c.load-b.result c.load-c.result c.load-d.result
    c.load-a.ensures c.load-b.ensures c.load-c.ensures c.load-d.ensures c.if-a-b-eq0.true)

pub returns : goal.returns
returns c =
    let a = c.args in
    rw c.requires.width
    (triple_planes a.first (a.first / 8 * 3) a.bytes.now (λ i. (c.type_inv.bytes i).fits) (omega (arith, c.requires.first.0)) c.load-a.result c.load-b.result c.load-c.result c.load-d.result
    c.load-a.ensures c.load-b.ensures c.load-c.ensures c.load-d.ensures _ _ _
    c.third_plane.ensures c.third_plane-2.ensures c.third_plane-3.ensures)
