use native.Mathlib.Omega.{arith}
use mathlib.Core.Path.{◌≡◌, ◌∙◌}
use Prim.Native.Nat.{◌+◌}
use lib.ListN.{length}
use Rattle.bits.specs.Bits.{Below}
use Rattle.rdis.specs.Packing.{width, in_order}
use Rattle.rdis.proofs.PackingLaws.{width_some, in_order_below}
use Rattle.grid_sets.specs.Sets.{times}
use Rattle.grid_sets.specs.Planes.{AreThrees}
use Rattle.grid_sets.proofs.RoomLaws.{times_few, counters_fit}
use Rattle.grid_packing.proofs.FillLaws.{all, all_past, rows_first, columns_after, all_packed}
use Rattle.grid_packing.proofs.pack_narrow.Goals as goal

pub returns : goal.returns
returns g c =
    let a = c.args in
    let m = a.rows.count in
    let n = a.columns.count in
    let used = length a.rowsets.now in
    let r = times a.rowsets.now used in
    let q = times a.columnsets.now used in
    let f = all m n r q in
    let less : Below g.C.Narrow.limit (in_order m n r q) =
    in_order_below m n r q g.C.Narrow.limit (omega (arith, c.requires.few)) (λ i _. omega (arith, c.requires.few, times_few a.rowsets.now used i))
    (λ j _. omega (arith, c.requires.few, times_few a.columnsets.now used j)) in
    let ours : AreThrees m f c.planes-r.result = rows_first m n r q a.rows.few a.columns.few _ (rw c.planes-r.ensures c.tally.ensures) in
    let theirs : AreThrees 64 (λ j. f (m + j)) c.planes-c.result =
    columns_after m n r q a.rows.few a.columns.few _ (rw (c.planes-c.ensures, ← c.requires.as_many) c.tally-2.ensures) in
    let one = c.first.ensures f ours theirs in
    let two = c.second.ensures f theirs (λ t h. all_past m n r q t (omega (arith, a.columns.few))) in
    let e1 = c.from_planes.ensures.all 64 f less one in
    let e2 = c.from_planes-2.ensures.all 64 (λ i. f (64 + i)) (λ i. less (64 + i)) two in
    let long : length c.fill.new.out ≡ length a.out.now = omega arith in
    all_packed m n r q a.rows.few a.columns.few (width a.k) (width_some a.k) (counters_fit a.k m n used a.rowsets.now a.columnsets.now c.requires.held)
    c.first.result c.second.result one two a.out.now c.fill.new.out (long ∙ c.requires.sized) (rw (e1, e2) at c.fill.ensures)
