use Rattle.grid_counters.proofs.ThreeLaws.{third_plane_is}
use Rattle.grid_counters.proofs.threes.third_plane.Goals as goal

pub returns : goal.returns
returns c =
    let a = c.args in
    third_plane_is a.a a.b a.c a.d c.thirds_of_two-2.result c.thirds_of_two.result c.thirds_of_two-2.ensures c.thirds_of_two.ensures
