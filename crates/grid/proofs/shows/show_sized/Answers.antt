use Rattle.std.proofs.lemmas.Result.{err_from_is_err_and}
use Rattle.grid.proofs.ShowLaws.{show_refused, show_done}
use Rattle.grid.proofs.shows.show_sized.Goals as goal

pub returns-in_err-judged : goal.returns-in_err-judged
returns-in_err-judged c =
    let a = c.args in
    let p = err_from_is_err_and c.from_residual.result c.from_residual.ensures.1 in
    rw (p.1, p.2) (show_refused a.columns a.k a.upto a.cells.now a.counters.now a.out.now c.requires.0 c.unpack-judged.result c.unpack-judged.ensures _ c.in_err-judged.was)

pub returns : goal.returns
returns c =
    let a = c.args in
    show_done a.columns a.k a.upto a.cells.now a.counters.now a.out.now c.requires.0 c.unpack-judged.result c.unpack-judged.ensures c.in_ok-judged.was _ _ c.requires.1 c.depth.ensures c.invert.ensures
