use mathlib.Core.Path.{sym}
use borrow.Author.Tests.{not-true, not-false}
use native.Mathlib.Omega.{arith}
use Rattle.std.proofs.lemmas.Result.{err_from_is_err_and}
use Rattle.grid.proofs.ShowLaws.{show_judged, show_past, show_goes_on, show_comes_back}
use Rattle.grid.proofs.shows.show.Goals as goal

pub returns-in_err-judge_read : goal.returns-in_err-judge_read
returns-in_err-judge_read c =
    let a = c.args in
    let p = err_from_is_err_and c.from_residual.result c.from_residual.ensures.1 in
    rw (p.1, p.2) (show_judged a.rows a.columns a.k a.cells.now a.counters.now a.out.now _ c.in_err-judge_read.ensures)

pub returns-then-not-within : goal.returns-then-not-within
returns-then-not-within c =
    let a = c.args in
    show_past a.rows a.columns a.k a.cells.now a.counters.now a.out.now c.in_ok-judge_read.ensures (not-false _ (sym c.if-not-within.ensures))

pub show_sized-requires : goal.show_sized-requires
show_sized-requires c =
    let a = c.args in
    (show_goes_on a.rows a.columns a.k a.cells.now a.counters.now a.out.now c.in_ok-judge_read.ensures (not-true _ (sym c.if-not-within.ensures)), omega arith)

pub returns : goal.returns
returns c =
    let a = c.args in
    show_comes_back a.rows a.columns a.k a.cells.now a.counters.now a.out.now c.in_ok-judge_read.ensures _ _ c.show_sized.ensures.reads
