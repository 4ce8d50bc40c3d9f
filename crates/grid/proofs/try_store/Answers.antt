use Rattle.std.proofs.lemmas.Result.{err_from_is_err_and}
use Rattle.grid.proofs.StoreLaws.{store_judged_lem, store_rows, store_goes_on, store_comes_back}
use Rattle.grid.proofs.try_store.Goals as goal

pub returns-in_err-judge_store : goal.returns-in_err-judge_store
returns-in_err-judge_store c =
    let a = c.args in
    let p = err_from_is_err_and c.from_residual.result c.from_residual.ensures.1 in
    rw (p.1, p.2) (store_judged_lem a.rows a.columns a.k a.«data».now a.mask.now a.values.now a.counters.now a.cells.now _ c.in_err-judge_store.ensures)

pub invariant_of-lent : goal.invariant_of-lent
invariant_of-lent c =
    let a = c.args in
    let r = store_rows a.rows a.columns a.k a.«data».now a.mask.now a.values.now a.counters.now a.cells.now c.in_ok-judge_store.ensures in
    record { few = r.0; masks = r.1; stuck_at = r.2; fit = λ i. (c.type_inv.mask i).fits }

pub store_sized-requires : goal.store_sized-requires
store_sized-requires c =
    let a = c.args in
    store_goes_on a.rows a.columns a.k a.«data».now a.mask.now a.values.now a.counters.now a.cells.now c.in_ok-judge_store.ensures

pub returns : goal.returns
returns c =
    let a = c.args in
    store_comes_back a.rows a.columns a.k a.«data».now a.mask.now a.values.now a.counters.now a.cells.now c.in_ok-judge_store.ensures _ _ c.store_sized.ensures
