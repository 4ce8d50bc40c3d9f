use Rattle.grid_counters.proofs.PromiseLaws.{not_roomy}
use Rattle.grid_counters.proofs.unpack.Goals as goal

pub returns-in-Err : goal.returns-in-Err
returns-in-Err c = let a = c.args in let e = c.in-Err.ensures.err in rw e.0 (not_roomy a.k a.rows a.columns a.bytes.now e.1)
