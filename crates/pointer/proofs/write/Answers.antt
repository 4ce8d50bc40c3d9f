use Rattle.pointer.proofs.RowLaws.{write_refusal, write_small, write_made}
use Rattle.pointer.proofs.write.Goals as goal

-- `write` stores what was worked out. Assumes nothing.

pub store-requires-in-Ok : goal.store-requires-in-Ok
store-requires-in-Ok c = write_small _ _ _ _ c.args.cells.now _ _ _ _ _ _ _ c.in-Ok.ensures.made

pub returns-in-Ok : goal.returns-in-Ok
returns-in-Ok c = write_made _ _ _ _ _ _ _ _ _ _ _ _ c.in-Ok.ensures.made _ _ c.in-Ok.ensures.number (λ i. (c.type_inv.«data» i).fits) c.store.ensures c.store-in-Ok.ensures

pub returns-in-Err : goal.returns-in-Err
returns-in-Err c = write_refusal _ _ _ _ _ _ _ _ c.number.ensures c.in-Err.ensures.number
