use Rattle.pointer.proofs.RowLaws.{read_refusal, read_shown}
use Rattle.pointer.proofs.read.Goals as goal

-- `read` shows what was found to be right. Assumes nothing.

pub returns-in-Ok : goal.returns-in-Ok
returns-in-Ok c = let f = c.in-Ok in read_shown _ _ _ _ _ _ _ _ _ f.ensures.number f.row.counted f.ensures.found c.show.ensures

pub returns-in-Err : goal.returns-in-Err
returns-in-Err c = read_refusal _ _ _ _ _ _ c.number.ensures c.in-Err.ensures.number
