use Rattle.grid.proofs.convert.Goals as goal

pub returns : goal.returns
returns c = rw (c.number_of.ensures, c.index_of.ensures) c.try_convert-converted.ensures
