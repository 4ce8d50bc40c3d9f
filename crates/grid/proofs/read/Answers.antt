use Rattle.grid.proofs.read.Goals as goal

pub returns : goal.returns
returns c = rw (c.number_of.ensures, c.index_of.ensures) c.show-shown.ensures
