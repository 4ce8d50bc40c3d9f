use borrow.Author.Rules.{rules}
use Rattle.grid_packing.proofs.TallyLaws.{one_more_lem}
use Rattle.grid_packing.proofs.tally.with_set.Goals as goal

pub returns : goal.returns
returns c f b = one_more_lem f _ _ (search rules) b
