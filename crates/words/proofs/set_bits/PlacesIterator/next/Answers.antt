use Rattle.std.proofs.Common.{rules}
use Rattle.bits.proofs.BitLaws.{lowest_set, below_lowest, clear_lowest, clear_less}
use Rattle.words.proofs.set_bits.PlacesIterator.next.Goals as goal

pub returns-clause-steps : goal.returns-clause-steps
returns-clause-steps c =
    let some = c.if-self-eq0.false in
    record {
      set = lowest_set 64 _ (search rules) some;
      lowest = below_lowest 64 _;
      others = λ j. clear_lowest 64 _ j (search rules) some;
      fewer = clear_less _ some;
    }
