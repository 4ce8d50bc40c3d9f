use Rattle.pointer.proofs.EncodeLaws.{digits_full, digits_part}
use Rattle.pointer.proofs.encode.counted.Goals as goal

-- `counted` sets the full bit, or the last entry. Assumes nothing.

pub returns-then-a-row : goal.returns-then-a-row
returns-then-a-row c wanted es l h = digits_full _ _ _ wanted es l h c.if-a-row.true

pub returns-else-a-row : goal.returns-else-a-row
returns-else-a-row c wanted es l h = let r = c.args.row.now.counted in digits_part _ _ _ wanted es l h c.if-a-row.false c.requires r.least r.most
