use Rattle.pointer.proofs.OctetLaws.{bit_unserved}
use Rattle.pointer.proofs.wanted.Wanted.unserved.Goals as goal

-- `unserved` works on all eight positions at once. Assumes nothing.

pub returns : goal.returns
returns c k = bit_unserved _ _ _ _ k
