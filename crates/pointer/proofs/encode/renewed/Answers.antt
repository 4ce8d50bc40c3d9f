use Rattle.pointer.proofs.EncodeLaws.{renewed_cut}
use Rattle.pointer.proofs.encode.renewed.Goals as goal

-- `renewed` takes the bit out of its byte. Assumes nothing.

pub returns : goal.returns
returns c = renewed_cut _ _ _ c.byte.ensures.0
