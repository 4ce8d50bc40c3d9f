use Rattle.pointer.proofs.DecodeLaws.{entry_cut}
use Rattle.pointer.proofs.decode.entry_at.Goals as goal

-- `entry_at` cuts the entry out of three bytes. Assumes nothing.

pub returns : goal.returns
returns c = entry_cut _ _ _ _ _ (λ i. (c.type_inv.m i).fits) c.byte.ensures.0 c.byte-2.ensures.0 c.byte-3.ensures.0
