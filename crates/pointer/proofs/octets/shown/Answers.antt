use Rattle.pointer.proofs.OctetLaws.{shown_one, shown_zero}
use Rattle.pointer.proofs.octets.shown.Goals as goal

-- `shown` changes the one bit. Assumes nothing.

pub returns-then-e-eq1 : goal.returns-then-e-eq1
returns-then-e-eq1 c j = shown_one _ _ j c.if-e-eq1.true

pub returns-else-e-eq1 : goal.returns-else-e-eq1
returns-else-e-eq1 c j = shown_zero _ _ j c.if-e-eq1.false
