use native.Mathlib.Omega.{arith}
use lib.ListN.{length-set}
use Rattle.wire.proofs.TextLaws.{hex_more, hex_all}
use Rattle.wire.proofs.text.hex.Goals as goal

-- The loop has filled the text from i on.

pub loop-i-preserved : goal.loop-i-preserved
loop-i-preserved c = rw length-set (hex_more _ _ _ _ _ c.loop-i-test.true (omega arith) c.loop-i.invariant c.digit.ensures)

pub returns : goal.returns
returns c = rw (← c.loop-i.auto.text) (hex_all _ _ _ _ c.loop-i-test.false c.loop-i.invariant)
