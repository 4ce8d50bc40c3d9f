use native.Mathlib.Omega.{arith}
use Rattle.grid_checks.proofs.JudgeLaws.{past_none, past_judged}
use Rattle.grid_checks.proofs.within.Goals as goal

pub returns-then-columns-ge-BITS : goal.returns-then-columns-ge-BITS
returns-then-columns-ge-BITS c = past_none c.args.columns c.args.words.now c.if-columns-ge-BITS.true (λ i. (c.type_inv.words i).fits)

pub returns-else-columns-ge-BITS : goal.returns-else-columns-ge-BITS
returns-else-columns-ge-BITS c = past_judged _ c.joined.result _ (omega arith) (c.joined.ensures c.args.columns)
