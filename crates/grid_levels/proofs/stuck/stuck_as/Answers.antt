use Rattle.grid_levels.proofs.StuckLaws.{wrong_bits, right_bits}
use Rattle.grid_levels.proofs.stuck.stuck_as.Goals as goal

pub returns-then-wrong : goal.returns-then-wrong
returns-then-wrong c j = let a = c.args in rw c.if-wrong.true (wrong_bits a.want a.mask a.value j)

pub returns-else-wrong : goal.returns-else-wrong
returns-else-wrong c j = let a = c.args in rw c.if-wrong.false (right_bits a.want a.mask a.value j)
