use mathlib.Core.Path.{sym, ap, ◌∙◌}
use Prim.Native.Nat.{◌*◌}
use Rattle.bits.specs.Bits.{has, word}
use Rattle.grid_counters.proofs.GatherLaws.{seconds_are, no_seconds}
use Rattle.grid_counters.proofs.planes.seconds.Goals as goal

pub returns-then-v-eq0 : goal.returns-then-v-eq0
returns-then-v-eq0 c = no_seconds ∙ ap (λ v. word 32 (λ i. has v (2 * i))) (sym c.if-v-eq0.true)

pub returns : goal.returns
returns c = seconds_are c.args.v
