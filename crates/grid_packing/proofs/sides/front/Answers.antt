use native.Mathlib.Omega.{arith}
use Rattle.words.proofs.ShiftLaws.{joined}
use Rattle.grid_packing.proofs.sides.front.Goals as goal

pub returns : goal.returns
returns c f a b = joined c.args.rows.count 64 c.args.a c.args.b f (omega (arith, c.args.rows.few)) (omega arith) a b
