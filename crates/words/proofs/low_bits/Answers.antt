use native.Mathlib.Omega.{arith}
use lib.Pow.{pow_pos}
use Rattle.bits.proofs.BitLaws.{one_shl}
use Rattle.words.proofs.LowBitsLaws.{low_some, low_all}
use Rattle.words.proofs.low_bits.Goals as goal

pub overflow_sub-result : goal.overflow_sub-result
overflow_sub-result c = rw (one_shl c.args.n c.if-n-lt-BITS.true) (pow_pos c.args.n)

pub returns-then-n-lt-BITS : goal.returns-then-n-lt-BITS
returns-then-n-lt-BITS c = low_some c.args.n _ c.if-n-lt-BITS.true (one_shl c.args.n c.if-n-lt-BITS.true)

pub returns-else-n-lt-BITS : goal.returns-else-n-lt-BITS
returns-else-n-lt-BITS c = low_all c.args.n (omega arith)
