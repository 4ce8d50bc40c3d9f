use Rattle.std.proofs.Common.{arith, ◌+◌}
use Rattle.words.proofs.StoreLaws.{byte_stored, both_stored}
use Rattle.words.proofs.stores.put.Goals as goal

pub loop-k-preserved : goal.loop-k-preserved
loop-k-preserved g c =
    let l = c.loop-k in
    both_stored c.args.q l.k l.k 1 c.args.v c.args.out.now l.out _ (omega arith) (omega arith) l.invariant (byte_stored (c.args.q + l.k) _ l.out (omega arith))
