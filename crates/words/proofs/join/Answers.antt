use mathlib.Core.Path.{refl}
use Rattle.bits.specs.Bits.{number}
use Rattle.words.proofs.LoadLaws.{join_more}
use Rattle.words.proofs.join.Goals as goal

pub loop-j-init : goal.loop-j-init
loop-j-init c = unfold number in refl

pub loop-j-preserved : goal.loop-j-preserved
loop-j-preserved c =
    let l = c.loop-j in
    join_more c.args.at l.j l.v c.lift-v.result c.args.bytes.now (λ i. (c.type_inv.bytes i).fits) l.invariant c.lift-v.ensures
