use Rattle.std.proofs.Common.{◌+◌, ◌-◌, ◌*◌}
use mathlib.Core.Path.{refl, ◌∙◌}
use native.Mathlib.Omega.{arith}
use Rattle.bits.specs.Bits.{list}
use Rattle.fragment_promises.specs.Transfers.{words_from}
use Rattle.fragments.proofs.CodeLaws.{one_word_more, cut_out}
use Rattle.fragments.proofs.whole.words_into.Goals as goal

pub loop-i-init : goal.loop-i-init
loop-i-init c = unfold words_from list in refl

pub loop-i-preserved : goal.loop-i-preserved
loop-i-preserved c =
    let l = c.loop-i in
    let a = c.args in
    one_word_more a.from l.i c.load.result a.bytes.now l.all (omega arith) l.invariant
    (c.load.ensures ∙ cut_out (a.from + 8 * l.i) (a.from + 8 * l.i + 8 - (a.from + 8 * l.i)) a.bytes.now (omega arith))
