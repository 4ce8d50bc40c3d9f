use mathlib.Core.Path.{sym, subst}
use native.Mathlib.Omega.{arith}
use Rattle.bits.specs.Bits.{list}
use Rattle.bits.proofs.BoundLaws.{length_list}
use Rattle.pointer_promises.specs.Pointer.{entry}
use Rattle.pointer.specs.Steps.{Noted}
use Rattle.pointer.proofs.OctetLaws.{one_more_lem}
use Rattle.pointer.proofs.EncodeLaws.{noted_start, noted_more}
use Rattle.pointer.proofs.encode.kept.Goals as goal

-- `kept` renews entry by entry. Assumes nothing.

pub loop-e-init : goal.loop-e-init
loop-e-init c = unfold list in noted_start _

pub loop-e-preserved : goal.loop-e-preserved
loop-e-preserved c =
    let l = c.loop-e in
    let m = c.args.row.now.metadata.now in
    subst (Noted _ _) (sym (one_more_lem m l.e _ c.entry_at.ensures)) (noted_more _ _ (list l.e (entry m)) l.e _ _ (length_list l.e (entry m)) (omega arith) c.renewed.ensures l.invariant)
