use native.Mathlib.Omega.{arith}
use Rattle.wire.proofs.TextLaws.{put_past, put_copied, all_copied, has_place}
use Rattle.wire.proofs.text.put.Goals as goal

pub returns-then-out-at : goal.returns-then-out-at
returns-then-out-at c = put_past c.if-out-at.true

pub returns : goal.returns
returns c =
    let d = all_copied _ _ (has_place _ _ _ _ c.min-n.ensures) c.copy.ensures.end c.copy.ensures.holds in
    put_copied _ _ _ _ (omega arith) c.min-n.ensures d.0 d.1
