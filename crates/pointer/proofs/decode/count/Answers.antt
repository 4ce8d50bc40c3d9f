use native.Mathlib.Omega.{arith}
use Rattle.pointer_promises.proofs.MetadataLaws.{active_le}
use Rattle.pointer.proofs.DecodeLaws.{count_full, count_part}
use Rattle.pointer.proofs.decode.count.Goals as goal

-- `count` reads the full bit, or counts the ones of the lowest n - 1 bits of the last entry. Assumes nothing.

pub returns-then-byte-eq1 : goal.returns-then-byte-eq1
returns-then-byte-eq1 c = (count_full _ _ _ c.byte.ensures.0 (omega arith), omega arith)

pub returns : goal.returns
returns c =
    let g = c.args in
    let e = count_part g.n g.m.now _ _ c.byte.ensures.0 c.if-byte-eq1.false (omega arith) c.entry_at.ensures in
    (e, omega (arith, e, active_le g.n g.m.now (omega arith)))
