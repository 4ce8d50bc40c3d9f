use mathlib.Core.Path.{refl}
use native.Mathlib.Omega.{arith}
use Rattle.bits.specs.Bits.{list, words, bytes}
use Rattle.pointer.proofs.EncodeLaws.{store_more}
use Rattle.pointer.proofs.encode.store.Goals as goal

-- `store` cuts the digits into bytes. Assumes nothing.

pub loop-j-init : goal.loop-j-init
loop-j-init c = unfold list words bytes in refl

pub loop-j-preserved : goal.loop-j-preserved
loop-j-preserved c = let l = c.loop-j in store_more c.args.digits.now l.m l.j c.requires.0 (omega arith) l.invariant
