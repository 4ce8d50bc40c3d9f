use mathlib.Core.Path.{refl}
use native.Mathlib.Omega.{arith}
use Rattle.bits.specs.Bits.{list, words, bytes}
use Rattle.pointer.proofs.CellLaws.{store_more}
use Rattle.pointer.proofs.cells.store.Goals as goal

-- `store` fills the cells byte by byte. Assumes nothing.

pub loop-j-init : goal.loop-j-init
loop-j-init c = unfold list words bytes in refl

pub loop-j-preserved : goal.loop-j-preserved
loop-j-preserved c = store_more _ _ _ _ _ (omega arith) (omega arith) (omega arith) c.loop-j.invariant
