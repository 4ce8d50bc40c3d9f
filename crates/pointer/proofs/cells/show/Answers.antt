use mathlib.Core.Path.{sym, ◌∙◌}
use native.Mathlib.Omega.{arith}
use lib.ListN.{length}
use Rattle.words.proofs.CopyLaws.{as_long_lem}
use Rattle.pointer.proofs.CellLaws.{patch_start, patch_more, patch_done}
use Rattle.pointer.proofs.cells.show.Goals as goal

-- `show` copies the cells, and then shows one bit for each entry. Assumes nothing.

pub loop-i-init : goal.loop-i-init
loop-i-init c = patch_start c.args.cells.now _ _ (omega arith) (λ k. (c.type_inv.cells k).fits) (c.copy_bytes.ensures ∙ sym (as_long_lem (length c.args.out.now) (length c.args.cells.now) c.args.cells.now c.args.out.now (omega arith)))

pub loop-i-preserved : goal.loop-i-preserved
loop-i-preserved c =
    let l = c.loop-i in
    patch_more _ _ l.out l.i c.entry_at-e.result _ c.entry_at-e.ensures (omega (arith, c.shown.type_inv)) c.shown.ensures l.invariant

pub returns : goal.returns
returns c = patch_done _ _ _ c.loop-i.i _ (omega arith) c.loop-i.invariant
