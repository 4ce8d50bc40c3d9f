use mathlib.Core.Path.{sym}
use borrow.Author.Tests.{not-false}
use Rattle.grid.proofs.StoreLaws.{store_past_lem}
use Rattle.grid.proofs.store_sized.Goals as goal

pub returns-then-not-all_within : goal.returns-then-not-all_within
returns-then-not-all_within c = let r = c.args.lent.now in store_past_lem _ _ _ _ _ _ _ r.masks r.stuck_at c.requires (not-false _ (sym c.if-not-all_within.ensures))
