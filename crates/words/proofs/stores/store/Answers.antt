use native.Mathlib.Omega.{arith}
use Rattle.words.proofs.StoreLaws.{stored_past, nothing_stored}
use Rattle.words.proofs.stores.store.Goals as goal

pub returns-then-out-q : goal.returns-then-out-q
returns-then-out-q c = stored_past _ 0 8 _ _ _ (omega arith) (omega (arith, c.if-out-q.true)) (nothing_stored _ _ _)

pub returns-then-n-lt8 : goal.returns-then-n-lt8
returns-then-n-lt8 c = stored_past _ _ 8 _ _ _ (omega (arith, c.if-n-lt8.true)) (omega arith) c.put_few.ensures

pub returns : goal.returns
returns c = c.put.ensures
