use native.Mathlib.Omega.{arith}
use mathlib.Core.Path.{◌∙◌}
use Prim.Native.Nat.{◌-◌, min}
use lib.ListN.{length}
use Rattle.words.proofs.LoadLaws.{all_left, none_left, all_there}
use Rattle.words.proofs.number_at.Goals as goal

pub returns-then-bytes-at : goal.returns-then-bytes-at
returns-then-bytes-at c = let a = c.args in none_left a.at (min a.n 8) a.bytes.now c.if-bytes-at.true

pub join-requires : goal.join-requires
join-requires c = (omega (arith, c.least-most.ensures), omega (arith, c.least-most.ensures))

pub join-requires-else-left-most : goal.join-requires-else-left-most
join-requires-else-left-most c = (omega (arith, c.least-most.ensures), omega (arith, c.least-most.ensures))

pub returns-then-left-most : goal.returns-then-left-most
returns-then-left-most c =
    let a = c.args in
    c.join.ensures ∙ all_left a.at (length a.bytes.now - a.at) (min a.n 8) a.bytes.now (omega arith) (omega (arith, c.least-most.ensures))

pub returns-else-left-most : goal.returns-else-left-most
returns-else-left-most c =
    let a = c.args in
    c.join-else-left-most.ensures ∙ all_there a.at _ (min a.n 8) a.bytes.now c.least-most.ensures
