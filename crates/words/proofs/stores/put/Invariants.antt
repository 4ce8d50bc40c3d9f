use Rattle.words.specs.Stored.{Stores}
use Rattle.words.proofs.stores.put.Given as goal

abbrev pub invariant-loop-k : goal.invariant-loop-k
invariant-loop-k g l = Stores l.q l.k l.v l.initial.out l.out
