use Prim.Native.Nat.{ℕ, ◌-◌, ◌≤◌, ◌<◌}
use mathlib.Core.Path.{◌≡◌}
use Rattle.pointer_promises.specs.Pointer.{entry, idle}
use Rattle.pointer.proofs.decode.Row.arranged.Given as goal

abbrev pub invariant-loop-e : goal.invariant-loop-e
invariant-loop-e l =
    (l.self.active < l.e → l.idle ≡ idle l.self.n l.self.active (l.e - 1)) × ((k : ℕ) → l.e ≤ k → k < l.self.n → entry l.self.metadata.now k ≡ idle l.self.n l.self.active k)
