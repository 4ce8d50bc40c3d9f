use mathlib.Core.Bool.{true}
use Rattle.calls.specs.Stream.{Counted, Turns}
use Rattle.calls.specs.Program.{state}
use Rattle.calls.proofs.Program.run.Given as goal

abbrev pub invariant-loop : goal.invariant-loop
invariant-loop l =
    Turns (state true l.initial.self) l.initial.self.input.room.items l.initial.self.output.room.items l.counter (state true l.self) l.self.input.room.items l.self.output.room.items
    × Counted l.counter (state true l.self)
