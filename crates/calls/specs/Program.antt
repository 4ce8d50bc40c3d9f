-- The program as the state that Stream.antt speaks of. Whether it goes on is what a turn answers. Assumes nothing.
use Rattle.std.specs.Prelude.{Bool, true, false, Result, Ok, Err}
use Rattle.std.specs.declared.ops.ControlFlow.{ControlFlow}
use Rattle.std.specs.declared.ops.ControlFlow.TheVariants.{Continue, Break}
use Rattle.calls.specs.declared.Program.{Program}
use Rattle.calls.specs.Stream.{State, Turn}

abbrev pub state : Bool → Program → State
state going p = record { going = going; more = p.input.more; at = p.input.at; end = p.input.end; put = p.output.end; calls = p.calls; offset = p.offset }

abbrev pub goes_on : {B C : Type 0} → ControlFlow B C → Bool
goes_on (Continue x) = true
goes_on (Break x) = false

-- an error ends it too
abbrev pub goes : {B C E : Type 0} → Result (ControlFlow B C) E → Bool
goes (Ok flow) = goes_on flow
goes (Err e) = false

-- a turn of the program, which then goes on or does not
abbrev pub TurnTo : Program → Bool → Program → Type 0
TurnTo p going q = Turn (state true p) p.input.room.items p.output.room.items (state going q) q.input.room.items q.output.room.items
