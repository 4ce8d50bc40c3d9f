-- The input as part of the state that Stream.antt speaks of. Assumes nothing.
use Rattle.std.specs.Prelude.{Bool}
use Rattle.calls.specs.declared.input.Input.{Input}
use Rattle.calls.specs.Stream.{State}

-- the state of a program that has put nothing and made no call
abbrev pub held : Bool → Input → State
held going i = record { going = going; more = i.more; at = i.at; end = i.end; put = 0; calls = 0; offset = 0 }
