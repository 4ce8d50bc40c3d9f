-- What is put into the output. Assumes nothing.
use Rattle.std.specs.Prelude.{List, ℕ}
use Rattle.calls.specs.declared.output.Output.{Output}
use Rattle.wire.specs.Text.{Put}

-- a text was put where the output ended, as much of it as there was room for
abbrev pub Adds : List ℕ → Output → Output → Type 0
Adds text before after = Put text before.room.items before.end after.room.items after.end
