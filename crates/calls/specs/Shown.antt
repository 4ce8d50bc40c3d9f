-- What is put of a call. Assumes nothing.
use Rattle.calls.specs.declared.format.Call.{Call}
use Rattle.calls.specs.declared.output.Output.{Output}
use Rattle.calls.specs.Kinds.{tag_of}
use Rattle.calls.specs.Calls.{LineAt, PutLine}

-- its line, but for the end
abbrev pub Shown : Call → Output → Output → Type 0
Shown call before after = PutLine (LineAt call.bytes.now (tag_of call.kind)) before.room.items before.end after.room.items after.end
