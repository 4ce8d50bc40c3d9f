use mathlib.Core.Path.{◌≡◌}
use Rattle.calls.proofs.ScriptLaws.{Running}
use Rattle.calls.proofs.script.run.Given as goal

abbrev pub invariant-loop-i : goal.invariant-loop-i
invariant-loop-i l = record {
  numbers : l.sending.numbers ≡ l.initial.sending.numbers;
  bytes : l.sending.bytes ≡ l.initial.sending.bytes;
  running : Running l.initial.sending.numbers.rows l.initial.sending.numbers.columns l.initial.sending.numbers.k l.initial.sending.bytes.now l.script l.initial.out l.out l.steps l.sending.transfer
      l.sending.used l.i;
}
