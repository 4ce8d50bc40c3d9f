use mathlib.Core.Path.{refl, ◌∙◌}
use Rattle.calls.proofs.ScriptLaws.{step_small, run_start, run_more, run_done}
use Rattle.calls.proofs.script.run.Goals as goal

pub loop-i-init : goal.loop-i-init
loop-i-init c = record { numbers = refl; bytes = refl; running = run_start c.args.steps.now c.requires c.start-s.ensures }

pub overflow_cast-steps-in-loop-i : goal.overflow_cast-steps-in-loop-i
overflow_cast-steps-in-loop-i c = record { fits = step_small c.step-number.ensures.stepped }

pub loop-i-preserved : goal.loop-i-preserved
loop-i-preserved c =
    let v = c.loop-i.invariant in
    let h = c.step-number.ensures in
    record { numbers = h.numbers ∙ v.numbers; bytes = h.bytes ∙ v.bytes; running = run_more v.running c.loop-i-test.true (rw (v.numbers, v.bytes) at h.stepped) }

pub returns : goal.returns
returns c = let f = c.finish in run_done c.loop-i.invariant.running c.loop-i-test.false f.ensures f.auto.out
