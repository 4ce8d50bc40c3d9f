use mathlib.Core.Path.{◌≡◌, refl, sym, ap, ◌∙◌}
use Rattle.std.proofs.Common.{rules}
use Prim.Native.Nat.{◌-◌, min}
use lib.ListN.{length}
use Rattle.calls.specs.Scripts.{start, finish}
use Rattle.calls.proofs.ScriptLaws.{lump_step}
use Rattle.calls.proofs.script.Sending.step.Goals as goal

pub returns-in-Start : goal.returns-in-Start
returns-in-Start c = record { numbers = refl; bytes = refl; stepped = start c.in-Start.ensures c.start-s.ensures }

pub returns-in-Finish : goal.returns-in-Finish
returns-in-Finish c = let f = c.finish-a in record { numbers = refl; bytes = refl; stepped = finish c.in-Finish.ensures f.ensures f.auto.out }

pub returns-in-Lump : goal.returns-in-Lump
returns-in-Lump c =
    let s = c.args.self.now in
    let b = c.in-Lump.ensures in
    let size : c.from-in-Lump.result ≡ c.in-Lump.size = search rules in
    let n = c.min-n.ensures ∙ ap (λ x. min x (length s.bytes.now - s.used)) (size ∙ sym b.0) in
    record { numbers = refl; bytes = refl; stepped = lump_step c.min-n.result (rw b.0 b.1) s.within n c.lump-s.ensures }
