use Prim.Native.Nat.{◌-◌}
use mathlib.Core.Path.{◌≡◌, sym, ◌∙◌}
use native.Mathlib.Omega.{arith}
use Rattle.pointer_promises.specs.Pointer.{entry, idle}
use Rattle.pointer.proofs.DecodeLaws.{idle_yes, idle_no, above_more, arranged_spare, arranged_stray, arranged_well}
use Rattle.pointer.proofs.decode.Row.arranged.Goals as goal

-- `arranged` compares entry by entry, from the last down to the first that is not active. Assumes nothing.

pub returns-then-entry_at-ne0 : goal.returns-then-entry_at-ne0
returns-then-entry_at-ne0 c = arranged_spare _ _ _ c.args.self.now.counted _ c.entry_at.ensures c.if-entry_at-ne0.true

pub loop-e-init : goal.loop-e-init
loop-e-init c = let r = c.args.self.now in (λ _. idle_yes r.n r.active (r.n - 1) (omega arith) (omega arith), λ k h l. absurd (omega arith))

pub returns-then-entry_at-idle : goal.returns-then-entry_at-idle
returns-then-entry_at-idle c =
    let l = c.loop-e in
    arranged_stray _ _ _ c.args.self.now.counted _ c.entry_at.ensures c.if-entry_at-ne0.false (l.e - 1) (omega arith) (omega arith)
    (λ q. c.if-entry_at-idle.true (c.entry_at-in-loop-e.ensures ∙ q ∙ sym (l.invariant.0 c.loop-e-test.true)))

pub loop-e-preserved : goal.loop-e-preserved
loop-e-preserved c =
    let l = c.loop-e in
    let r = c.args.self.now in (
      λ h. idle_no r.n r.active (l.e - 1 - 1) (λ q. absurd (omega arith)),
      above_more (λ k. entry r.metadata.now k ≡ idle r.n r.active k) r.n l.e l.invariant.1
          (sym c.entry_at-in-loop-e.ensures ∙ c.if-entry_at-idle.false ∙ l.invariant.0 c.loop-e-test.true),
    )

pub returns : goal.returns
returns c = arranged_well _ _ _ c.args.self.now.counted _ c.entry_at.ensures c.if-entry_at-ne0.false (λ k h l. c.loop-e.invariant.1 k (omega arith) l)
