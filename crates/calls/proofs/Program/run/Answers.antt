use mathlib.Core.Path.{refl, sym, ap, subst, ◌∙◌}
use mathlib.Core.Bool.{not}
use native.Mathlib.Omega.{arith}
use native.Mathlib.Numerals.{add-one}
use Rattle.calls.specs.Stream.{State, none}
use Rattle.calls.specs.Program.{TurnTo}
use Rattle.calls.proofs.TurnLaws.{next_turn, last_turn, all_turns}
use Rattle.calls.proofs.CountLaws.{counted_more}
use Rattle.calls.proofs.ProgramLaws.{flow_goes}
use Rattle.calls.proofs.Program.run.Goals as goal
use Rattle.calls.proofs.Program.run.Goals.{else-loop-test, then-loop-test+in_ok-turn+then-is_break}

-- The loop has made as many turns as were counted, after each of which the program goes on.

pub loop-init : goal.loop-init
loop-init c = (
  none,
  record { calls = omega (arith, ap (λ (s : State). s.calls) c.requires); offset = omega (arith, ap (λ (s : State). s.offset) c.requires) },
)

pub returns-in_err-turn : goal.returns-in_err-turn
returns-in_err-turn c = last_turn c.loop.invariant.0 refl c.in_err-turn.ensures c.requires refl

pub loop-preserved : goal.loop-preserved
loop-preserved c =
    let on = flow_goes c.in_ok-turn.field-0 ∙ ap not (sym c.is_break.ensures ∙ c.if-is_break.false) in
    let t = subst (λ g. TurnTo c.loop.self g c.turn.new.self) on c.in_ok-turn.ensures in
    let v = c.loop.invariant in
    (next_turn v.0 refl t, rw add-one (counted_more c.loop.counter v.1 t))

pub returns : goal.returns
returns c =
    let r = c.write.ensures.rooms in
    rw (r.0, r.1)
    (elim c.loop-test.branch [
      | else-loop-test w ↦ rw w.self-is (all_turns c.requires c.loop.invariant.0 (omega arith))
      | then-loop-test+in_ok-turn+then-is_break w ↦
          let off = flow_goes w.in_ok-turn.field-0 ∙ ap not (sym w.is_break.ensures ∙ w.if-is_break.true) in
          let t = subst (λ g. TurnTo c.loop.self g w.turn.new.self) off w.in_ok-turn.ensures in
          rw w.self-is (last_turn c.loop.invariant.0 refl t c.requires refl)
    ])
