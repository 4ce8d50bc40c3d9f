use mathlib.Core.Path.{refl}
use mathlib.Core.Bool.{true}
use native.Mathlib.Omega.{arith}
use Rattle.calls.specs.Calls.{Printed}
use Rattle.calls.specs.Stream.{left, called}
use Rattle.calls.specs.Program.{state}
use Rattle.calls.proofs.TurnLaws.{made_within, turned_none, turned_made}
use Rattle.calls.proofs.CountLaws.{offset_room}
use Rattle.calls.proofs.Program.make.Goals as goal
use Rattle.calls.proofs.Program.make.Goals.{In-Ok}

-- what the call took and put
printed : (c : In-Ok) → Printed (left c.args.self.now.input.room.items c.args.self.now.input.at c.args.self.now.input.end) c.in-Ok.taken c.args.self.now.output.room.items
    c.args.self.now.output.end c.call.new.out.room.items c.call.new.out.end
printed c = rw c.left.ensures at c.in-Ok.ensures.printed

pub overflow_add-self : goal.overflow_add-self
overflow_add-self c = omega (arith, offset_room {s = state true c.args.self.now} c.requires.counted (printed (goal.at.overflow_add-self c).In-Ok))

pub overflow_add-self-in-Ok : goal.overflow_add-self-in-Ok
overflow_add-self-in-Ok c =
    let p = c.requires in
    omega (
      arith,
      made_within (state true c.args.self.now) c.args.self.now.input.room.items c.args.self.now.output.room.items p.some_left (omega arith) p.not_cut_short (omega arith)
          (printed (goal.at.overflow_add-self-in-Ok c).In-Ok),
    )

pub invariant_of-self : goal.invariant_of-self
invariant_of-self c =
    let p = c.requires in
    let i = c.args.self.now.input in
    record {
      started = made_within (state true c.args.self.now) i.room.items c.args.self.now.output.room.items p.some_left (omega arith) p.not_cut_short (omega arith)
          (printed (goal.at.invariant_of-self c).In-Ok);
      inside = i.inside;
      wide = i.wide;
    }

pub returns-in-Ok : goal.returns-in-Ok
returns-in-Ok c =
    let p = c.requires in
    let h = printed (goal.at.returns-in-Ok c).In-Ok in
    called
    (turned_made (state true c.args.self.now) c.args.self.now.input.room.items c.args.self.now.output.room.items p.some_left (omega arith) p.not_cut_short (omega arith) c.in-Ok.ensures.why h) refl

pub returns-in-Err : goal.returns-in-Err
returns-in-Err c =
    let p = c.requires in
    let s = c.args.self.now in
    called
    (turned_none (state true s) s.input.room.items s.output.room.items p.some_left (omega arith) p.not_cut_short (omega arith) (rw c.left.ensures at c.in-Err.ensures.why)
    (rw c.left.ensures at c.in-Err.ensures.printed) c.bad_call.ensures)
    refl
