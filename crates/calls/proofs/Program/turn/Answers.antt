use mathlib.Core.Path.{refl}
use mathlib.Core.Bool.{true, false}
use mathlib.Core.Logic.{inl, inr}
use native.Mathlib.Omega.{arith}
use Rattle.std.proofs.lemmas.Result.{err_from_is_err_and}
use Rattle.calls.specs.Stream.{done, written}
use Rattle.calls.specs.Program.{state}
use Rattle.calls.proofs.TurnLaws.{fetch_room, reads_on, none_left}
use Rattle.calls.proofs.Program.turn.Goals as goal

pub returns-in_err-write : goal.returns-in_err-write
returns-in_err-write c =
    let p = err_from_is_err_and c.from_residual.result c.from_residual.ensures.1 in
    let s = state true c.args.self.now in
    let e = c.write.ensures in
    rw p.1 (written c.if-self-gt0.true (inl (reads_on c.args.self.now.input.room.items s c.wants_more.ensures c.if-wants_more.true)) (e.state false) e.rooms.0 e.rooms.1)

pub fetch-requires : goal.fetch-requires
fetch-requires c =
    let s = state true c.args.self.now in
    let bs = c.args.self.now.input.room.items in
    omega (arith, fetch_room bs s (reads_on bs s c.wants_more.ensures c.if-wants_more.true).1 (omega arith) (omega arith))

pub returns-in_ok-write : goal.returns-in_ok-write
returns-in_ok-write c =
    let s = state true c.args.self.now in
    let e = c.write.ensures in
    written c.if-self-gt0.true (inl (reads_on c.args.self.now.input.room.items s c.wants_more.ensures c.if-wants_more.true)) (e.state true) e.rooms.0 e.rooms.1

pub returns-then-self : goal.returns-then-self
returns-then-self c =
    let s = state true c.args.self.now in
    done (none_left c.args.self.now.input.room.items s c.wants_more.ensures c.if-wants_more.false c.if-self.true) c.if-self.true refl refl refl

pub returns-in_err-write-2 : goal.returns-in_err-write-2
returns-in_err-write-2 c =
    let p = err_from_is_err_and c.from_residual-in_err-write-2.result c.from_residual-in_err-write-2.ensures.1 in
    let e = c.write-then-len-self-lt-LONGEST_LINE.ensures in
    rw p.1 (written (omega arith) (inr (omega arith)) (e.state false) e.rooms.0 e.rooms.1)

pub returns-then-len-self-lt-LONGEST_LINE : goal.returns-then-len-self-lt-LONGEST_LINE
returns-then-len-self-lt-LONGEST_LINE c =
    let e = c.write-then-len-self-lt-LONGEST_LINE.ensures in
    written (omega arith) (inr (omega arith)) (e.state true) e.rooms.0 e.rooms.1
