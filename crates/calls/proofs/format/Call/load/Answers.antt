use mathlib.Core.Path.{sym, ap, ◌∙◌}
use Prim.Native.Nat.{◌*◌, ◌≤◌}
use native.Mathlib.Omega.{arith}
use lib.ListN.{length-take}
use lib.Seq.{length-take-le}
use Rattle.calls.proofs.FormatLaws.{held, held_stands}
use Rattle.calls.proofs.ElementLaws.{first_within, read_none, read_more, read_all}
use Rattle.calls.proofs.format.Call.load.Goals as goal

-- The loop has read the first j elements.

pub slice_bounds-loaded-end : goal.slice_bounds-loaded-end
slice_bounds-loaded-end g c =
    let s = c.args.self in
    let h = held_stands (held s.kind s.ends s.whole c.requires.width g.met.T.Element.narrow.0) c.place-at.ensures in
    sym (length-take-le c.number_at-n.result c.args.room.now (omega (arith, h.few, c.requires.in_bounds)))

pub loop-j-init : goal.loop-j-init
loop-j-init g c = read_none g.T.Element.number c.args.self.bytes.now c.place-at.result g.T.Element.WIDTH c.args.room.now

pub overflow_add-at : goal.overflow_add-at
overflow_add-at g c =
    let s = c.args.self in
    let h = held_stands (held s.kind s.ends s.whole c.requires.width g.met.T.Element.narrow.0) c.place-at.ensures in
    omega (arith, h.whole)

pub overflow_mul-WIDTH : goal.overflow_mul-WIDTH
overflow_mul-WIDTH g c =
    let s = c.args.self in
    let j = c.loop-j.j in
    let h = held_stands (held s.kind s.ends s.whole c.requires.width g.met.T.Element.narrow.0) c.place-at.ensures in
    let l : j ≤ c.number_at-n.result = omega (arith, length-take c.number_at-n.result c.args.room.now) in
    omega (arith, first_within h c.number_at-n.ensures l, ap (λ w. w * j) c.WIDTH.ensures)

pub overflow_add-at-in-loop-j : goal.overflow_add-at-in-loop-j
overflow_add-at-in-loop-j g c =
    let s = c.args.self in
    let j = c.loop-j.j in
    let h = held_stands (held s.kind s.ends s.whole c.requires.width g.met.T.Element.narrow.0) c.place-at.ensures in
    let l : j ≤ c.number_at-n.result = omega (arith, length-take c.number_at-n.result c.args.room.now) in
    omega (arith, first_within h c.number_at-n.ensures l, ap (λ w. w * j) c.WIDTH.ensures)

pub loop-j-preserved : goal.loop-j-preserved
loop-j-preserved g c =
    let l = c.loop-j in
    read_more g.T.Element.number c.args.self.bytes.now c.place-at.result g.T.Element.WIDTH l.j c.read.result l.loaded (omega arith) (rw c.WIDTH.ensures at c.read.ensures) l.invariant

pub returns : goal.returns
returns g c =
    let s = c.args.self in
    let l = c.loop-j in
    let h = held s.kind s.ends s.whole c.requires.width g.met.T.Element.narrow.0 in
    let n = length-take-le c.number_at-n.result c.args.room.now (omega (arith, (held_stands h c.place-at.ensures).few, c.requires.in_bounds)) in
    g.met.T.Element.each_number l.loaded ∙ read_all g.T.Element.number l.loaded h c.place-at.ensures c.number_at-n.ensures (omega arith) (omega arith) l.invariant
