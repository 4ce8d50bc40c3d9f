use native.Mathlib.Omega.{arith}
use Rattle.calls.specs.Kinds.{tag_of}
use Rattle.calls.proofs.FormatLaws.{Stands, Held, held, held_stands}
use Rattle.calls.proofs.ElementLaws.{bytes_of}
use Rattle.calls.proofs.format.Call.bytes.Goals as goal
use Rattle.calls.proofs.format.Call.bytes.Goals.{After-place-at}

is_held : (c : After-place-at) → Held c.args.self.bytes.now (tag_of c.args.self.kind) c.args.i 1
is_held c = let s = c.args.self in held s.kind s.ends s.whole c.requires (omega arith)

stands : (c : After-place-at) → Stands c.args.self.bytes.now c.place-at.result 1
stands c = held_stands (is_held c) c.place-at.ensures

pub overflow_add-first : goal.overflow_add-first
overflow_add-first c = let s = stands c in omega (arith, s.whole)

pub overflow_add-end : goal.overflow_add-end
overflow_add-end c = let s = stands (goal.at.overflow_add-end c).After-place-at in omega (arith, s.whole)

pub slice_bounds-result-end : goal.slice_bounds-result-end
slice_bounds-result-end c = let s = stands (goal.at.slice_bounds-result-end c).After-place-at in omega (arith, s.whole)

pub returns : goal.returns
returns c = bytes_of (is_held (goal.at.returns c).After-place-at) c.place-at.ensures c.number_at.ensures
