use mathlib.Core.Path.{◌≡◌}
use Prim.Native.Nat.{◌<◌}
use Rattle.calls.specs.Format.{form_of, place_of}
use Rattle.calls.specs.Kinds.{tag_of}
use Rattle.calls.proofs.format.place.Given as goal

abbrev pub invariant-loop-width : goal.invariant-loop-width
invariant-loop-width l = (0 < l.at) × (l.at ≡ place_of l.s (form_of (tag_of l.fn.kind)) l.width-index)
