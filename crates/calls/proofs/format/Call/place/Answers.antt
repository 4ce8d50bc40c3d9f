use Rattle.calls.proofs.FormatLaws.{held, held_small, found_ok}
use mathlib.Core.Path.{refl}
use Rattle.calls.proofs.format.Call.place.Goals as goal

pub place-requires : goal.place-requires
place-requires c = let s = c.args.self in held_small (held s.kind s.ends s.whole refl c.requires)

pub unwrap-requires : goal.unwrap-requires
unwrap-requires c = let s = c.args.self in found_ok c.place.result (held s.kind s.ends s.whole refl c.requires) c.place.ensures
