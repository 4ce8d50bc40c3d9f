use mathlib.Core.Path.{◌∙◌}
use Rattle.fragments.proofs.CodeLaws.{counted}
use Rattle.fragments.proofs.sizes.Sizes.counter_bytes.Goals as goal

pub returns : goal.returns
returns c = let s = c.args.self in c.bytes_of.ensures ∙ counted s.rows s.columns s.k s.in_range
