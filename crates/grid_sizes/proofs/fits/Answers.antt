use mathlib.Core.Path.{ap, ◌∙◌}
use mathlib.Core.Bool.{◌&&◌}
use lib.Dec.{eqb, leb}
use Rattle.grid_sizes.proofs.SizeLaws.{fit_by}
use Rattle.grid_sizes.proofs.fits.Goals as goal

pub returns : goal.returns
returns c = let a = c.args in ap (λ x. leb a.count 128 && eqb a.bytes x) c.bytes_of.ensures ∙ fit_by a.k a.count a.bytes
