-- The theorems of this crate, all proved. Assumes nothing.
use Rattle.grid_patterns.specs.Claims.{Claims}
use Rattle.grid_patterns.proofs.InvertLaws.{one_invert}

pub claims : Claims
claims = record {
  one_invert = one_invert;
}
