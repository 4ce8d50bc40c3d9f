-- The theorems of this crate, all proved. Assumes nothing.
use Rattle.grid_packing.specs.Claims.{Claims}
use Rattle.grid_packing.proofs.OneFill.{one_fill}

pub claims : Claims
claims = record { one_fill = one_fill }
