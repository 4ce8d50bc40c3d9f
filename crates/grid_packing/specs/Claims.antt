-- Every theorem of this crate, a field each: proofs/Claims.antt has the value, so a theorem without a proof fails the check. Assumes nothing.
use Rattle.grid_packing.specs.Promises.{OneFill}

pub record Claims : Type 0 where
  pub one_fill : OneFill
