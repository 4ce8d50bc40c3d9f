-- Every theorem of this crate, a field each: proofs/Claims.antt has the value, so a theorem without a proof fails the check. Assumes nothing.
use Rattle.bits.specs.First.{RisingLowest}

pub record Claims : Type 1 where
  pub rising_lowest : RisingLowest
