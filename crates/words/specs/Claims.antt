-- Every theorem of this crate, a field each: proofs/Claims.antt has the value, so a theorem without a proof fails the check. Assumes nothing.
use Rattle.words.specs.Stored.{OneStored}
use Rattle.words.specs.SetBits.{OneNext}

pub record Claims : Type 0 where
  pub one_stored : OneStored
  pub one_next : OneNext
