-- The theorems of this crate, all proved. Assumes nothing.
use Rattle.bits.specs.Claims.{Claims}
use Rattle.bits.proofs.FirstLaws.{rising_lowest}

pub claims : Claims
claims = record { rising_lowest = rising_lowest }
