-- The theorems of this crate, all proved. Assumes nothing.
use Rattle.words.specs.Claims.{Claims}
use Rattle.words.proofs.OneStored.{one_stored}
use Rattle.words.proofs.OneNext.{one_next}

pub claims : Claims
claims = record { one_stored = one_stored; one_next = one_next }
