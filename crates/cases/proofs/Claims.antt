-- The theorems of this crate, all proved. Assumes nothing.
use Rattle.cases.specs.Claims.{Claims}
use Rattle.cases.proofs.Checked.{every_case, every_edge, every_promise}
use Rattle.cases.proofs.Loops.{any_length, never_masked, alternating, no_chain}

pub claims : Claims
claims = record {
  every_case = every_case;
  every_edge = every_edge;
  every_promise = every_promise;
  any_length = any_length;
  never_masked = never_masked;
  alternating = alternating;
  no_chain = no_chain;
}
