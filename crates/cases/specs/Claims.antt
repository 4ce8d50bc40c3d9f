-- Every theorem of this crate, a field each: proofs/Claims.antt has the value, so a theorem without a proof fails the check. Assumes nothing.
use Rattle.cases.specs.Statements.{EveryCase, EveryEdge, EveryPromise}
use Rattle.cases.specs.Loops.{AnyLength, NeverMasked, Alternating, NoChain}

pub record Claims : Type 0 where
  pub every_case : EveryCase
  pub every_edge : EveryEdge
  pub every_promise : EveryPromise
  pub any_length : AnyLength
  pub never_masked : NeverMasked
  pub alternating : Alternating
  pub no_chain : NoChain
