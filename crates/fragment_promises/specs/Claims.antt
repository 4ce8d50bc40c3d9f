-- Every theorem of this crate, a field each: proofs/Claims.antt has the value, so a theorem without a proof fails the check. Assumes nothing.
use Rattle.fragment_promises.specs.Promises.{OneStart, OneLump, OneFinish, OneMissing, OneStartByDemands, OneLumpByDemands, OneFinishByDemands, OneMissingByDemands, StartLowest, LumpLowest, MissingLowest, FinishMeasured}
use Rattle.fragment_promises.specs.Sequences.{AsDefined, EveryLump, EveryFinish, EveryMissing, Whole, Sent, StoreThenSend, WrongOutput, Short, Long, Bad, NoneMissing, SomeMissing, MissingFits, EveryStart, EverAfter, NotTaken, Joined, TwoCuttings, AnyCutting, EmptyLump, FinishBetween, StartsAfresh, Stays}
use Rattle.fragment_promises.specs.Layout.{WordsRead}

pub record Claims : Type 0 where
  pub one_start : OneStart
  pub one_lump : OneLump
  pub one_finish : OneFinish
  pub one_missing : OneMissing
  pub one_start_by_demands : OneStartByDemands
  pub one_lump_by_demands : OneLumpByDemands
  pub one_finish_by_demands : OneFinishByDemands
  pub one_missing_by_demands : OneMissingByDemands
  pub start_lowest : StartLowest
  pub lump_lowest : LumpLowest
  pub missing_lowest : MissingLowest
  pub finish_measured : FinishMeasured
  pub as_defined : AsDefined
  pub every_lump : EveryLump
  pub every_finish : EveryFinish
  pub every_missing : EveryMissing
  pub whole : Whole
  pub sent : Sent
  pub store_then_send : StoreThenSend
  pub wrong_output : WrongOutput
  pub short : Short
  pub long : Long
  pub bad : Bad
  pub none_missing : NoneMissing
  pub some_missing : SomeMissing
  pub missing_fits : MissingFits
  pub every_start : EveryStart
  pub ever_after : EverAfter
  pub not_taken : NotTaken
  pub joined : Joined
  pub two_cuttings : TwoCuttings
  pub any_cutting : AnyCutting
  pub empty_lump : EmptyLump
  pub finish_between : FinishBetween
  pub starts_afresh : StartsAfresh
  pub stays : Stays
  pub words_read : WordsRead
