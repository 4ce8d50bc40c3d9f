-- Every theorem of this crate, a field each: proofs/Claims.antt has the value, so a theorem without a proof fails the check. Assumes nothing.
use Rattle.rdis.specs.Theorems.{RefusedByChain, MoreAllowed, LevelsByChain, OneDepth, NoChainEmpty, LevelsCounted, OneCount, LevelsByKind, TwoKinds, LevelsByFaults, FaultsAreCells, WrongWhereFlipped, ReadBack, StoredReads, PlanReads, StuckHeld, PackedOnly, FewestBytes, CounterBits, PackedBits, SpareBits, CountersBack, CountersAtMost, LevelsReached, WidthHolds, OldWidthKept, ThreeBits, ReadBackPacked, SoundIgnored, ChainExceeds, ChainMisreads, RefusedIfNoCounters, MaskedIfAny, LeastCounters, FewestLevels}

pub record Claims : Type 0 where
  pub refused_by_chain : RefusedByChain
  pub more_allowed : MoreAllowed
  pub levels_by_chain : LevelsByChain
  pub one_depth : OneDepth
  pub no_chain_empty : NoChainEmpty
  pub levels_counted : LevelsCounted
  pub one_count : OneCount
  pub levels_by_kind : LevelsByKind
  pub two_kinds : TwoKinds
  pub levels_by_faults : LevelsByFaults
  pub faults_are_cells : FaultsAreCells
  pub wrong_where_flipped : WrongWhereFlipped
  pub read_back : ReadBack
  pub stored_reads : StoredReads
  pub plan_reads : PlanReads
  pub stuck_held : StuckHeld
  pub packed_only : PackedOnly
  pub fewest_bytes : FewestBytes
  pub counter_bits : CounterBits
  pub packed_bits : PackedBits
  pub spare_bits : SpareBits
  pub counters_back : CountersBack
  pub counters_at_most : CountersAtMost
  pub levels_reached : LevelsReached
  pub width_holds : WidthHolds
  pub old_width_kept : OldWidthKept
  pub three_bits : ThreeBits
  pub read_back_packed : ReadBackPacked
  pub sound_ignored : SoundIgnored
  pub chain_exceeds : ChainExceeds
  pub chain_misreads : ChainMisreads
  pub refused_if_no_counters : RefusedIfNoCounters
  pub masked_if_any : MaskedIfAny
  pub least_counters : LeastCounters
  pub fewest_levels : FewestLevels
