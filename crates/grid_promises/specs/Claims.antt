-- Every theorem of this crate, a field each: proofs/Claims.antt has the value, so a theorem without a proof fails the check. Assumes nothing.
use Rattle.grid_promises.specs.Theorems.{OneRead, OnePlan, OneStore, OneReadByDemands, OnePlanByDemands, OneStoreByDemands, ReadLowest, PlanLowest, StoreLowest, BoundFollows, PlanThenStore, StoreExists, RefusedIfNeverStored, StoreThenPlan, OutputMeasured, OldCountersMeasured, OldCellsMeasured, PlanIgnoresSound, StoreIgnoresSound, LongestCounters, OldPlanKept, OldStoreKept, OldReadKept}
use Rattle.grid_promises.specs.Conversion.{OneConvert, OneConvertByDemands, ConvertLowest, SmallerRefused, OutputKeepsLength, ConvertMeasured, ReadsKept, StoresKept, ConvertTwice, PlanThenConvert}

pub record Claims : Type 0 where
  pub one_read : OneRead
  pub one_plan : OnePlan
  pub one_store : OneStore
  pub one_read_by_demands : OneReadByDemands
  pub one_plan_by_demands : OnePlanByDemands
  pub one_store_by_demands : OneStoreByDemands
  pub read_lowest : ReadLowest
  pub plan_lowest : PlanLowest
  pub store_lowest : StoreLowest
  pub bound_follows : BoundFollows
  pub plan_then_store : PlanThenStore
  pub store_exists : StoreExists
  pub refused_if_never_stored : RefusedIfNeverStored
  pub store_then_plan : StoreThenPlan
  pub output_measured : OutputMeasured
  pub old_counters_measured : OldCountersMeasured
  pub old_cells_measured : OldCellsMeasured
  pub plan_ignores_sound : PlanIgnoresSound
  pub store_ignores_sound : StoreIgnoresSound
  pub longest_counters : LongestCounters
  pub old_plan_kept : OldPlanKept
  pub old_store_kept : OldStoreKept
  pub old_read_kept : OldReadKept
  pub one_convert : OneConvert
  pub one_convert_by_demands : OneConvertByDemands
  pub convert_lowest : ConvertLowest
  pub smaller_refused : SmallerRefused
  pub output_keeps_length : OutputKeepsLength
  pub convert_measured : ConvertMeasured
  pub reads_kept : ReadsKept
  pub stores_kept : StoresKept
  pub convert_twice : ConvertTwice
  pub plan_then_convert : PlanThenConvert
