-- The theorems of this crate, all proved. Assumes nothing.
use Rattle.grid_promises.specs.Claims.{Claims}
use Rattle.grid_promises.proofs.PlanDemands.{bound_follows}
use Rattle.grid_promises.proofs.OneAnswer.{one_read, one_plan, one_store, output_measured, old_counters_measured, old_cells_measured, plan_ignores_sound, store_ignores_sound}
use Rattle.grid_promises.proofs.ByDemands.{one_read_by_demands, one_plan_by_demands, one_store_by_demands}
use Rattle.grid_promises.proofs.PlanThenStore.{plan_then_store}
use Rattle.grid_promises.proofs.OptimalPlans.{store_exists, refused_if_never_stored, store_then_plan}
use Rattle.grid_promises.proofs.OneConversion.{one_convert, one_convert_by_demands, smaller_refused, output_keeps_length, convert_measured, reads_kept}
use Rattle.grid_promises.proofs.AfterConversion.{stores_kept, convert_twice}
use Rattle.grid_promises.proofs.PlanThenConvert.{plan_then_convert}
use Rattle.grid_promises.proofs.OldReads.{longest_counters, old_plan_kept, old_store_kept, old_read_kept}
use Rattle.grid_promises.proofs.LowestAnswers.{read_lowest, plan_lowest, store_lowest, convert_lowest}

pub claims : Claims
claims = record {
  one_read = one_read;
  one_plan = one_plan;
  one_store = one_store;
  one_read_by_demands = one_read_by_demands;
  one_plan_by_demands = one_plan_by_demands;
  one_store_by_demands = one_store_by_demands;
  read_lowest = read_lowest;
  plan_lowest = plan_lowest;
  store_lowest = store_lowest;
  bound_follows = bound_follows;
  plan_then_store = plan_then_store;
  store_exists = store_exists;
  refused_if_never_stored = refused_if_never_stored;
  store_then_plan = store_then_plan;
  output_measured = output_measured;
  old_counters_measured = old_counters_measured;
  old_cells_measured = old_cells_measured;
  plan_ignores_sound = plan_ignores_sound;
  store_ignores_sound = store_ignores_sound;
  longest_counters = longest_counters;
  old_plan_kept = old_plan_kept;
  old_store_kept = old_store_kept;
  old_read_kept = old_read_kept;
  one_convert = one_convert;
  one_convert_by_demands = one_convert_by_demands;
  convert_lowest = convert_lowest;
  smaller_refused = smaller_refused;
  output_keeps_length = output_keeps_length;
  convert_measured = convert_measured;
  reads_kept = reads_kept;
  stores_kept = stores_kept;
  convert_twice = convert_twice;
  plan_then_convert = plan_then_convert;
}
