-- The theorems of this crate, all proved. Assumes nothing.
use Rattle.rdis.specs.Claims.{Claims}
use Rattle.rdis.proofs.LevelLaws.{refused_by_chain, more_allowed, levels_by_chain, one_depth, no_chain_empty}
use Rattle.rdis.proofs.CounterLaws.{wrong_where_flipped, counters_at_most, levels_reached}
use Rattle.rdis.proofs.CellLaws.{read_back, stored_reads, plan_reads, stuck_held}
use Rattle.rdis.proofs.PackingLaws.{packed_only, fewest_bytes, counter_bits, packed_bits, spare_bits, counters_back, width_holds, old_width_kept, three_bits, read_back_packed}
use Rattle.rdis.proofs.SoundLaws.{sound_ignored}
use Rattle.rdis.proofs.CountLaws.{two_kinds, faults_are_cells}
use Rattle.rdis.proofs.FaultLaws.{levels_by_kind, levels_by_faults}
use Rattle.rdis.proofs.TakenLaws.{levels_counted, one_count}
use Rattle.rdis.proofs.OptimalCounters.{chain_exceeds, chain_misreads, refused_if_no_counters, masked_if_any, least_counters, fewest_levels}

pub claims : Claims
claims = record {
  refused_by_chain = refused_by_chain;
  more_allowed = more_allowed;
  levels_by_chain = levels_by_chain;
  one_depth = one_depth;
  no_chain_empty = no_chain_empty;
  levels_counted = levels_counted;
  one_count = one_count;
  levels_by_kind = levels_by_kind;
  two_kinds = two_kinds;
  levels_by_faults = levels_by_faults;
  faults_are_cells = faults_are_cells;
  wrong_where_flipped = wrong_where_flipped;
  read_back = read_back;
  stored_reads = stored_reads;
  plan_reads = plan_reads;
  stuck_held = stuck_held;
  packed_only = packed_only;
  fewest_bytes = fewest_bytes;
  counter_bits = counter_bits;
  packed_bits = packed_bits;
  spare_bits = spare_bits;
  counters_back = counters_back;
  counters_at_most = counters_at_most;
  levels_reached = levels_reached;
  width_holds = width_holds;
  old_width_kept = old_width_kept;
  three_bits = three_bits;
  read_back_packed = read_back_packed;
  sound_ignored = sound_ignored;
  chain_exceeds = chain_exceeds;
  chain_misreads = chain_misreads;
  refused_if_no_counters = refused_if_no_counters;
  masked_if_any = masked_if_any;
  least_counters = least_counters;
  fewest_levels = fewest_levels;
}
