-- The theorems of this crate, all proved. Assumes nothing.
use Rattle.fragment_promises.specs.Claims.{Claims}
use Rattle.fragment_promises.proofs.StepLaws.{one_start, one_lump, one_start_by_demands, one_lump_by_demands, start_lowest, lump_lowest}
use Rattle.fragment_promises.proofs.FinishLaws.{one_finish, one_finish_by_demands, finish_measured}
use Rattle.fragment_promises.proofs.MissingLaws.{one_missing, one_missing_by_demands, missing_lowest}
use Rattle.fragment_promises.proofs.SequenceLaws.{as_defined, every_lump, every_finish, every_missing}
use Rattle.fragment_promises.proofs.CuttingLaws.{whole_block, sent_block, store_then_send, wrong_output, short_block, long_block, bad_block, none_missing, some_missing, missing_fits, every_start, ever_after, not_taken, joined_lumps, two_cuttings, any_cutting, empty_lump, finish_between, starts_afresh, stays}
use Rattle.fragment_promises.proofs.LayoutLaws.{words_read}

pub claims : Claims
claims = record {
  one_start = one_start;
  one_lump = one_lump;
  one_finish = one_finish;
  one_missing = one_missing;
  one_start_by_demands = one_start_by_demands;
  one_lump_by_demands = one_lump_by_demands;
  one_finish_by_demands = one_finish_by_demands;
  one_missing_by_demands = one_missing_by_demands;
  start_lowest = start_lowest;
  lump_lowest = lump_lowest;
  missing_lowest = missing_lowest;
  finish_measured = finish_measured;
  as_defined = as_defined;
  every_lump = every_lump;
  every_finish = every_finish;
  every_missing = every_missing;
  whole = whole_block;
  sent = sent_block;
  store_then_send = store_then_send;
  wrong_output = wrong_output;
  short = short_block;
  long = long_block;
  bad = bad_block;
  none_missing = none_missing;
  some_missing = some_missing;
  missing_fits = missing_fits;
  every_start = every_start;
  ever_after = ever_after;
  not_taken = not_taken;
  joined = joined_lumps;
  two_cuttings = two_cuttings;
  any_cutting = any_cutting;
  empty_lump = empty_lump;
  finish_between = finish_between;
  starts_afresh = starts_afresh;
  stays = stays;
  words_read = words_read;
}
