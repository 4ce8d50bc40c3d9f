use Rattle.grid_counters.proofs.SetLaws.{thresholds_are}
use Rattle.grid_counters.proofs.sets.thresholds.Goals as goal

pub returns : goal.returns
returns c n f few p = thresholds_are n f few _ _ _ p.bits.lower p.bits.higher p.third
