-- Each call answers the lowest number that applies: the numbers of its refusals rise. Assumes nothing.
use mathlib.Core.Path.{refl}
use Rattle.bits.proofs.FirstLaws.{rising_lowest}
use Rattle.grid_promises.specs.Theorems.{ReadLowest, PlanLowest, StoreLowest}
use Rattle.grid_promises.specs.Conversion.{ConvertLowest}

pub read_lowest : ReadLowest
read_lowest m n k cells counters out a after d = (rising_lowest _ a.number refl).0 d.first

pub plan_lowest : PlanLowest
plan_lowest b k counters a after d = (rising_lowest _ a.number refl).0 d.first

pub store_lowest : StoreLowest
store_lowest b k counters cells a after d = (rising_lowest _ a.number refl).0 d.first

pub convert_lowest : ConvertLowest
convert_lowest m n k k' counters out a after d = (rising_lowest _ a.number refl).0 d.first
