use Rattle.grid_packing.proofs.TallyLaws.{masked_planes}
use Rattle.grid_packing.proofs.tally.within.Goals as goal

pub returns : goal.returns
returns c f b = masked_planes c.args.lines.count c.low_bits-inside.result f c.args.p c.args.lines.few c.low_bits-inside.ensures b
