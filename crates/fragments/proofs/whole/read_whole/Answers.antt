use mathlib.Core.Path.{sym}
use lib.Seq.{length-take-le}
use Rattle.fragments.proofs.whole.read_whole.Goals as goal

pub slice_bounds-cells-end : goal.slice_bounds-cells-end
slice_bounds-cells-end c = c.args.sizes.in_range.rows.1

pub slice_bounds-read_by-end : goal.slice_bounds-read_by-end
slice_bounds-read_by-end c = sym (length-take-le c.args.sizes.rows _ c.args.sizes.in_range.rows.1)

pub read_by-requires : goal.read_by-requires
read_by-requires c = (c.requires, length-take-le c.args.sizes.rows _ c.args.sizes.in_range.rows.1)
