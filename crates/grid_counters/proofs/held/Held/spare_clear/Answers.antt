use mathlib.Core.Path.{◌≡◌, sym, ◌∙◌}
use Prim.Native.Nat.{◌+◌, ◌*◌, ◌/◌, ◌%◌, ◌^◌}
use lib.Dec.{eqb}
use borrow.Author.Tests.{eq-eqb, ne_eqb}
use Rattle.rdis.specs.Packing.{width, spare_clear}
use Rattle.grid_counters.proofs.WindowLaws.{spare_read}
use Rattle.grid_counters.proofs.held.Held.spare_clear.Goals as goal
use Rattle.grid_counters.proofs.held.Held.spare_clear.Goals.{After-byte}

-- the test of the code is that of the promise
tested : (b : After-byte) → let h = b.args.self.now in eqb (b.byte.result / 2 ^ (h.width * (h.rows + h.columns) % 8)) 0 ≡ spare_clear (width h.k) (h.rows + h.columns) h.bytes.now
tested b = let h = b.args.self.now in rw (b.byte.ensures.0, h.wide) (spare_read (width h.k) (h.rows + h.columns) h.bytes.now h.sized h.small)

pub returns-then-byte-p-eq0 : goal.returns-then-byte-p-eq0
returns-then-byte-p-eq0 c = rw (sym (tested (goal.at.returns-then-byte-p-eq0 c).After-byte) ∙ eq-eqb _ 0 c.if-byte-p-eq0.true)

pub returns-else-byte-p-eq0 : goal.returns-else-byte-p-eq0
returns-else-byte-p-eq0 c = rw (sym (tested (goal.at.returns-else-byte-p-eq0 c).After-byte) ∙ ne_eqb _ 0 c.if-byte-p-eq0.false)
