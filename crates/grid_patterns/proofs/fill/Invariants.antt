use mathlib.Core.Path.{◌≡◌}
use lib.ListN.{length}
use Rattle.bits.specs.Bits.{words}
use Rattle.grid_patterns.specs.Promises.{inverted_by}
use Rattle.grid_patterns.proofs.fill.Given as goal

abbrev pub invariant-loop-m : goal.invariant-loop-m
invariant-loop-m l = l.into ≡ words (length l.from) 64 (inverted_by l.rows l.columns l.m l.from)
