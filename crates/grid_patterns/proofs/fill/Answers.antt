use mathlib.Core.Path.{sym, ◌∙◌}
use Rattle.words.proofs.CopyLaws.{as_long_lem}
use Rattle.grid_patterns.proofs.FillLaws.{none_inverted, can_flip, invert_more}
use Rattle.grid_patterns.proofs.fill.Goals as goal

pub loop-m-init : goal.loop-m-init
loop-m-init c = c.copy.ensures ∙ sym (as_long_lem _ _ _ _ c.requires.2) ∙ none_inverted _ _ _ (λ i. (c.type_inv.from i).fits)

pub flip-requires : goal.flip-requires
flip-requires c = can_flip _ _ _ _ _ c.requires.1 c.low_bits-inside.ensures c.loop-m.m c.loop-m.into c.loop-m.invariant

pub loop-m-preserved : goal.loop-m-preserved
loop-m-preserved c = invert_more _ _ _ _ _ c.requires.1 c.low_bits-inside.ensures c.loop-m.m c.loop-m.into _ c.loop-m.invariant c.flip.ensures
