use mathlib.Core.Path.{ap, ◌∙◌}
use Rattle.bits.specs.Bits.{has}
use Rattle.bits.proofs.BitLaws.{has_zero}
use Rattle.grid_packing.proofs.sides.second.Goals as goal

pub returns : goal.returns
returns c f b past =
    record {
      bits = record {
        lower = c.back.ensures (λ i. has (f i) 0) b.bits.lower (λ t h. ap (λ x. has x 0) (past t h) ∙ has_zero 0);
        higher = c.back-2.ensures (λ i. has (f i) 1) b.bits.higher (λ t h. ap (λ x. has x 1) (past t h) ∙ has_zero 1);
      };
      third = c.back-3.ensures (λ i. has (f i) 2) b.third (λ t h. ap (λ x. has x 2) (past t h) ∙ has_zero 2);
    }
