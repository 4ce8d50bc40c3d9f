-- Laws of the loop that judges whether a stuck cell would read wrong. Assumes nothing.
use Prim.Native.Nat.{ℕ, ◌+◌, ◌^◌, ◌<◌}
use mathlib.Core.Path.{◌≡◌, ap, ap₂, ◌∙◌}
use mathlib.Core.Bool.{not, xor, ◌&&◌, ◌||◌, or_comm}
use mathlib.Core.List.{List}
use native.Mathlib.Nat.{lt_of_le_of_lt}
use native.Mathlib.Numerals.{add-one}
use borrow.Author.Tests.{eq-eqb, ne_eqb, not-true}
use lib.Bits.{bit_and, bit_or, bit_xor, or_lt, and_le_l}
use lib.Dec.{eqb}
use lib.ListN.{length, get_or}
use lib.Pow.{pow_pos}
use Rattle.bits.specs.Bits.{some, has}
use Rattle.bits.proofs.TestLaws.{clash, same_test}
use Rattle.bits.proofs.BoundLaws.{some_ext}
use Rattle.bits.proofs.BitLaws.{has_or, has_zero, some_has}
use Rattle.rdis.specs.Block.{bit}
use Rattle.grid.specs.Steps.{any_differs}
use Rattle.grid_levels.proofs.StuckLaws.{wrong_bits}

-- after i rows: the columns in which a cell was seen that is stuck at another bit than that of the words x
pub record Seen (x mask values : List ℕ) (i wrong : ℕ) : Type 0 where
  pub small : wrong < 2 ^ 64
  pub columns : (j : ℕ) → has wrong j ≡ some i (λ k. bit mask k j && xor (bit x k j) (bit values k j))

pub seen_none : (x mask values : List ℕ) → Seen x mask values 0 0
unfolding some
seen_none x mask values = record { small = pow_pos 64; columns = has_zero }

pub seen_more : (x mask values : List ℕ) (i wrong : ℕ) → get_or mask i 0 < 2 ^ 64 → Seen x mask values i wrong
    → Seen x mask values (i + 1) (bit_or wrong (bit_and (get_or mask i 0) (bit_xor (get_or x i 0) (get_or values i 0))))
unfolding some bit
seen_more x mask values i wrong l s =
    let row = bit_and (get_or mask i 0) (bit_xor (get_or x i 0) (get_or values i 0)) in
    record {
      small = or_lt 64 wrong row s.small (lt_of_le_of_lt (and_le_l (get_or mask i 0) (bit_xor (get_or x i 0) (get_or values i 0))) l);
      columns = λ j.
          has_or wrong row j ∙ or_comm (has wrong j) (has row j)
          ∙ rw add-one (ap₂ ◌||◌ (wrong_bits (get_or x i 0) (get_or mask i 0) (get_or values i 0) j) (s.columns j));
    }

-- such a cell was seen in some column
pub seen_some : (x mask values : List ℕ) (i wrong : ℕ) → i ≡ length x → Seen x mask values i wrong → not (eqb wrong 0) ≡ any_differs x mask values
unfolding any_differs
seen_some x mask values i wrong e s =
    same_test (not (eqb wrong 0)) (some 64 (has wrong))
    (λ h. (some_has 64 wrong s.small).1 (λ q. clash (eq-eqb wrong 0 q) (not-true (eqb wrong 0) h)))
    (λ h. ap not (ne_eqb wrong 0 ((some_has 64 wrong s.small).0 h)))
    ∙ some_ext 64 _ _ (λ j _. s.columns j ∙ ap (λ n. some n (λ k. bit mask k j && xor (bit x k j) (bit values k j))) e)
