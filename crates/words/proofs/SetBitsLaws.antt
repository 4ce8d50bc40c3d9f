-- Laws of the places of a word's 1s. Assumes nothing.
use Prim.Native.Nat.{ℕ, ◌^◌, ◌<◌}
use mathlib.Core.Logic.{⊎_elim}
use Rattle.bits.proofs.TestLaws.{clash, lt_or_le}
use Rattle.bits.proofs.BitLaws.{has_high}
use Rattle.words.specs.SetBits.{TakesLowest}

-- a word of n bits has its 1s below n
pub place_below : (n x i y : ℕ) → x < 2 ^ n → TakesLowest x i y → i < n
place_below n x i y l t = ⊎_elim (λ q. q) (λ q. clash t.set (has_high n x i l q)) (lt_or_le i n)
