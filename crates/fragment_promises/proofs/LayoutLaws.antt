-- The bytes of words are read back, one word after the other. Assumes nothing.
use Prim.Native.Nat.{◌*◌}
use mathlib.Core.Path.{sym, ap, ◌∙◌}
use mathlib.Core.Logic.{⊎_elim}
use native.Mathlib.Omega.{arith}
use lib.ListN.{length, get_or, take, drop_of_length-le}
use Rattle.bits.specs.Bits.{number, number_at}
use Rattle.bits.proofs.TestLaws.{lt_or_le}
use Rattle.bits.proofs.ByteLaws.{past_end}
use Rattle.bits.proofs.DigitLaws.{number_digits}
use Rattle.fragment_promises.specs.Transfers.{word_bytes}
use Rattle.fragment_promises.specs.Layout.{WordsRead}
use Rattle.fragment_promises.proofs.BlockLaws.{word_back, length_word_bytes}

pub words_read : WordsRead
unfolding number_at number
words_read ws i h =
    ⊎_elim
    (λ l. ap (number 256) (word_back ws i l) ∙ number_digits 256 8 (get_or ws i 0) (omega arith) (h i))
    (λ l. ap (λ bs. number 256 (take 8 bs)) (drop_of_length-le (word_bytes ws) {i = 8 * i} (omega (arith, length_word_bytes ws))) ∙ sym (past_end ws i l))
    (lt_or_le i (length ws))
