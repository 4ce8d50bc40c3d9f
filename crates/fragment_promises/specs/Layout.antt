-- The bytes of a transfer's words and the words of the program's calls: both have the lowest byte first, and word 0 first. Assumes nothing.
use Rattle.std.specs.Prelude.{ℕ, ◌*◌, ◌^◌, ◌≡◌, List, get_or}
use Rattle.bits.specs.Bits.{number_at, Below}
use Rattle.fragment_promises.specs.Transfers.{word_bytes}

-- word i of the bytes of words, read as the program reads a word, is word i of them
abbrev pub WordsRead : Type 0
WordsRead = (ws : List ℕ) (i : ℕ) → Below (2 ^ 64) ws → number_at (word_bytes ws) (8 * i) 8 ≡ get_or ws i 0
