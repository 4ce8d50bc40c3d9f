-- How a block's bytes are arranged, computed on two rows that differ, the first with a bit in its highest byte. Assumes nothing.
use Prim.Native.Nat.{ℕ}
use mathlib.Core.Path.{◌≡◌, refl}
use mathlib.Core.Bool.{Bool, true, false}
use mathlib.Core.List.{List, [], ◌∷◌, ◌++◌}
use lib.ListN.{replicate}
use Rattle.bits.specs.Bits.{list, has, at, number, digits}
use Rattle.rdis.specs.Packing.{width, bytes_for}
use Rattle.fragment_promises.specs.Transfers.{words_from, cells_of, word_bytes}
use Rattle.fragment_promises.specs.Demands.{cell_bit}

-- two rows of 64 columns: bits 0 and 63 of row 0, and bit 1 of row 1
abbrev cells : List ℕ
cells = 0x8000000000000001 ∷ 0x02 ∷ []

-- at K = 1, after nine bytes of counters, all 0
abbrev sent : List ℕ
sent = replicate 9 0 ++ (0x01 ∷ 0 ∷ 0 ∷ 0 ∷ 0 ∷ 0 ∷ 0 ∷ 0x80 ∷ 0x02 ∷ 0 ∷ 0 ∷ 0 ∷ 0 ∷ 0 ∷ 0 ∷ 0 ∷ [])

-- by the definitions, there and back
pub arranged : (cells_of 2 64 1 sent ≡ cells) × (replicate 9 0 ++ word_bytes cells ≡ sent)
unfolding words_from word_bytes list number digits width bytes_for
arranged = (refl, refl)

-- and by the demands, bit by bit: of each row bits 0, 1 and 63
abbrev bits : ℕ → List Bool
bits i = cell_bit 2 64 1 sent i 0 ∷ cell_bit 2 64 1 sent i 1 ∷ cell_bit 2 64 1 sent i 63 ∷ []

pub arranged_bits : (bits 0 ≡ true ∷ false ∷ true ∷ []) × (bits 1 ≡ false ∷ true ∷ false ∷ [])
unfolding at has width bytes_for
arranged_bits = (refl, refl)
