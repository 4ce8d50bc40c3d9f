-- One transfer by its promises: the block of case G2, 1 by 1 at K = 1, in lumps of four and of five bytes, with a finish after each. Assumes nothing.
use Prim.Native.Nat.{ℕ, zero, suc}
use mathlib.Core.Path.{◌≡◌, refl}
use mathlib.Core.Bool.{xor}
use mathlib.Core.List.{List, [], ◌∷◌}
use native.Mathlib.Omega.{arith}
use lib.Dec.{lit<}
use lib.ListN.{take, replicate}
use Rattle.bits.specs.Bits.{some, list, has, word, words, number, Below}
use Rattle.rdis.specs.Block.{bit}
use Rattle.rdis.specs.Cells.{flips, reading}
use Rattle.rdis.specs.Packing.{width, bytes_for, counter, above, spare_clear}
use Rattle.grid_promises.specs.Calls.{in_range, counters_sized, past, bad_index, read_number}
use Rattle.fragment_promises.specs.declared.Transfer.{Transfer}
use Rattle.fragment_promises.specs.Transfers.{size, words_from, standing, finish_number, started, lumped}
use Rattle.fragment_promises.specs.Promises.{Lump, Finishes}
use Rattle.fragment_promises.proofs.StepLaws.{lump_demands}
use Rattle.fragment_promises.proofs.FinishLaws.{finish_promise}

-- its bytes: both counters 1, and the cell word 0
abbrev pub four : List ℕ
four = 3 ∷ 0 ∷ 0 ∷ 0 ∷ []

abbrev pub five : List ℕ
five = 0 ∷ 0 ∷ 0 ∷ 0 ∷ 0 ∷ []

-- the transfer after the first lump, and after the second
abbrev pub after_four : Transfer
after_four = lumped (started 1 1 1) four

abbrev pub after_nine : Transfer
after_nine = lumped after_four five

pub first_lump : Lump (started 1 1 1) four 0 after_four
unfolding lumped standing size width bytes_for in_range
first_lump = record { exactly = record { number = refl; left = refl }; demands = lump_demands (started 1 1 1) four refl }

pub second_lump : Lump after_four five 0 after_nine
unfolding lumped standing size width bytes_for in_range
second_lump = record { exactly = record { number = refl; left = refl }; demands = lump_demands after_four five refl }

-- a lump of six ones is one byte too many: none of them is taken, and 561 bytes count as taken
refused_lump : let t = lumped after_four (1 ∷ 1 ∷ 1 ∷ 1 ∷ 1 ∷ 1 ∷ []) in (t.taken ≡ 561) × (take 10 t.bytes ≡ 3 ∷ replicate 9 0)
unfolding lumped standing size width bytes_for in_range
refused_lump = (refl, refl)

below : (n : ℕ) → Below 256 (3 ∷ replicate n 0)
below n zero = lit< tt
below zero (suc i) = lit< tt
below (suc n) (suc zero) = lit< tt
below (suc n) (suc (suc i)) = below n (suc i)

eight : ◌≡◌ {A = ℕ} 8 0 → ⊥
eight z = omega arith

-- short: nothing is handed out
pub short_finish : Finishes after_four (0 ∷ []) (record { number = 8; index = 0 }) (0 ∷ [])
unfolding lumped standing size width bytes_for in_range finish_number bad_index
short_finish =
    finish_promise 1 1 1 4 four (0 ∷ []) (record { number = 8; index = 0 }) (0 ∷ []) (below 3) (record { number = refl; index_is = refl; untouched = λ _. refl; shown = λ z. absurd (eight z) })

-- whole: the cell is read inverted
pub whole_finish : Finishes after_nine (0 ∷ []) (record { number = 0; index = 0 }) (1 ∷ [])
unfolding lumped standing size words_from width bytes_for in_range finish_number read_number counters_sized past spare_clear above counter bad_index reading flips bit some list has word words number xor
whole_finish =
    finish_promise 1 1 1 9 (3 ∷ replicate 8 0) (0 ∷ []) (record { number = 0; index = 0 }) (1 ∷ []) (below 8)
    (record { number = refl; index_is = refl; untouched = λ l. absurd (omega arith); shown = λ _. refl })
