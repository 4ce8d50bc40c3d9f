-- A plan and a store that are promised, computed: case G2 of document 01; a read and a store that are refused, with the index; and a conversion that is
-- accepted and one that is refused. Assumes nothing.
use Prim.Native.Nat.{ℕ, zero, suc, ◌<◌}
use mathlib.Core.Path.{refl}
use mathlib.Core.Bool.{xor}
use mathlib.Core.List.{List, [], ◌∷◌}
use native.Mathlib.Omega.{arith}
use lib.Count.{ones, ones_in}
use lib.Dec.{lit<}
use Rattle.bits.specs.Bits.{some, first, sum, most, list, has, word, words, number, digits, Below}
use Rattle.rdis.specs.Block.{Block, bit, differs, faulty, count, faults}
use Rattle.rdis.specs.Levels.{whole, takes, taken, left, levels, plan}
use Rattle.rdis.specs.Cells.{flips, holds, stored, misreads}
use Rattle.rdis.specs.Packing.{width, bytes_for, packed, unpacked, counter, spare_clear, above, first_above}
use Rattle.grid_promises.specs.Calls.{in_range, counters_sized, past, block, read_number, plan_number, store_number, bad_index}
use Rattle.grid_promises.specs.Promises.{Read, Plan, Store}
use Rattle.grid_promises.specs.Conversion.{convert_in_range, convert_sized, convert_number, Convert}
use Rattle.grid_promises.proofs.ReadDemands.{read_demands}
use Rattle.grid_promises.proofs.PlanDemands.{plan_demands}
use Rattle.grid_promises.proofs.StoreDemands.{store_demands, uncounted, store_refused_lem}
use Rattle.grid_promises.proofs.ConvertDemands.{convert_demands}

-- one cell, stuck at 0, that should hold a 1
abbrev pub G2 : Block
G2 = block 1 1 (1 ∷ []) (1 ∷ []) (0 ∷ [])

pub g2_plan : Plan G2 1 (0 ∷ []) (record { number = 0; levels = 1; faults = 1; wrong = 1; right = 0; index = 0 }) (3 ∷ [])
unfolding plan_number in_range counters_sized past plan levels taken left takes whole faulty differs bit has word some xor width bytes_for packed number digits list faults count sum ones ones_in
g2_plan = plan_demands G2 1 (0 ∷ []) (record { number = 0; levels = 1; faults = 1; wrong = 1; right = 0; index = 0 }) (3 ∷ [])
    (record { number = refl; index_is = refl; untouched = λ l. absurd (omega arith); counters_are = λ _. refl; levels_are = λ _. refl; faults_are = λ _. refl; kinds_are = λ _. record { wrong = refl; right = refl; sum = refl } })

pub g2_store : Store G2 1 (3 ∷ []) (0 ∷ []) (record { number = 0; levels = 1; faults = 1; wrong = 1; right = 0; index = 0 }) (0 ∷ [])
unfolding store_number bad_index in_range counters_sized past above spare_clear counter width bytes_for number some bit differs faulty has word words list xor misreads flips stored holds most faults count sum ones ones_in
g2_store = store_demands G2 1 (3 ∷ []) (0 ∷ []) (record { number = 0; levels = 1; faults = 1; wrong = 1; right = 0; index = 0 }) (0 ∷ [])
    (record { number = refl; index_is = refl; untouched = λ l. absurd (omega arith); cells_are = λ _. refl; levels_are = λ _. refl; faults_are = λ _. refl; kinds_are = λ _. record { wrong = refl; right = refl; sum = refl } })

-- two by two at K = 2, as in G10, with a 3 for column 0, whose counter stands after those of two rows: a read, and a store of G3
pub bad_read : Read 2 2 2 (3 ∷ 3 ∷ []) (0x30 ∷ []) (7 ∷ 8 ∷ []) (record { number = 4; index = 2 }) (7 ∷ 8 ∷ [])
unfolding read_number bad_index first_above first in_range counters_sized past above spare_clear counter width bytes_for number some
bad_read = read_demands 2 2 2 (3 ∷ 3 ∷ []) (0x30 ∷ []) (7 ∷ 8 ∷ []) (record { number = 4; index = 2 }) (7 ∷ 8 ∷ [])
    (record { number = refl; index_is = refl; untouched = λ _. refl; shown = λ z. absurd (omega arith) })

abbrev pub G3 : Block
G3 = block 2 2 (0 ∷ 0 ∷ []) (3 ∷ 2 ∷ []) (1 ∷ 2 ∷ [])

pub bad_store : Store G3 2 (0x30 ∷ []) (7 ∷ 8 ∷ []) (uncounted 4 2) (7 ∷ 8 ∷ [])
unfolding store_number bad_index first_above first in_range counters_sized past above spare_clear counter width bytes_for number some
bad_store = store_refused_lem G3 2 (0x30 ∷ []) (7 ∷ 8 ∷ []) 3 refl

-- numbers that are written out are bytes
no_bytes : Below 256 []
no_bytes i = lit< tt

byte_below : (x : ℕ) (xs : List ℕ) → x < 256 → Below 256 xs → Below 256 (x ∷ xs)
byte_below x xs h f zero = h
byte_below x xs h f (suc i) = f i

-- two by three from K = 3 to K = 4: the counters 0, 1, 2, 3, 1 at two bits and at three
pub good_convert : Convert 2 3 3 4 (0xE4 ∷ 0x01 ∷ []) (7 ∷ 8 ∷ []) (record { number = 0; index = 0 }) (0x88 ∷ 0x16 ∷ [])
unfolding convert_number convert_in_range convert_sized bad_index in_range counters_sized above spare_clear packed unpacked counter width bytes_for number digits list some
good_convert = convert_demands 2 3 3 4 (0xE4 ∷ 0x01 ∷ []) (7 ∷ 8 ∷ []) (record { number = 0; index = 0 }) (0x88 ∷ 0x16 ∷ [])
    (record { number = refl; index_is = refl; untouched = λ l. absurd (omega arith); bytes_are = λ _. refl })
    (byte_below 0xE4 (0x01 ∷ []) (lit< tt) (byte_below 0x01 [] (lit< tt) no_bytes))

-- two by two from K = 2 to K = 4 with a 3 for column 0, which the target would allow
pub bad_convert : Convert 2 2 2 4 (0x30 ∷ []) (7 ∷ 8 ∷ []) (record { number = 4; index = 2 }) (7 ∷ 8 ∷ [])
unfolding convert_number convert_in_range convert_sized bad_index first_above first in_range counters_sized above spare_clear counter width bytes_for number some
bad_convert = convert_demands 2 2 2 4 (0x30 ∷ []) (7 ∷ 8 ∷ []) (record { number = 4; index = 2 }) (7 ∷ 8 ∷ [])
    (record { number = refl; index_is = refl; untouched = λ _. refl; bytes_are = λ z. absurd (omega arith) })
    (byte_below 0x30 [] (lit< tt) no_bytes)
