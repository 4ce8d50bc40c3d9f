-- Both sides of each edge of the numbers, computed, so that a reader sees where they lie. Assumes nothing.
use Prim.Native.Nat.{ℕ, ◌+◌, ◌*◌, ◌%◌, ◌^◌}
use mathlib.Core.Path.{◌≡◌, refl}
use mathlib.Core.Bool.{xor}
use mathlib.Core.List.{List, [], ◌∷◌}
use lib.ListN.{length}
use Rattle.bits.specs.Bits.{some, first, list, has, word, number}
use Rattle.rdis.specs.Block.{Block, bit, differs, faulty}
use Rattle.rdis.specs.Levels.{whole, takes, taken, left, levels, plan}
use Rattle.rdis.specs.Cells.{flips, misreads}
use Rattle.rdis.specs.Packing.{width, bytes_for, counter, spare_clear, above, first_above}
use Rattle.grid_promises.specs.Calls.{in_range, counters_sized, past, read_number, block, plan_number, store_number, bad_index}

abbrev zeros : ℕ → List ℕ
zeros n = list n (λ _. 0)

-- a read, a plan and a store of m rows and n columns, all 0
abbrev plain_read : ℕ → ℕ → ℕ → ℕ
plain_read m n k = read_number m n k (zeros m) (zeros (bytes_for (width k) (m + n))) m

abbrev plain_plan : ℕ → ℕ → ℕ → ℕ
plain_plan m n k = plan_number (block m n (zeros m) (zeros m) (zeros m)) k (bytes_for (width k) (m + n))

abbrev plain_store : ℕ → ℕ → ℕ → ℕ
plain_store m n k = store_number (block m n (zeros m) (zeros m) (zeros m)) k (zeros (bytes_for (width k) (m + n))) m

-- rows, columns and K, each one below its range, at its first, at its last and one above
abbrev around : (ℕ → ℕ → ℕ → ℕ) → List (List ℕ)
around f = (f 0 1 1 ∷ f 1 1 1 ∷ f 64 1 1 ∷ f 65 1 1 ∷ []) ∷ (f 1 0 1 ∷ f 1 1 1 ∷ f 1 64 1 ∷ f 1 65 1 ∷ []) ∷ (f 1 1 0 ∷ f 1 1 1 ∷ f 1 1 7 ∷ f 1 1 8 ∷ []) ∷ []

abbrev edges : List (List ℕ)
edges = (1 ∷ 0 ∷ 0 ∷ 1 ∷ []) ∷ (1 ∷ 0 ∷ 0 ∷ 1 ∷ []) ∷ (1 ∷ 0 ∷ 0 ∷ 1 ∷ []) ∷ []

pub ranges : (around plain_read ≡ edges) × (around plain_plan ≡ edges) × (around plain_store ≡ edges)
unfolding read_number plan_number store_number in_range counters_sized past above list some width bytes_for counter spare_clear number plan levels taken left takes whole faulty differs bit has word xor misreads flips
ranges = (refl, refl, refl)

-- ---- 2 by 2

abbrev read_in : ℕ → List ℕ → List ℕ → ℕ → ℕ
read_in k cells counters out = read_number 2 2 k cells counters out

abbrev plan_in : ℕ → List ℕ → List ℕ → List ℕ → ℕ → ℕ
plan_in k d mask values counters = plan_number (block 2 2 d mask values) k counters

abbrev store_in : ℕ → List ℕ → List ℕ → List ℕ → List ℕ → ℕ → ℕ
store_in k d mask values counters cells = store_number (block 2 2 d mask values) k counters cells

-- a buffer one short and one long; the last column's bit and the next; the last counter's bit, the next, and the last of the byte; a counter of K and of K + 1,
-- of a column and of a row; 1 before 2 before 3 before 4
pub reads :
    (read_in 1 (zeros 1) (0 ∷ []) 2 ∷ read_in 1 (zeros 3) (0 ∷ []) 2 ∷ read_in 1 (zeros 2) [] 2 ∷ read_in 1 (zeros 2) (zeros 2) 2 ∷ read_in 1 (zeros 2) (0 ∷ []) 1 ∷ read_in 1 (zeros 2) (0 ∷ []) 3 ∷ [])
    ∷ (read_in 1 (2 ∷ 3 ∷ []) (0 ∷ []) 2 ∷ read_in 1 (4 ∷ 0 ∷ []) (0 ∷ []) 2 ∷ read_in 1 (0 ∷ 4 ∷ []) (0 ∷ []) 2 ∷ [])
    ∷ (read_in 1 (zeros 2) (0x08 ∷ []) 2 ∷ read_in 1 (zeros 2) (0x10 ∷ []) 2 ∷ read_in 1 (zeros 2) (0x80 ∷ []) 2 ∷ [])
    ∷ (read_in 2 (zeros 2) (0x80 ∷ []) 2 ∷ read_in 2 (zeros 2) (0xC0 ∷ []) 2 ∷ read_in 2 (zeros 2) (0x03 ∷ []) 2 ∷ read_in 3 (zeros 2) (0xC0 ∷ []) 2 ∷ [])
    ∷ (read_in 8 (4 ∷ 0 ∷ []) (0xC0 ∷ []) 3 ∷ read_in 2 (4 ∷ 0 ∷ []) (0xC0 ∷ []) 3 ∷ read_in 2 (4 ∷ 0 ∷ []) (0xC0 ∷ []) 2 ∷ [])
    ∷ []
    ≡ (2 ∷ 2 ∷ 2 ∷ 2 ∷ 2 ∷ 2 ∷ []) ∷ (0 ∷ 3 ∷ 3 ∷ []) ∷ (0 ∷ 3 ∷ 3 ∷ []) ∷ (0 ∷ 4 ∷ 4 ∷ 0 ∷ []) ∷ (1 ∷ 2 ∷ 3 ∷ []) ∷ []
unfolding read_number in_range counters_sized past above list some width bytes_for counter spare_clear number
reads = refl

-- a buffer one short and one long; the last column's bit and the next, in each word that is read; a ring of right and wrong cells; 1 before 2 before 3 before 7
pub plans :
    (plan_in 1 (zeros 1) (zeros 2) (zeros 2) 1 ∷ plan_in 1 (zeros 3) (zeros 2) (zeros 2) 1 ∷ plan_in 1 (zeros 2) (zeros 1) (zeros 2) 1 ∷ plan_in 1 (zeros 2) (zeros 3) (zeros 2) 1 ∷ [])
    ∷ (plan_in 1 (zeros 2) (zeros 2) (zeros 1) 1 ∷ plan_in 1 (zeros 2) (zeros 2) (zeros 3) 1 ∷ plan_in 1 (zeros 2) (zeros 2) (zeros 2) 0 ∷ plan_in 1 (zeros 2) (zeros 2) (zeros 2) 2 ∷ plan_in 1 (zeros 2) (zeros 2) (zeros 2) 1 ∷ [])
    ∷ (plan_in 1 (2 ∷ 0 ∷ []) (zeros 2) (2 ∷ 0 ∷ []) 1 ∷ plan_in 1 (4 ∷ 0 ∷ []) (zeros 2) (zeros 2) 1 ∷ plan_in 1 (zeros 2) (0 ∷ 4 ∷ []) (zeros 2) 1 ∷ plan_in 1 (zeros 2) (zeros 2) (4 ∷ 0 ∷ []) 1 ∷ [])
    ∷ (plan_in 1 (zeros 2) (3 ∷ 3 ∷ []) (1 ∷ 2 ∷ []) 1 ∷ plan_in 3 (zeros 2) (3 ∷ 3 ∷ []) (1 ∷ 2 ∷ []) 1 ∷ plan_in 1 (zeros 2) (3 ∷ 3 ∷ []) (5 ∷ 2 ∷ []) 1 ∷ plan_in 1 (zeros 2) (3 ∷ 3 ∷ []) (5 ∷ 2 ∷ []) 2 ∷ plan_in 0 (zeros 2) (3 ∷ 3 ∷ []) (5 ∷ 2 ∷ []) 2 ∷ [])
    ∷ []
    ≡ (2 ∷ 2 ∷ 2 ∷ 2 ∷ []) ∷ (2 ∷ 2 ∷ 2 ∷ 2 ∷ 0 ∷ []) ∷ (0 ∷ 3 ∷ 3 ∷ 3 ∷ []) ∷ (7 ∷ 7 ∷ 3 ∷ 2 ∷ 1 ∷ []) ∷ []
unfolding plan_number in_range counters_sized past list some width bytes_for plan levels taken left takes whole faulty differs bit has word xor
plans = refl

-- a buffer one short and one long
pub store_lengths :
    (store_in 1 (zeros 1) (zeros 2) (zeros 2) (0 ∷ []) 2 ∷ store_in 1 (zeros 3) (zeros 2) (zeros 2) (0 ∷ []) 2 ∷ store_in 1 (zeros 2) (zeros 1) (zeros 2) (0 ∷ []) 2 ∷ store_in 1 (zeros 2) (zeros 3) (zeros 2) (0 ∷ []) 2 ∷ [])
    ∷ (store_in 1 (zeros 2) (zeros 2) (zeros 1) (0 ∷ []) 2 ∷ store_in 1 (zeros 2) (zeros 2) (zeros 3) (0 ∷ []) 2 ∷ store_in 1 (zeros 2) (zeros 2) (zeros 2) [] 2 ∷ store_in 1 (zeros 2) (zeros 2) (zeros 2) (zeros 2) 2 ∷ [])
    ∷ (store_in 1 (zeros 2) (zeros 2) (zeros 2) (0 ∷ []) 1 ∷ store_in 1 (zeros 2) (zeros 2) (zeros 2) (0 ∷ []) 3 ∷ store_in 1 (zeros 2) (zeros 2) (zeros 2) (0 ∷ []) 2 ∷ [])
    ∷ []
    ≡ (2 ∷ 2 ∷ 2 ∷ 2 ∷ []) ∷ (2 ∷ 2 ∷ 2 ∷ 2 ∷ []) ∷ (2 ∷ 2 ∷ 0 ∷ []) ∷ []
unfolding store_number in_range counters_sized past above list some width bytes_for counter spare_clear number bit has xor misreads flips
store_lengths = refl

-- the last column's bit and the next, in each word that is read; the last counter's bit, the next, and the last of the byte; a counter of K and of K + 1, of a
-- column and of a row; a cell stuck at 1 for the data 0, by counters that invert it, by the row's alone and by the column's alone; one stuck at 0, the same; a
-- sound one; 1 before 2 before 3 before 4 before 13
pub stores :
    (store_in 1 (2 ∷ 0 ∷ []) (zeros 2) (2 ∷ 0 ∷ []) (0 ∷ []) 2 ∷ store_in 1 (4 ∷ 0 ∷ []) (zeros 2) (zeros 2) (0 ∷ []) 2 ∷ store_in 1 (zeros 2) (0 ∷ 4 ∷ []) (zeros 2) (0 ∷ []) 2 ∷ store_in 1 (zeros 2) (zeros 2) (4 ∷ 0 ∷ []) (0 ∷ []) 2 ∷ [])
    ∷ (store_in 1 (zeros 2) (zeros 2) (zeros 2) (0x08 ∷ []) 2 ∷ store_in 1 (zeros 2) (zeros 2) (zeros 2) (0x10 ∷ []) 2 ∷ store_in 1 (zeros 2) (zeros 2) (zeros 2) (0x80 ∷ []) 2 ∷ [])
    ∷ (store_in 2 (zeros 2) (zeros 2) (zeros 2) (0x80 ∷ []) 2 ∷ store_in 2 (zeros 2) (zeros 2) (zeros 2) (0xC0 ∷ []) 2 ∷ store_in 2 (zeros 2) (zeros 2) (zeros 2) (0x03 ∷ []) 2 ∷ store_in 3 (zeros 2) (zeros 2) (zeros 2) (0xC0 ∷ []) 2 ∷ [])
    ∷ (store_in 1 (zeros 2) (2 ∷ 0 ∷ []) (2 ∷ 0 ∷ []) (0x09 ∷ []) 2 ∷ store_in 1 (zeros 2) (2 ∷ 0 ∷ []) (2 ∷ 0 ∷ []) (0x01 ∷ []) 2 ∷ store_in 1 (zeros 2) (2 ∷ 0 ∷ []) (2 ∷ 0 ∷ []) (0x08 ∷ []) 2 ∷ [])
    ∷ (store_in 1 (zeros 2) (2 ∷ 0 ∷ []) (zeros 2) (0x09 ∷ []) 2 ∷ store_in 1 (zeros 2) (2 ∷ 0 ∷ []) (zeros 2) (0x01 ∷ []) 2 ∷ store_in 1 (zeros 2) (zeros 2) (2 ∷ 0 ∷ []) (0x0F ∷ []) 2 ∷ [])
    ∷ (store_in 8 (zeros 2) (2 ∷ 0 ∷ []) (6 ∷ 0 ∷ []) (0xC0 ∷ []) 3 ∷ store_in 2 (zeros 2) (2 ∷ 0 ∷ []) (6 ∷ 0 ∷ []) (0xC0 ∷ []) 3 ∷ store_in 2 (zeros 2) (2 ∷ 0 ∷ []) (6 ∷ 0 ∷ []) (0xC0 ∷ []) 2 ∷ store_in 2 (zeros 2) (2 ∷ 0 ∷ []) (2 ∷ 0 ∷ []) (0xC0 ∷ []) 2 ∷ store_in 2 (zeros 2) (2 ∷ 0 ∷ []) (2 ∷ 0 ∷ []) (0x80 ∷ []) 2 ∷ [])
    ∷ []
    ≡ (0 ∷ 3 ∷ 3 ∷ 3 ∷ []) ∷ (0 ∷ 3 ∷ 3 ∷ []) ∷ (0 ∷ 4 ∷ 4 ∷ 0 ∷ []) ∷ (0 ∷ 13 ∷ 13 ∷ []) ∷ (13 ∷ 0 ∷ 0 ∷ []) ∷ (1 ∷ 2 ∷ 3 ∷ 4 ∷ 13 ∷ []) ∷ []
unfolding store_number in_range counters_sized past above list some width bytes_for counter spare_clear number bit has xor misreads flips
stores = refl

-- the index of counters of which row 1 and column 1 are above K, with each number that a call answers
pub indices : list 14 (bad_index 2 4 (0xCC ∷ [])) ≡ 0 ∷ 0 ∷ 0 ∷ 0 ∷ 1 ∷ 0 ∷ 0 ∷ 0 ∷ 0 ∷ 0 ∷ 0 ∷ 0 ∷ 0 ∷ 0 ∷ []
unfolding bad_index first_above first counter width number list
indices = refl

-- 63 and 64 columns with bit 63 set; 64 rows and 64 columns at K = 3
pub widest : (read_number 1 63 1 (2 ^ 63 ∷ []) (zeros 8) 1 ≡ 3) × (read_number 1 64 1 (2 ^ 63 ∷ []) (zeros 9) 1 ≡ 0) × (read_number 64 64 3 (zeros 64) (zeros 32) 64 ≡ 0)
unfolding read_number in_range counters_sized past above list some width bytes_for counter spare_clear number
widest = (refl, refl, refl)

-- the highest bit of a word of two columns, in each word that is read
pub highest :
    read_in 1 (2 ^ 63 ∷ 0 ∷ []) (0 ∷ []) 2
    ∷ plan_in 1 (0 ∷ 2 ^ 63 ∷ []) (zeros 2) (zeros 2) 1 ∷ plan_in 1 (zeros 2) (0 ∷ 2 ^ 63 ∷ []) (zeros 2) 1 ∷ plan_in 1 (zeros 2) (zeros 2) (0 ∷ 2 ^ 63 ∷ []) 1
    ∷ store_in 1 (0 ∷ 2 ^ 63 ∷ []) (zeros 2) (zeros 2) (0 ∷ []) 2 ∷ store_in 1 (zeros 2) (0 ∷ 2 ^ 63 ∷ []) (zeros 2) (0 ∷ []) 2 ∷ store_in 1 (zeros 2) (zeros 2) (0 ∷ 2 ^ 63 ∷ []) (0 ∷ []) 2
    ∷ []
    ≡ 3 ∷ 3 ∷ 3 ∷ 3 ∷ 3 ∷ 3 ∷ 3 ∷ []
unfolding read_number plan_number store_number in_range counters_sized past list some width bytes_for
highest = refl

-- a read and a store of 3 by 2 at K = 3, and a plan: ten bits of counters in two bytes
abbrev oblong_read : List ℕ → ℕ
oblong_read counters = read_number 3 2 3 (zeros 3) counters 3

abbrev oblong_store : List ℕ → ℕ
oblong_store counters = store_number (block 3 2 (zeros 3) (zeros 3) (zeros 3)) 3 counters 3

abbrev oblong_plan : ℕ → ℕ
oblong_plan counters = plan_number (block 3 2 (zeros 3) (zeros 3) (zeros 3)) 3 counters

-- the last counter's bit, the next, and the last of the second byte; one byte and three
abbrev oblong : (List ℕ → ℕ) → List ℕ
oblong f = f (0 ∷ 0x02 ∷ []) ∷ f (0 ∷ 0x04 ∷ []) ∷ f (0 ∷ 0x80 ∷ []) ∷ f (0 ∷ []) ∷ f (0 ∷ 0 ∷ 0 ∷ []) ∷ []

pub oblongs : (oblong oblong_read ≡ 0 ∷ 3 ∷ 3 ∷ 2 ∷ 2 ∷ []) × (oblong oblong_store ≡ 0 ∷ 3 ∷ 3 ∷ 2 ∷ 2 ∷ []) × (oblong_plan 1 ∷ oblong_plan 2 ∷ oblong_plan 3 ∷ [] ≡ 2 ∷ 0 ∷ 2 ∷ [])
unfolding read_number plan_number store_number in_range counters_sized past above list some width bytes_for counter spare_clear number plan levels taken left takes whole faulty differs bit has word xor misreads flips
oblongs = (refl, refl, refl)

-- ---- four levels and more: counters of three bits

-- 3 by 2 at K = 4: fifteen bits of counters in two bytes
abbrev straddling_read : List ℕ → ℕ
straddling_read counters = read_number 3 2 4 (zeros 3) counters 3

abbrev straddling_store : List ℕ → ℕ
straddling_store counters = store_number (block 3 2 (zeros 3) (zeros 3) (zeros 3)) 4 counters 3

abbrev straddling_plan : ℕ → ℕ
straddling_plan counters = plan_number (block 3 2 (zeros 3) (zeros 3) (zeros 3)) 4 counters

-- the last counter's bit and the next, which is the last of the byte; a 4 and a 5 of the row whose counter straddles the bytes; a 5 of row 0 and of column 1;
-- one byte and three
abbrev straddling : (List ℕ → ℕ) → List ℕ
straddling f =
    f (0 ∷ 0x40 ∷ []) ∷ f (0 ∷ 0x80 ∷ []) ∷ f (0 ∷ 0x01 ∷ []) ∷ f (0x40 ∷ 0x01 ∷ []) ∷ f (0x05 ∷ 0 ∷ []) ∷ f (0 ∷ 0x50 ∷ []) ∷ f (0 ∷ []) ∷ f (0 ∷ 0 ∷ 0 ∷ [])
    ∷ []

abbrev sides : List ℕ
sides = 0 ∷ 3 ∷ 0 ∷ 4 ∷ 4 ∷ 4 ∷ 2 ∷ 2 ∷ []

pub straddlings :
    (straddling straddling_read ≡ sides) × (straddling straddling_store ≡ sides)
    × (straddling_plan 1 ∷ straddling_plan 2 ∷ straddling_plan 3 ∷ [] ≡ 2 ∷ 0 ∷ 2 ∷ [])
unfolding read_number plan_number store_number in_range counters_sized past above list some width bytes_for counter spare_clear number plan levels taken left takes whole faulty differs bit has word xor misreads flips
straddlings = (refl, refl, refl)

-- at K = 4, 5, 6 and 7, by the counters' first byte
abbrev each : ℕ → List ℕ
each counters = list 4 (λ k. read_number 3 2 (4 + k) (zeros 3) (counters ∷ 0 ∷ []) 3)

-- row 1 with a 5, a 6 and a 7
pub three_bits_above :
    each 0x28 ∷ each 0x30 ∷ each 0x38 ∷ []
    ≡ (4 ∷ 0 ∷ 0 ∷ 0 ∷ []) ∷ (4 ∷ 4 ∷ 0 ∷ 0 ∷ []) ∷ (4 ∷ 4 ∷ 4 ∷ 0 ∷ []) ∷ []
unfolding read_number in_range counters_sized past above list some width bytes_for counter spare_clear number
three_bits_above = refl

-- 64 by 64 at K = 7: 48 bytes of counters, one less and one more
abbrev longest : (List ℕ → ℕ) → List ℕ
longest f = f (zeros 48) ∷ f (zeros 47) ∷ f (zeros 49) ∷ []

abbrev largest : Block
largest = block 64 64 (zeros 64) (zeros 64) (zeros 64)

pub longests :
    (longest (λ bs. read_number 64 64 7 (zeros 64) bs 64) ≡ 0 ∷ 2 ∷ 2 ∷ [])
    × (longest (λ bs. plan_number largest 7 (length bs)) ≡ 0 ∷ 2 ∷ 2 ∷ [])
    × (longest (λ bs. store_number largest 7 bs 64) ≡ 0 ∷ 2 ∷ 2 ∷ [])
unfolding read_number plan_number store_number in_range counters_sized past above list some width bytes_for counter spare_clear number plan levels taken left takes whole faulty differs bit has word xor misreads flips
longests = (refl, refl, refl)

-- n by n with the cells (i, i) wrong and (i, i + 1) right: a chain of 2n - 1 cells, which n - 1 levels cannot mask and n can
abbrev stairs : ℕ → ℕ → ℕ
stairs n k = plan_number (block n n (zeros n) (list n (λ i. 3 * 2 ^ i % 2 ^ n)) (list n (λ i. 2 ^ i))) k (bytes_for (width k) (n + n))

pub staircases : stairs 4 3 ∷ stairs 4 4 ∷ stairs 5 4 ∷ stairs 5 5 ∷ stairs 7 6 ∷ stairs 7 7 ∷ stairs 8 7 ∷ [] ≡ 7 ∷ 0 ∷ 7 ∷ 0 ∷ 7 ∷ 0 ∷ 7 ∷ []
unfolding plan_number in_range counters_sized past list some width bytes_for plan levels taken left takes whole faulty differs bit has word xor
staircases = refl
