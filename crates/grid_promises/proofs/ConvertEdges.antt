-- Both sides of each edge of a conversion's number, and bytes before and after, computed, so that a reader sees where they lie. Assumes nothing.
use Prim.Native.Nat.{ℕ, ◌+◌}
use mathlib.Core.Path.{◌≡◌, refl}
use mathlib.Core.List.{List, [], ◌∷◌}
use Rattle.bits.specs.Bits.{some, first, list, number, digits}
use Rattle.rdis.specs.Packing.{width, bytes_for, packed, unpacked, counter, spare_clear, above, first_above}
use Rattle.grid_promises.specs.Calls.{in_range, counters_sized, bad_index}
use Rattle.grid_promises.specs.Conversion.{convert_in_range, convert_sized, convert_number}

abbrev zeros : ℕ → List ℕ
zeros n = list n (λ _. 0)

-- ---- the number

-- counters of m rows and n columns, all 0
abbrev plain : ℕ → ℕ → ℕ → ℕ → ℕ
plain m n k k' = convert_number m n k k' (zeros (bytes_for (width k) (m + n))) (bytes_for (width k') (m + n))

-- rows, columns, K and the target, each one below its range, at its first, at its last and one above; a target one below K, equal to it and one above
pub convert_ranges :
    (plain 0 1 1 1 ∷ plain 1 1 1 1 ∷ plain 64 1 1 1 ∷ plain 65 1 1 1 ∷ [])
    ∷ (plain 1 0 1 1 ∷ plain 1 1 1 1 ∷ plain 1 64 1 1 ∷ plain 1 65 1 1 ∷ [])
    ∷ (plain 1 1 0 1 ∷ plain 1 1 1 1 ∷ plain 1 1 7 7 ∷ plain 1 1 8 8 ∷ [])
    ∷ (plain 1 1 1 0 ∷ plain 1 1 1 1 ∷ plain 1 1 1 7 ∷ plain 1 1 7 8 ∷ [])
    ∷ (plain 2 3 2 1 ∷ plain 2 3 2 2 ∷ plain 2 3 2 3 ∷ plain 2 3 4 3 ∷ plain 2 3 4 4 ∷ plain 2 3 4 5 ∷ plain 2 3 7 6 ∷ plain 2 3 7 1 ∷ [])
    ∷ []
    ≡ (1 ∷ 0 ∷ 0 ∷ 1 ∷ []) ∷ (1 ∷ 0 ∷ 0 ∷ 1 ∷ []) ∷ (1 ∷ 0 ∷ 0 ∷ 1 ∷ []) ∷ (1 ∷ 0 ∷ 0 ∷ 1 ∷ []) ∷ (1 ∷ 0 ∷ 0 ∷ 1 ∷ 0 ∷ 0 ∷ 1 ∷ 1 ∷ []) ∷ []
unfolding convert_number convert_in_range convert_sized in_range counters_sized above list some width bytes_for counter spare_clear number
convert_ranges = refl

-- 2 by 3: five counters, in one byte at K = 1, in two from K = 2 on
abbrev convert : ℕ → ℕ → List ℕ → ℕ → ℕ
convert k k' counters out = convert_number 2 3 k k' counters out

-- 3 by 3: six counters, in two bytes at K = 3, in three at K = 4
abbrev square : ℕ → ℕ → ℕ → ℕ → ℕ
square k k' counters out = convert_number 3 3 k k' (zeros counters) out

-- counters and output one byte short and long; the output as long as the counters, and the counters as long as the output
pub convert_lengths :
    (convert 1 4 [] 2 ∷ convert 1 4 (zeros 1) 2 ∷ convert 1 4 (zeros 2) 2 ∷ convert 1 4 (zeros 1) 1 ∷ convert 1 4 (zeros 1) 3 ∷ convert 1 4 (zeros 1) 0 ∷ [])
    ∷ (square 3 4 1 3 ∷ square 3 4 2 3 ∷ square 3 4 3 3 ∷ square 3 4 2 2 ∷ square 3 4 2 4 ∷ square 3 3 2 2 ∷ square 3 3 2 3 ∷ square 4 7 3 3 ∷ [])
    ∷ []
    ≡ (2 ∷ 0 ∷ 2 ∷ 2 ∷ 2 ∷ 2 ∷ []) ∷ (2 ∷ 0 ∷ 2 ∷ 2 ∷ 2 ∷ 0 ∷ 2 ∷ 0 ∷ []) ∷ []
unfolding convert_number convert_in_range convert_sized in_range counters_sized above list some width bytes_for counter spare_clear number
convert_lengths = refl

-- the last counter's bit, the next, and the last of the byte, at each width; at three bits the next is the last
pub convert_spare :
    (convert 1 7 (0x10 ∷ []) 2 ∷ convert 1 7 (0x20 ∷ []) 2 ∷ convert 1 7 (0x80 ∷ []) 2 ∷ [])
    ∷ (convert 3 7 (0 ∷ 0x02 ∷ []) 2 ∷ convert 3 7 (0 ∷ 0x04 ∷ []) 2 ∷ convert 3 7 (0 ∷ 0x80 ∷ []) 2 ∷ [])
    ∷ (convert 4 7 (0 ∷ 0x40 ∷ []) 2 ∷ convert 4 7 (0 ∷ 0x80 ∷ []) 2 ∷ [])
    ∷ []
    ≡ (0 ∷ 3 ∷ 3 ∷ []) ∷ (0 ∷ 3 ∷ 3 ∷ []) ∷ (0 ∷ 3 ∷ []) ∷ []
unfolding convert_number convert_in_range convert_sized in_range counters_sized above list some width bytes_for counter spare_clear number
convert_spare = refl

-- all counters of K at each width; one of K and of K + 1, in a row, in a column, and at three bits in a column whose counter straddles two bytes: K + 1 is bad
-- though it is not above the target
pub convert_above :
    (convert 1 7 (0x1F ∷ []) 2 ∷ convert 3 7 (0xFF ∷ 0x03 ∷ []) 2 ∷ convert 7 7 (0xFF ∷ 0x7F ∷ []) 2 ∷ [])
    ∷ (convert 2 3 (0x02 ∷ 0 ∷ []) 2 ∷ convert 2 3 (0x03 ∷ 0 ∷ []) 2 ∷ convert 2 7 (0 ∷ 0x02 ∷ []) 2 ∷ convert 2 7 (0 ∷ 0x03 ∷ []) 2 ∷ [])
    ∷ (convert 4 5 (0x04 ∷ 0 ∷ []) 2 ∷ convert 4 5 (0x05 ∷ 0 ∷ []) 2 ∷ convert 4 7 (0 ∷ 0x40 ∷ []) 2 ∷ convert 4 7 (0 ∷ 0x50 ∷ []) 2 ∷ [])
    ∷ (convert 4 7 (0 ∷ 0x01 ∷ []) 2 ∷ convert 4 7 (0x40 ∷ 0x01 ∷ []) 2 ∷ [])
    ∷ (convert 5 7 (0x40 ∷ 0x01 ∷ []) 2 ∷ convert 5 7 (0x80 ∷ 0x01 ∷ []) 2 ∷ convert 6 7 (0x80 ∷ 0x01 ∷ []) 2 ∷ convert 6 7 (0xC0 ∷ 0x01 ∷ []) 2 ∷ [])
    ∷ []
    ≡ (0 ∷ 0 ∷ 0 ∷ []) ∷ (0 ∷ 4 ∷ 0 ∷ 4 ∷ []) ∷ (0 ∷ 4 ∷ 0 ∷ 4 ∷ []) ∷ (0 ∷ 4 ∷ []) ∷ (0 ∷ 4 ∷ 0 ∷ 4 ∷ []) ∷ []
unfolding convert_number convert_in_range convert_sized in_range counters_sized above list some width bytes_for counter spare_clear number
convert_above = refl

-- two refusals together: 1 before 2, 3 and 4; 2 before 3 and 4; 3 before 4
pub convert_order :
    (convert 4 3 (0 ∷ 0 ∷ []) 9 ∷ convert 4 3 (0 ∷ 0x80 ∷ []) 2 ∷ convert 4 3 (0x05 ∷ 0 ∷ []) 2 ∷ [])
    ∷ (convert 4 7 (0 ∷ 0x80 ∷ []) 9 ∷ convert 4 7 (0x05 ∷ 0 ∷ []) 9 ∷ [])
    ∷ (convert 4 7 (0x05 ∷ 0x80 ∷ []) 2 ∷ convert 2 3 (0x03 ∷ 0x80 ∷ []) 2 ∷ [])
    ∷ []
    ≡ (1 ∷ 1 ∷ 1 ∷ []) ∷ (2 ∷ 2 ∷ []) ∷ (3 ∷ 3 ∷ []) ∷ []
unfolding convert_number convert_in_range convert_sized in_range counters_sized above list some width bytes_for counter spare_clear number
convert_order = refl

-- 64 by 64: the longest counters, with an output of their length, one byte short and one long
abbrev longest : ℕ → ℕ → ℕ → ℕ
longest k counters out = convert_number 64 64 k 7 (zeros counters) out

pub convert_longest : longest 3 32 48 ∷ longest 3 32 47 ∷ longest 3 32 49 ∷ longest 4 48 48 ∷ [] ≡ 0 ∷ 2 ∷ 2 ∷ 0 ∷ []
unfolding convert_number convert_in_range convert_sized in_range counters_sized above list some width bytes_for counter spare_clear number
convert_longest = refl

-- ---- the index: a 5 before a 7, a 7 before a 5, and a 5 that straddles two bytes, with refusal 4 and with the others

pub convert_indices :
    (bad_index 4 5 (0xE8 ∷ 0x01 ∷ []) 4 ∷ bad_index 4 5 (0x78 ∷ 0x01 ∷ []) 4 ∷ bad_index 4 5 (0x40 ∷ 0x01 ∷ []) 4 ∷ bad_index 4 5 (0 ∷ 0x70 ∷ []) 4 ∷ [])
    ∷ list 5 (bad_index 4 5 (0xE8 ∷ 0x01 ∷ []))
    ∷ []
    ≡ (1 ∷ 1 ∷ 2 ∷ 4 ∷ []) ∷ (0 ∷ 0 ∷ 0 ∷ 0 ∷ 1 ∷ []) ∷ []
unfolding bad_index first_above first counter width number list
convert_indices = refl

-- ---- the bytes

abbrev converted : ℕ → ℕ → ℕ → List ℕ → List ℕ
converted n k k' bs = packed (width k') (unpacked (width k) n bs)

-- counters 0, 1, 2, 3, 1 from K = 3; 0, 1, 1, 0, 1 from K = 1; 4, 0, 3, 1, 2 from K = 4; 3, 0, 1, 2, 3, 2 from K = 3, which take one byte more
pub convert_bytes :
    converted 5 3 3 (0xE4 ∷ 0x01 ∷ []) ∷ converted 5 3 4 (0xE4 ∷ 0x01 ∷ []) ∷ converted 5 1 2 (0x16 ∷ []) ∷ converted 5 1 4 (0x16 ∷ [])
    ∷ converted 5 4 7 (0xC4 ∷ 0x22 ∷ []) ∷ converted 6 3 4 (0x93 ∷ 0x0B ∷ [])
    ∷ []
    ≡ (0xE4 ∷ 0x01 ∷ []) ∷ (0x88 ∷ 0x16 ∷ []) ∷ (0x14 ∷ 0x01 ∷ []) ∷ (0x48 ∷ 0x10 ∷ []) ∷ (0xC4 ∷ 0x22 ∷ []) ∷ (0x43 ∷ 0x34 ∷ 0x01 ∷ []) ∷ []
unfolding packed unpacked counter width bytes_for number digits list
convert_bytes = refl
