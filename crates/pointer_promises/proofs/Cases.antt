-- Document 01's cases P1 to P7, and with them both sides of each edge of the numbers, computed, so that a reader sees where they lie. Assumes nothing.
use Prim.Native.Nat.{ℕ}
use mathlib.Core.Path.{◌≡◌, refl}
use mathlib.Core.Bool.{true, xor}
use mathlib.Core.List.{List, [], ◌∷◌, ◌++◌}
use lib.ListN.{replicate}
use Rattle.bits.specs.Bits.{some, sum, list, has, word, words, at, bytes}
use Rattle.pointer_promises.specs.Pointer.{entry_of, entry, spare, active, unary, idle, formed, held, names, repeats, unserved, positions, renewed, after, active_after, stored, slot, metadata_bit, encode, measured, verdict, read_number, needed, write_judged, write_number}

abbrev zeros : ℕ → List ℕ
zeros n = replicate n 0

-- 64 bytes with bits 3 and 300 set
two : List ℕ
two = 8 ∷ zeros 36 ++ (16 ∷ zeros 26)

-- P1 and P2: one active entry of two, and a full row of one
P1 : (held 2 (10 ∷ 12 ∷ 0 ∷ []) ≡ entry_of 5 true ∷ []) × (verdict 2 (10 ∷ 12 ∷ 0 ∷ []) ≡ 0) × (encode 2 (entry_of 5 true ∷ []) ≡ 10 ∷ 12 ∷ 0 ∷ [])
unfolding some sum list has word words at bytes entry spare active unary idle formed held names repeats slot metadata_bit encode verdict
P1 = (refl, refl, refl)

P2 : (held 1 (255 ∷ 3 ∷ []) ≡ 511 ∷ []) × (verdict 1 (255 ∷ 3 ∷ []) ≡ 0) × (encode 1 (511 ∷ []) ≡ 255 ∷ 3 ∷ [])
unfolding some sum list has word words at bytes entry spare active unary idle formed held names repeats slot metadata_bit encode verdict
P2 = (refl, refl, refl)

-- P4: two entries are taken of a fresh row
P4 : (write_number 2 (zeros 64) two two 64 (0 ∷ 0 ∷ 0 ∷ []) ≡ 0) × (active_after 2 (zeros 64) two two (0 ∷ 0 ∷ 0 ∷ []) ≡ 2)
    × (needed (zeros 64) two two [] ≡ 2) × (encode 2 (after (zeros 64) two two []) ≡ 7 ∷ 96 ∷ 9 ∷ [])
unfolding xor two some sum list has word words at bytes entry spare active unary idle formed held names repeats unserved positions renewed after active_after slot metadata_bit encode measured verdict needed write_judged write_number
P4 = (refl, refl, refl, refl)

-- a read and a write with n entries and this metadata, all else 0
abbrev plain_read : ℕ → List ℕ → ℕ
plain_read n m = read_number n 64 m 64

abbrev plain_write : ℕ → List ℕ → ℕ
plain_write n m = write_number n (zeros 64) (zeros 64) (zeros 64) 64 m

-- ---- n and the lengths: P7 is among them

-- with n entries, and metadata, all 0, that has one byte more than `less`; one byte fewer and one more on both sides
abbrev around : (ℕ → List ℕ → ℕ) → ℕ → ℕ → List ℕ
around f n less = f n (zeros less) ∷ f n (0 ∷ zeros less) ∷ f n (0 ∷ 0 ∷ zeros less) ∷ []

-- n one below its range, at each number of it, and one above
abbrev ranges : (ℕ → List ℕ → ℕ) → List (List ℕ)
ranges f =
    around f 0 0
    ∷ around f 1 1 ∷ around f 2 2 ∷ around f 3 3 ∷ around f 4 5 ∷ around f 5 6 ∷ around f 6 7 ∷ around f 7 8 ∷ around f 8 10 ∷ around f 9 11 ∷ around f 10 12
    ∷ around f 11 13 ∷ []

abbrev outside : List ℕ
outside = 1 ∷ 1 ∷ 1 ∷ []

abbrev inside : List ℕ
inside = 2 ∷ 0 ∷ 2 ∷ []

abbrev expected : List (List ℕ)
expected = outside ∷ inside ∷ inside ∷ inside ∷ inside ∷ inside ∷ inside ∷ inside ∷ inside ∷ inside ∷ inside ∷ outside ∷ []

pub sizes : (ranges plain_read ≡ expected) × (ranges plain_write ≡ expected)
unfolding xor some sum list has word at entry spare active unary idle formed held names repeats unserved measured verdict read_number needed write_judged write_number
sizes = (refl, refl)

abbrev lengths_read : ℕ → ℕ → ℕ
lengths_read cells out = read_number 1 cells (zeros 2) out

abbrev lengths_write : ℕ → ℕ → ℕ → ℕ → ℕ
lengths_write wanted mask values cells = write_number 1 (zeros wanted) (zeros mask) (zeros values) cells (zeros 2)

-- each other buffer one byte short and one long
pub lengths :
    (lengths_read 63 64 ∷ lengths_read 65 64 ∷ lengths_read 64 63 ∷ lengths_read 64 65 ∷ [])
    ∷ (lengths_write 63 64 64 64 ∷ lengths_write 65 64 64 64 ∷ lengths_write 64 63 64 64 ∷ lengths_write 64 65 64 64 ∷ [])
    ∷ (lengths_write 64 64 63 64 ∷ lengths_write 64 64 65 64 ∷ lengths_write 64 64 64 63 ∷ lengths_write 64 64 64 65 ∷ [])
    ∷ []
    ≡ (2 ∷ 2 ∷ 2 ∷ 2 ∷ []) ∷ (2 ∷ 2 ∷ 2 ∷ 2 ∷ []) ∷ (2 ∷ 2 ∷ 2 ∷ 2 ∷ []) ∷ []
unfolding measured read_number write_judged write_number
lengths = refl

-- ---- the metadata, judged alike by a read and by a write

abbrev judged : (ℕ → List ℕ → ℕ) → List (List ℕ)
judged f =
    -- full rows: one entry's last bit, the spare bit after it, and the last spare bit
    (f 1 (0x01 ∷ 0x04 ∷ []) ∷ f 1 (0x01 ∷ 0x08 ∷ []) ∷ f 1 (0x01 ∷ 0x80 ∷ []) ∷ [])
    -- a full row of the entries 0, 1 and 2: the last one would be no count
    ∷ (f 3 (0x01 ∷ 0x08 ∷ 0x40 ∷ 0x00 ∷ []) ∷ [])
    -- the count has n - 1 bits: none of one entry, one of two, two of three; in each the next is to be 0
    ∷ (f 1 (0x02 ∷ 0x00 ∷ []) ∷ f 2 (0x00 ∷ 0x08 ∷ 0x00 ∷ []) ∷ f 2 (0x00 ∷ 0x18 ∷ 0x00 ∷ []) ∷ f 3 (0x00 ∷ 0x08 ∷ 0x60 ∷ 0x00 ∷ []) ∷ f 3 (0x00 ∷ 0x08 ∷ 0xE0 ∷ 0x00 ∷ []) ∷ [])
    -- its ones start at the lowest bit; P5
    ∷ (f 3 (0x00 ∷ 0x00 ∷ 0x20 ∷ 0x00 ∷ []) ∷ f 3 (0x00 ∷ 0x00 ∷ 0x40 ∷ 0x00 ∷ []) ∷ [])
    -- the rest of the last entry is 0, to its last bit
    ∷ (f 1 (0x00 ∷ 0x04 ∷ []) ∷ f 2 (0x00 ∷ 0x08 ∷ 0x10 ∷ []) ∷ [])
    -- one entry of three is active, and the one between has its first bit set, and its last
    ∷ (f 3 (0x00 ∷ 0x08 ∷ 0x20 ∷ 0x00 ∷ []) ∷ f 3 (0x00 ∷ 0x00 ∷ 0x30 ∷ 0x00 ∷ []) ∷ [])
    -- one pointer twice: with the same bit, which is P6, with different bits, in the first and the third entry, in the last two, in two active entries of three
    ∷ (f 2 (0x01 ∷ 0x00 ∷ 0x00 ∷ []) ∷ f 2 (0x01 ∷ 0x00 ∷ 0x10 ∷ []) ∷ f 3 (0x01 ∷ 0x08 ∷ 0x00 ∷ 0x00 ∷ []) ∷ f 3 (0x03 ∷ 0x00 ∷ 0x00 ∷ 0x00 ∷ []) ∷ f 3 (0x00 ∷ 0x00 ∷ 0x60 ∷ 0x00 ∷ []) ∷ [])
    -- 1 before 2 before 3 before 4 before 5
    ∷ (f 0 [] ∷ f 1 (0x00 ∷ 0x08 ∷ 0x00 ∷ []) ∷ f 1 (0x00 ∷ 0x0C ∷ []) ∷ f 4 (0x00 ∷ 0x00 ∷ 0x00 ∷ 0x80 ∷ 0x02 ∷ 0x00 ∷ []) ∷ [])
    ∷ []

abbrev verdicts : List (List ℕ)
verdicts =
    (0 ∷ 3 ∷ 3 ∷ []) ∷ (0 ∷ []) ∷ (4 ∷ 0 ∷ 4 ∷ 0 ∷ 4 ∷ []) ∷ (0 ∷ 4 ∷ []) ∷ (4 ∷ 4 ∷ []) ∷ (4 ∷ 4 ∷ []) ∷ (5 ∷ 5 ∷ 5 ∷ 5 ∷ 5 ∷ []) ∷ (1 ∷ 2 ∷ 3 ∷ 4 ∷ []) ∷ []

pub metadata : (judged plain_read ≡ verdicts) × (judged plain_write ≡ verdicts)
unfolding xor some sum list has word at entry spare active unary idle formed held names repeats unserved measured verdict read_number needed write_judged write_number
metadata = (refl, refl)

-- ---- a write that needs entries

-- a write of data 0 with this mask and these values in the first byte and the last, to a full row of one entry, which names 511
abbrev full_write : ℕ → ℕ → ℕ → ℕ → ℕ
full_write first_mask first_value last_mask last_value =
    write_number 1 (zeros 64) (first_mask ∷ zeros 62 ++ (last_mask ∷ [])) (first_value ∷ zeros 62 ++ (last_value ∷ [])) 64 (0xFF ∷ 0x03 ∷ [])

-- cell 3 is stuck at the other value, which is P3, at the right one, and sound with a value bit; cell 511 is stuck at the other value
pub unserveds : full_write 8 8 0 0 ∷ full_write 8 0 0 0 ∷ full_write 0 8 0 0 ∷ full_write 0 0 0x80 0x80 ∷ [] ≡ 6 ∷ 0 ∷ 0 ∷ 0 ∷ []
unfolding xor some sum list has word at entry spare active unary idle formed held names repeats unserved measured verdict needed write_judged write_number
unserveds = refl

-- 5 before 6: both entries name 0, and cell 3 is stuck at the other value
pub no_entry_last : write_number 2 (zeros 64) (8 ∷ zeros 63) (8 ∷ zeros 63) 64 (0x01 ∷ 0x00 ∷ 0x00 ∷ []) ≡ 5
unfolding xor some sum list has word at entry spare active unary idle formed held names repeats unserved measured verdict needed write_judged write_number
no_entry_last = refl

-- ---- what an accepted write leaves

-- 64 bytes with bit 3 set
abbrev three : List ℕ
three = 8 ∷ zeros 63

-- the cells and the metadata of a write to a fresh row of one entry: of a 1 to cell 3, which is stuck at these values
abbrev left : List ℕ → List (List ℕ)
left values = bytes 64 (stored three three values) ∷ encode 1 (after three three values []) ∷ []

-- stuck at 0, it holds 0 and gets an entry; stuck at 1, it gets none
pub ones_stuck : (left (zeros 64) ≡ zeros 64 ∷ (0x07 ∷ 0x04 ∷ []) ∷ []) × (left three ≡ three ∷ (0 ∷ 0 ∷ []) ∷ [])
unfolding xor some sum list has word words at bytes unary idle names unserved positions renewed after stored slot metadata_bit encode
ones_stuck = (refl, refl)

-- active entries keep their order, which need not rise: the first of two names 300, the second 3
abbrev falling : List ℕ
falling = 0x58 ∷ 0x1A ∷ 0x60 ∷ 0x00 ∷ []

pub order_kept : encode 3 (after (zeros 64) (zeros 64) (zeros 64) (held 3 falling)) ≡ falling
unfolding xor some sum list has word words at bytes entry active unary idle held names unserved positions renewed after slot metadata_bit encode
order_kept = refl
