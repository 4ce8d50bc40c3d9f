-- What a pointer row means: 512 cells, n correction entries and a full bit (document 000, as document 01 reads it). Entries are counted from 0, as bits
-- and positions are, so document 01's entry 1 is entry 0 here. What a write is to store, its data, is called `wanted`. Every definition computes.
-- Assumes nothing.
use Rattle.std.specs.Prelude.{ℕ, zero, suc, ◌+◌, ◌-◌, ◌*◌, ◌/◌, ◌%◌, Bool, false, not, cond, ◌&&◌, ◌||◌, List, [], ◌∷◌, ◌++◌, map, length, get_or, eqb, ltb, leb}
use Rattle.std.specs.Bool.{xor}
use Rattle.bits.specs.Bits.{num, some, sum, list, has, word, at, bytes}

-- ---- an entry is a number of ten bits: nine of pointer, lowest first, then the replacement bit

-- the position that an entry names
abbrev pub pointer : ℕ → ℕ
pointer e = e % 512

abbrev pub replacement : ℕ → Bool
replacement e = has e 9

-- the entry that names p and shows b there
abbrev pub entry_of : ℕ → Bool → ℕ
entry_of p b = p + 512 * num b

-- ---- metadata: the full bit, then n entries

-- how many bytes hold its 1 + 10 n bits
abbrev pub size : ℕ → ℕ
size n = (1 + 10 * n + 7) / 8

-- entry e as it is in the metadata
unfoldable pub entry : List ℕ → ℕ → ℕ
entry m e = word 10 (λ k. at m (1 + 10 * e + k))

-- a bit after the last entry is 1
unfoldable pub spare : ℕ → List ℕ → Bool
spare n m = some (8 * size n) (λ p. leb (1 + 10 * n) p && at m p)

-- how many entries are active: all where the full bit is 1, else as many as pointer bits 0 to n - 2 of the last entry have ones
unfoldable pub active : ℕ → List ℕ → ℕ
active n m = cond (at m 0) n (sum (n - 1) (λ k. num (has (entry m (n - 1)) k)))

-- a ones from the lowest bit, then zeros
unfoldable pub unary : ℕ → ℕ
unary a = word 10 (λ k. ltb k a)

-- what an entry e that is not active holds, where a are: the last one the count, the others 0
unfoldable pub idle : ℕ → ℕ → ℕ → ℕ
idle n a e = cond (eqb (e + 1) n) (unary a) 0

-- no entry that is not active holds anything else
unfoldable pub formed : ℕ → List ℕ → Bool
formed n m = not (some n (λ e. leb (active n m) e && not (eqb (entry m e) (idle n (active n m) e))))

-- the active entries, in their order
unfoldable pub held : ℕ → List ℕ → List ℕ
held n m = list (active n m) (entry m)

-- ---- reading

-- an entry names p
unfoldable pub names : List ℕ → ℕ → Bool
names [] p = false
names (e ∷ es) p = eqb (pointer e) p || names es p

-- two entries name the same position
unfoldable pub repeats : List ℕ → Bool
repeats [] = false
repeats (e ∷ es) = names es (pointer e) || repeats es

-- what position p shows, where its cell holds v: the last entry that names it decides
unfoldable pub shown : List ℕ → ℕ → Bool → Bool
shown [] p v = v
shown (e ∷ es) p v = shown es p (cond (eqb (pointer e) p) (replacement e) v)

-- ---- writing

-- the cell at p is stuck at the other value than the wanted one, and no entry names it
unfoldable pub unserved : List ℕ → List ℕ → List ℕ → List ℕ → ℕ → Bool
unserved wanted mask values es p = at mask p && xor (at wanted p) (at values p) && not (names es p)

-- the positions below n that pass f, in rising order
unfoldable pub positions : ℕ → (ℕ → Bool) → List ℕ
positions zero f = []
positions (suc n) f = positions n f ++ cond (f n) (n ∷ []) []

-- an entry with the wanted bit of the position that it names
unfoldable pub renewed : List ℕ → ℕ → ℕ
renewed wanted e = entry_of (pointer e) (at wanted (pointer e))

-- the entries afterwards: the active ones in their places, then one for each unserved position, all with the wanted bits (a position is the entry that
-- names it with the bit 0)
unfoldable pub after : List ℕ → List ℕ → List ℕ → List ℕ → List ℕ
after wanted mask values es = map (renewed wanted) (es ++ positions 512 (unserved wanted mask values es))

-- how many entries are active afterwards
unfoldable pub active_after : ℕ → List ℕ → List ℕ → List ℕ → List ℕ → ℕ
active_after n wanted mask values m = length (after wanted mask values (held n m))

-- what the cell at p holds afterwards: a stuck one its stuck value, a sound one its wanted bit
unfoldable pub stored : List ℕ → List ℕ → List ℕ → ℕ → Bool
stored wanted mask values p = cond (at mask p) (at values p) (at wanted p)

-- what entry e holds, where es are the active ones
unfoldable pub slot : ℕ → List ℕ → ℕ → ℕ
slot n es e = cond (ltb e (length es)) (get_or es e 0) (idle n (length es) e)

-- bit p of the metadata whose active entries are es
unfoldable pub metadata_bit : ℕ → List ℕ → ℕ → Bool
metadata_bit n es zero = eqb (length es) n
metadata_bit n es (suc p) = has (slot n es (p / 10)) (p % 10)

unfoldable pub encode : ℕ → List ℕ → List ℕ
encode n es = bytes (size n) (metadata_bit n es)

-- ---- the numbers that are answered: the lowest that applies, or 0

-- the first number, or the second where the first is 0
abbrev pub or_else : ℕ → ℕ → ℕ
or_else zero k = k
or_else (suc j) k = suc j

abbrev pub in_range : ℕ → Bool
in_range n = leb 1 n && leb n 10

-- 1 for n out of range; 2 for a wrong length: `fixed` says that the buffers of 64 bytes have theirs, m is the metadata's
unfoldable pub measured : ℕ → Bool → ℕ → ℕ
measured n fixed m = cond (in_range n) (cond (fixed && eqb m (size n)) 0 2) 1

-- 3 for a spare bit, 4 for metadata that is not well formed, 5 for two active entries with one pointer
unfoldable pub verdict : ℕ → List ℕ → ℕ
verdict n m = cond (spare n m) 3 (cond (formed n m) (cond (repeats (held n m)) 5 0) 4)

-- of the cells and the output the lengths are judged, and nothing else
unfoldable pub read_number : ℕ → ℕ → List ℕ → ℕ → ℕ
read_number n cells m out = or_else (measured n (eqb cells 64 && eqb out 64) (length m)) (verdict n m)

-- how many positions are unserved
unfoldable pub needed : List ℕ → List ℕ → List ℕ → List ℕ → ℕ
needed wanted mask values es = sum 512 (λ p. num (unserved wanted mask values es p))

-- the numbers 1 to 5 of a write
unfoldable pub write_judged : ℕ → List ℕ → List ℕ → List ℕ → ℕ → List ℕ → ℕ
write_judged n wanted mask values cells m =
    or_else (measured n (eqb (length wanted) 64 && eqb (length mask) 64 && eqb (length values) 64 && eqb cells 64) (length m)) (verdict n m)

-- 6 where more entries are needed than there are
unfoldable pub write_number : ℕ → List ℕ → List ℕ → List ℕ → ℕ → List ℕ → ℕ
write_number n wanted mask values cells m =
    or_else (write_judged n wanted mask values cells m) (cond (ltb n (active n m + needed wanted mask values (held n m))) 6 0)
