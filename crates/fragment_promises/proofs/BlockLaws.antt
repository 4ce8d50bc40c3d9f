-- A block's bytes: where the bits of its cell words stand in them, and that what is joined from counters and words is taken apart into them. Assumes nothing.
use Prim.Native.Nat.{ℕ, zero, suc, ◌+◌, ◌*◌, ◌/◌, ◌%◌, ◌^◌, ◌<◌, ◌≤◌}
use mathlib.Core.Path.{◌≡◌, refl, sym, ap, ap₂, ◌∙◌}
use mathlib.Core.Bool.{false}
use mathlib.Core.List.{List, [], ◌∷◌, ◌++◌}
use mathlib.Core.Logic.{◌↔◌, ⊎_elim}
use native.Mathlib.Nat.{lt_of_lt_of_le, pow-le-pow_right}
use native.Mathlib.Omega.{arith}
use lib.ListN.{length, get_or, take, drop, length-take, length-append}
use lib.Pow.{pow_pos}
use lib.Seq.{take_at, drop-append-add, length-take-le, get_or-drop}
use Rattle.bits.specs.Bits.{list, has, at, number, digits, Below}
use Rattle.bits.proofs.TestLaws.{clash, lt_or_le}
use Rattle.bits.proofs.BoundLaws.{length_list, list_get_or, get_or_list}
use Rattle.bits.proofs.BitLaws.{has_zero, has_high}
use Rattle.bits.proofs.ByteLaws.{past_end, get_or_take, below_all}
use Rattle.bits.proofs.DigitLaws.{number_lt, number_digits, length_digits, digits_below, byte_bit}
use Rattle.rdis.specs.Block.{bit}
use Rattle.grid_promises.specs.Refusals.{Past, ReadLengths}
use Rattle.fragment_promises.specs.Transfers.{counter_bytes, size, counters_of, words_from, cells_of, word_bytes}
use Rattle.fragment_promises.specs.Demands.{cell_bit, PastBytes}

-- ---- lengths

pub length_cells : (m n k : ℕ) (bs : List ℕ) → length (cells_of m n k bs) ≡ m
unfolding words_from
length_cells m n k bs = length_list m _

-- a whole block has all that a read is lent
pub whole_lengths : (m n k : ℕ) (bs : List ℕ) (out : ℕ) → out ≡ m → size m n k ≤ length bs
    → ReadLengths m n k (length (cells_of m n k bs)) (length (counters_of m n k bs)) out
unfolding size
whole_lengths m n k bs out e l =
    record { cell_words = length_cells m n k bs; counter_bytes = length-take-le (counter_bytes m n k) bs (omega arith); out_words = e }

-- ---- bits

pub below_part : (p q : ℕ) (bs : List ℕ) → Below 256 bs → Below 256 (take q (drop p bs))
below_part p q bs h i =
    ⊎_elim (λ l. rw (get_or_take q (drop p bs) i l, get_or-drop) (h (p + i)))
    (λ l. rw (past_end (take q (drop p bs)) i (omega (arith, length-take q (drop p bs)))) (omega arith)) (lt_or_le i q)

-- bit j of the eight bytes from byte p on
part_bit : (p j : ℕ) (bs : List ℕ) → Below 256 bs → j < 64 → has (number 256 (take 8 (drop p bs))) j ≡ at bs (8 * p + j)
unfolding at
part_bit p j bs h l =
    let here : p + j / 8 ≡ (8 * p + j) / 8 = omega arith in
    let rest : j % 8 ≡ (8 * p + j) % 8 = omega arith in
    sym (byte_bit (take 8 (drop p bs)) j (below_part p 8 bs h))
    ∙ ap (λ x. has x (j % 8)) (get_or_take 8 (drop p bs) (j / 8) (omega arith) ∙ get_or-drop p bs (j / 8) 0)
    ∙ ap₂ (λ i q. has (get_or bs i 0) q) here rest

-- bit j of cell word i
pub cell_bit_lem : (m n k : ℕ) (bs : List ℕ) → Below 256 bs → (i j : ℕ) → i < m → j < 64 → bit (cells_of m n k bs) i j ≡ cell_bit m n k bs i j
unfolding words_from bit
cell_bit_lem m n k bs h i j p q = ap (λ x. has x j) (get_or_list m _ 0 i p) ∙ part_bit (counter_bytes m n k + 8 * i) j bs h q

part_lt : (p : ℕ) (bs : List ℕ) → Below 256 bs → number 256 (take 8 (drop p bs)) < 2 ^ 64
part_lt p bs h =
    lt_of_lt_of_le (number_lt 256 (take 8 (drop p bs)) (below_part p 8 bs h)) (pow-le-pow_right (omega arith) (let l : length (take 8 (drop p bs)) ≤ 8 = omega (arith, length-take 8 (drop p bs)) in l))

pub cells_below : (m n k : ℕ) (bs : List ℕ) → Below 256 bs → Below (2 ^ 64) (cells_of m n k bs)
unfolding words_from
cells_below m n k bs h =
    let word : ℕ → ℕ = λ i. number 256 (take 8 (drop (counter_bytes m n k + 8 * i) bs)) in
    below_all m (2 ^ 64) (list m word) (pow_pos 64) (length_list m word) (λ i l. rw (get_or_list m word 0 i l) (part_lt (counter_bytes m n k + 8 * i) bs h))

-- a cell word has 64 bits, and there are m of them
no_bit : (m n k : ℕ) (bs : List ℕ) → Below 256 bs → (i j : ℕ) → 64 ≤ j → bit (cells_of m n k bs) i j ≡ false
unfolding words_from bit
no_bit m n k bs h i j q = has_high 64 _ j (cells_below m n k bs h i) q

no_word : (m n k : ℕ) (bs : List ℕ) (i j : ℕ) → m ≤ i → bit (cells_of m n k bs) i j ≡ false
unfolding bit
no_word m n k bs i j p = ap (λ x. has x j) (past_end (cells_of m n k bs) i (omega (arith, length_cells m n k bs))) ∙ has_zero j

-- a word has a bit past the last column where one of its bits in the bytes is
pub past_bytes : (m n k : ℕ) (bs : List ℕ) → Below 256 bs → Past n (cells_of m n k bs) ↔ PastBytes m n k bs
past_bytes m n k bs h = (there, λ (i, j, p, q, l, e). (i, j, q, cell_bit_lem m n k bs h i j p l ∙ e))
  where
    there : Past n (cells_of m n k bs) → PastBytes m n k bs
    there (i, j, q, e) =
        ⊎_elim
        (λ p. ⊎_elim (λ l. (i, j, p, q, l, sym (cell_bit_lem m n k bs h i j p l) ∙ e)) (λ l. clash e (no_bit m n k bs h i j l)) (lt_or_le j 64))
        (λ p. clash e (no_word m n k bs i j p)) (lt_or_le i m)

-- ---- there and back: what is joined from counters and words is taken apart into them

pub word_back : (ws : List ℕ) (i : ℕ) → i < length ws → take 8 (drop (8 * i) (word_bytes ws)) ≡ digits 256 8 (get_or ws i 0)
unfolding word_bytes
word_back [] i l = absurd (omega arith)
word_back (w ∷ ws) zero l = take_at (digits 256 8 w) (word_bytes ws) 8 (length_digits 256 8 w)
word_back (w ∷ ws) (suc i) l =
    let e : 8 * suc i ≡ length (digits 256 8 w) + 8 * i = omega (arith, length_digits 256 8 w) in
    ap (λ j. take 8 (drop j (digits 256 8 w ++ word_bytes ws))) e ∙ ap (take 8) (drop-append-add (digits 256 8 w) (word_bytes ws) (8 * i)) ∙ word_back ws i (omega arith)

pub length_word_bytes : (ws : List ℕ) → length (word_bytes ws) ≡ 8 * length ws
unfolding word_bytes
length_word_bytes [] = refl
length_word_bytes (w ∷ ws) = length-append (digits 256 8 w) (word_bytes ws) ∙ omega (arith, length_digits 256 8 w, length_word_bytes ws)

module _ (m n k : ℕ) (cells counters : List ℕ) (rows : length cells ≡ m) (bytes : length counters ≡ counter_bytes m n k) where
  pub counters_back : counters_of m n k (counters ++ word_bytes cells) ≡ counters
  counters_back = take_at counters (word_bytes cells) (counter_bytes m n k) bytes

  pub cells_back : Below (2 ^ 64) cells → cells_of m n k (counters ++ word_bytes cells) ≡ cells
  unfolding words_from
  cells_back h = sym (list_get_or m _ 0 cells rows (λ i l.
      sym (ap (λ c. number 256 (take 8 (drop (c + 8 * i) (counters ++ word_bytes cells)))) (sym bytes)
      ∙ ap (λ x. number 256 (take 8 x)) (drop-append-add counters (word_bytes cells) (8 * i))
      ∙ ap (number 256) (word_back cells i (omega arith)) ∙ number_digits 256 8 (get_or cells i 0) (omega arith) (h i))))

  pub block_length : length (counters ++ word_bytes cells) ≡ size m n k
  unfolding size
  block_length = length-append counters (word_bytes cells) ∙ omega (arith, length_word_bytes cells)

below_append : (b : ℕ) (xs ys : List ℕ) → Below b xs → Below b ys → Below b (xs ++ ys)
below_append b [] ys h g i = g i
below_append b (x ∷ xs) ys h g zero = h 0
below_append b (x ∷ xs) ys h g (suc i) = below_append b xs ys (λ j. h (suc j)) g i

word_bytes_below : (ws : List ℕ) → Below 256 (word_bytes ws)
unfolding word_bytes
word_bytes_below [] = λ i. omega arith
word_bytes_below (w ∷ ws) = below_append 256 (digits 256 8 w) (word_bytes ws) (digits_below 256 8 w (omega arith)) (word_bytes_below ws)

-- they are bytes
pub block_below : (cells counters : List ℕ) → Below 256 counters → Below 256 (counters ++ word_bytes cells)
block_below cells counters h = below_append 256 counters (word_bytes cells) h (word_bytes_below cells)
