-- Laws of bytes that are joined to a word. Assumes nothing.
use Prim.Native.Nat.{ℕ, zero, suc, ◌+◌, ◌*◌, ◌%◌, ◌^◌, ◌≤◌, ◌<◌}
use mathlib.Core.Path.{◌≡◌, sym, ap, ◌∙◌}
use mathlib.Core.List.{List, [], ◌∷◌, ◌++◌}
use native.Mathlib.Nat.{mul-suc}
use native.Mathlib.Numerals.{add-one}
use native.Mathlib.Omega.{arith}
use lib.Arith.{digits_lt}
use lib.Bits.{bit_or, or_shifted}
use lib.ListN.{length, get_or, take, drop, length-drop}
use lib.Pow.{pow_pos, pow-add, shl_exact}
use lib.Seq.{take_all, get_or-drop, take-append-le, drop-append-le}
use Rattle.bits.specs.Bits.{number, number_at, Below}
use Rattle.bits.proofs.DigitLaws.{number_take, pow_mul}

pub lifted : (x up : ℕ) → x < 256 → up ≤ 56 → x * 2 ^ up % 2 ^ 64 ≡ x * 2 ^ up
lifted x up h l = shl_exact 8 up 64 h (omega arith)

small : (j : ℕ) (ds : List ℕ) → Below 256 ds → number 256 (take j ds) < 2 ^ (8 * j)
unfolding number
small zero ds h = pow_pos (8 * 0)
small (suc j) [] h = pow_pos (8 * suc j)
small (suc j) (d ∷ ds) h = rw (mul-suc 8 j, pow-add 2 (8 * j) 8) (digits_lt (small j ds (λ i. h (suc i))) (h 0))

-- j bytes from byte q on make a number of 8 j bits
pub bytes_small : (q j : ℕ) (bs : List ℕ) → Below 256 bs → number 256 (take j (drop q bs)) < 2 ^ (8 * j)
bytes_small q j bs h = small j (drop q bs) (λ i. rw get_or-drop (h (q + i)))

pub join_more : (q j v x : ℕ) (bs : List ℕ) → Below 256 bs → v ≡ number 256 (take j (drop q bs)) → x ≡ get_or bs (q + j) 0 * 2 ^ (8 * j)
    → bit_or x v ≡ number 256 (take (j + 1) (drop q bs))
join_more q j v x bs h e f =
    let l : v < 2 ^ (8 * j) = rw e (bytes_small q j bs h) in
    let s : v + x ≡ number 256 (take (j + 1) (drop q bs)) = rw (add-one, number_take 256 j (drop q bs), e, f, get_or-drop, pow_mul 8 j) in
    ap (λ y. bit_or y v) f ∙ or_shifted (get_or bs (q + j) 0) (8 * j) v l ∙ ap (λ y. y + v) (sym f) ∙ omega (arith, s)

-- ---- of those that are there

-- fewer than n, which are all there are, and none
pub all_left : (q n m : ℕ) (bs : List ℕ) → length bs ≤ q + n → n ≤ m → number 256 (take n (drop q bs)) ≡ number_at bs q m
unfolding number_at
all_left q n m bs h l =
    let few : length (drop q bs) ≤ n = rw length-drop (omega arith) in
    ap (number 256) (take_all n (drop q bs) few ∙ sym (take_all m (drop q bs) (omega arith)))

pub none_left : (q m : ℕ) (bs : List ℕ) → length bs ≤ q → 0 ≡ number_at bs q m
unfolding number
none_left q m bs h = all_left q 0 m bs (omega arith) (omega arith)

pub all_there : (q n m : ℕ) (bs : List ℕ) → n ≡ m → number 256 (take n (drop q bs)) ≡ number_at bs q m
unfolding number_at
all_there q n m bs e = rw e

-- bytes that follow change nothing of a number that is there whole
pub number_before : (bs rest : List ℕ) (p n : ℕ) → p + n ≤ length bs → number_at (bs ++ rest) p n ≡ number_at bs p n
unfolding number_at
number_before bs rest p n h =
    ap (λ l. number 256 (take n l)) (drop-append-le p bs rest (omega arith)) ∙ ap (number 256) (take-append-le n (drop p bs) rest (rw length-drop (omega arith)))
