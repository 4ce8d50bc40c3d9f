-- Laws of a number and its digits, in any base, and of digits to a power of two and their bits. Assumes nothing.
use mathlib.Core.Path.{◌≡◌, refl, sym, ap, ap₂, ◌∙◌}
use mathlib.Core.List.{List, [], ◌∷◌, ◌++◌}
use Prim.Native.Nat.{ℕ, zero, suc, ◌+◌, ◌*◌, ◌/◌, ◌%◌, ◌^◌, ◌<◌}
use native.Mathlib.Nat.{pow-zero, pow-suc, pow-succ', div-one, zero-div, mod-lt, mul-zero, mul-one, mul-suc, mul_assoc, add-mul, div-add-mod', div-lt_iff_lt-mul, div-div-eq-div-mul, zero-mul, div-add-mod}
use native.Mathlib.Omega.{arith}
use lib.ListN.{length, get_or, take, drop}
use lib.Arith.{digits_lt, digits_div, digits_mod}
use lib.Pow.{pow_pos, pow-add}
use lib.Dec.{lit<}
use Rattle.bits.specs.Bits.{list, has, at, number, digits, Below}
use Rattle.bits.proofs.BoundLaws.{length_list, get_or_list}
use Rattle.bits.proofs.BitLaws.{has_low, has_shr}
use Rattle.bits.proofs.ByteLaws.{below_all}

-- ---- there and back

pub number_lt : (b : ℕ) (ds : List ℕ) → Below b ds → number b ds < b ^ length ds
unfolding number
number_lt b [] h = rw pow-zero (lit< tt)
number_lt b (d ∷ ds) h = rw pow-suc (digits_lt (number_lt b ds (λ i. h (suc i))) (h 0))

pub digits_number : (b : ℕ) (ds : List ℕ) → Below b ds → digits b (length ds) (number b ds) ≡ ds
unfolding number digits
digits_number b [] h = refl
digits_number b (d ∷ ds) h = ap₂ ◌∷◌ (digits_mod (number b ds) (h 0)) (ap (digits b (length ds)) (digits_div (number b ds) (h 0)) ∙ digits_number b ds (λ i. h (suc i)))

pub number_digits : (b n x : ℕ) → 0 < b → x < b ^ n → number b (digits b n x) ≡ x
unfolding number digits
number_digits b zero x p h = omega (arith, pow-zero b)
number_digits b (suc n) x p h = rw (number_digits b n (x / b) p ((div-lt_iff_lt-mul p).1 (rw pow-suc at h))) (div-add-mod' x b)

-- ---- the digits one by one

pub length_digits : (b n x : ℕ) → length (digits b n x) ≡ n
unfolding digits
length_digits b zero x = refl
length_digits b (suc n) x = ap suc (length_digits b n (x / b))

pub digits_below : (b n x : ℕ) → 0 < b → Below b (digits b n x)
unfolding digits
digits_below b zero x p i = p
digits_below b (suc n) x p zero = mod-lt x p
digits_below b (suc n) x p (suc i) = digits_below b n (x / b) p i

pub get_or_digits : (b n x i : ℕ) → i < n → get_or (digits b n x) i 0 ≡ x / b ^ i % b
unfolding digits
get_or_digits b zero x i h = absurd (omega arith)
get_or_digits b (suc n) x zero h = rw (pow-zero, div-one)
get_or_digits b (suc n) x (suc i) h = rw (pow-succ', ← div-div-eq-div-mul x b (b ^ i)) (get_or_digits b n (x / b) i (omega arith))

-- one digit more, at the top
pub digits_more : (b n x : ℕ) → digits b (suc n) x ≡ digits b n x ++ (x / b ^ n % b ∷ [])
unfolding digits
digits_more b zero x = rw (pow-zero, div-one)
digits_more b (suc n) x = ap (λ l. x % b ∷ l) (digits_more b n (x / b) ∙ rw (pow-succ', div-div-eq-div-mul x b (b ^ n)))

-- what stands from digit q on
pub number_drop : (b q : ℕ) (ds : List ℕ) → Below b ds → number b ds / b ^ q ≡ number b (drop q ds)
unfolding number
number_drop b zero ds h = rw (pow-zero, div-one)
number_drop b (suc q) [] h = rw zero-div
number_drop b (suc q) (d ∷ ds) h =
    rw (pow-succ', ← div-div-eq-div-mul (number b ds * b + d) b (b ^ q), digits_div (number b ds) (h 0)) (number_drop b q ds (λ i. h (suc i)))

-- it is digit q and what stands after it, also past the end
pub number_step : (b q : ℕ) (ds : List ℕ) → number b (drop q ds) ≡ number b (drop (suc q) ds) * b + get_or ds q 0
unfolding number
number_step b zero [] = omega (arith, zero-mul b)
number_step b (suc q) [] = omega (arith, zero-mul b)
number_step b zero (d ∷ ds) = refl
number_step b (suc q) (d ∷ ds) = number_step b q ds

-- the digits before digit j and digit j, also past the end
pub number_take : (b j : ℕ) (ds : List ℕ) → number b (take (suc j) ds) ≡ number b (take j ds) + get_or ds j 0 * b ^ j
unfolding number
number_take b zero [] = omega (arith, zero-mul (b ^ 0))
number_take b (suc j) [] = omega (arith, zero-mul (b ^ suc j))
number_take b zero (d ∷ ds) = omega (arith, zero-mul b, rw (← pow-zero b) at (mul-one d))
number_take b (suc j) (d ∷ ds) = rw (number_take b j ds, add-mul, pow-suc, mul_assoc) (omega arith)

pub digit_at : (b q : ℕ) (ds : List ℕ) → Below b ds → number b ds / b ^ q % b ≡ get_or ds q 0
digit_at b q ds h = ap (λ m. m % b) (number_drop b q ds h ∙ number_step b q ds) ∙ digits_mod (number b (drop (suc q) ds)) (h q)

-- ---- digits to a power of two, and bits

pub pow_mul : (w n : ℕ) → (2 ^ w) ^ n ≡ 2 ^ (w * n)
pow_mul w zero = rw (pow-zero, mul-zero)
pow_mul w (suc n) = rw (pow-suc, mul-suc, pow-add, pow_mul w n)

-- bit k of digit t to the base 2 ^ w is bit w * t + k of the number
pub digit_bit_lem : (w x t k : ℕ) → k < w → has (x / (2 ^ w) ^ t % 2 ^ w) k ≡ has x (w * t + k)
digit_bit_lem w x t k h = has_low w (x / (2 ^ w) ^ t) k h ∙ rw pow_mul (has_shr x (w * t) k)

-- bit k of digit t is bit w * t + k of the number that the digits make
pub digits_bit : (w t k : ℕ) (ds : List ℕ) → Below (2 ^ w) ds → k < w → has (number (2 ^ w) ds) (w * t + k) ≡ has (get_or ds t 0) k
digits_bit w t k ds h l = sym (digit_bit_lem w (number (2 ^ w) ds) t k l) ∙ ap (λ x. has x k) (digit_at (2 ^ w) t ds h)

-- z bits cut from bit s on out of digits of w bits: bit k of them
pub cut_bit : (w s z k : ℕ) (ds : List ℕ) → Below (2 ^ w) ds → 0 < w → k < z → has (number (2 ^ w) ds / 2 ^ s % 2 ^ z) k ≡ has (get_or ds ((s + k) / w) 0) ((s + k) % w)
cut_bit w s z k ds h p l =
    has_low z (number (2 ^ w) ds / 2 ^ s) k l ∙ has_shr (number (2 ^ w) ds) s k ∙ ap (has (number (2 ^ w) ds)) (sym (div-add-mod (s + k) w))
    ∙ digits_bit w ((s + k) / w) ((s + k) % w) ds h (mod-lt (s + k) p)

-- the same out of c of the digits f, from digit q on
pub window_bit : (w c q s z k : ℕ) (f : ℕ → ℕ) → ((i : ℕ) → i < c → f (q + i) < 2 ^ w) → 0 < w → k < z → (s + k) / w < c
    → has (number (2 ^ w) (list c (λ i. f (q + i))) / 2 ^ s % 2 ^ z) k ≡ has (f (q + (s + k) / w)) ((s + k) % w)
window_bit w c q s z k f h p l t =
    let g : ℕ → ℕ = λ i. f (q + i) in
    cut_bit w s z k (list c g) (below_all c (2 ^ w) (list c g) (pow_pos w) (length_list c g) (λ i j. rw (get_or_list c g 0 i j) (h i j))) p l
    ∙ ap (λ x. has x ((s + k) % w)) (get_or_list c g 0 ((s + k) / w) t)

-- bit p of bytes is bit p of the number that they make
pub byte_bit : (bs : List ℕ) (p : ℕ) → Below 256 bs → at bs p ≡ has (number 256 bs) p
unfolding at
byte_bit bs p h = sym (digits_bit 8 (p / 8) (p % 8) bs h (omega arith)) ∙ ap (has (number 256 bs)) (div-add-mod p 8)
