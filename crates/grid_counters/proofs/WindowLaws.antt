-- Laws of a part of a number's digits, and of the bits past the last counter. Assumes nothing.
use mathlib.Core.Path.{◌≡◌, refl, sym, ap, ◌∙◌}
use mathlib.Core.List.{List, [], ◌∷◌}
use Prim.Native.Nat.{ℕ, zero, suc, ◌+◌, ◌*◌, ◌/◌, ◌%◌, ◌^◌, ◌-◌, ◌<◌, ◌≤◌}
use native.Mathlib.Nat.{pow-zero, pow-suc, div-lt_iff_lt-mul, mul_assoc, mul-add-mod_self_right, zero-mul, add-mul, one-mul, div-eq_of_lt, mul-one, div-add-mod}
use native.Mathlib.Omega.{arith}
use native.Mathlib.Decide.{dec_lt}
use borrow.Author.Tests.{eq-eqb, ne_eqb, lt-ltb, le-ltb}
use lib.Dec.{eqb, ltb}
use lib.ListN.{length, get_or, take, drop, drop_of_length-le}
use lib.Pow.{pow_pos, pow-add, shr-shr, field}
use Rattle.bits.specs.Bits.{number, Below}
use Rattle.bits.proofs.DigitLaws.{number_drop, number_step, pow_mul}
use Rattle.rdis.specs.Packing.{bytes_for, spare_clear}

-- ---- a window of digits

-- w bits from bit r on do not see what stands at bit k or above
field_low : (x v k w r : ℕ) → w + r ≤ k → (x * 2 ^ k + v) / 2 ^ r % 2 ^ w ≡ v / 2 ^ r % 2 ^ w
field_low x v k w r h =
    rw (← field (x * 2 ^ k + v) w r, ← field v w r)
    (ap (λ m. m / 2 ^ r)
    (ap (λ m. (m + v) % 2 ^ (w + r)) (ap (λ m. x * m) high ∙ sym (mul_assoc x (2 ^ (k - (w + r))) (2 ^ (w + r))))
    ∙ mul-add-mod_self_right (x * 2 ^ (k - (w + r))) (2 ^ (w + r)) v))
  where
    high : 2 ^ k ≡ 2 ^ (k - (w + r)) * 2 ^ (w + r)
    high = ap (λ m. 2 ^ m) (omega arith) ∙ pow-add 2 (k - (w + r)) (w + r)

-- from bit p on: from digit p / a on, and then from its bit p % a on
from_digit : (a p : ℕ) (ds : List ℕ) → Below (2 ^ a) ds → number (2 ^ a) ds / 2 ^ p ≡ number (2 ^ a) (drop (p / a) ds) / 2 ^ (p % a)
from_digit a p ds h =
    ap (λ m. number (2 ^ a) ds / 2 ^ m) (sym (div-add-mod p a))
    ∙ sym (shr-shr (number (2 ^ a) ds) (a * (p / a)) (p % a))
    ∙ ap (λ m. m / 2 ^ (p % a)) (ap (λ m. number (2 ^ a) ds / m) (sym (pow_mul a (p / a))) ∙ number_drop (2 ^ a) (p / a) ds h)

number_split : (b j : ℕ) (ds : List ℕ) → number b ds ≡ number b (drop j ds) * b ^ j + number b (take j ds)
unfolding number
number_split b zero ds = omega (arith, rw (← pow-zero b) at (mul-one (number b ds)))
number_split b (suc j) [] = omega (arith, zero-mul (b ^ suc j))
number_split b (suc j) (d ∷ ds) = ap (λ m. m * b + d) (number_split b j ds) ∙ rw (add-mul, pow-suc, mul_assoc) (omega arith)

-- j digits from digit p / a on have the k bits from bit p on
pub window : (a p k j : ℕ) (ds : List ℕ) → Below (2 ^ a) ds → p % a + k ≤ a * j
    → number (2 ^ a) (take j (drop (p / a) ds)) / 2 ^ (p % a) % 2 ^ k ≡ number (2 ^ a) ds / 2 ^ p % 2 ^ k
window a p k j ds h l =
    sym
    (ap (λ m. m % 2 ^ k) (from_digit a p ds h ∙ ap (λ m. m / 2 ^ (p % a)) (number_split (2 ^ a) j (drop (p / a) ds) ∙ rw pow_mul))
    ∙ field_low (number (2 ^ a) (drop j (drop (p / a) ds))) (number (2 ^ a) (take j (drop (p / a) ds))) (a * j) k (p % a) (omega arith))

-- ---- the spare bits

quotient_test : (x : ℕ) {m : ℕ} → 0 < m → eqb (x / m) 0 ≡ ltb x m
quotient_test x {m} p =
    elim (dec_lt x m) [
      | yes h ↦ eq-eqb (x / m) 0 (div-eq_of_lt h) ∙ sym (lt-ltb x m h)
      | no h ↦ ne_eqb (x / m) 0 (λ e. h (rw one-mul at ((div-lt_iff_lt-mul {k = m} {x = x} {y = 1} p).0 (omega arith)))) ∙ sym (le-ltb x m (omega arith))
    ]

number_none : (b : ℕ) → number b [] ≡ 0
unfolding number
number_none b = refl

pub spare_read : (w n : ℕ) (bs : List ℕ) → length bs ≡ bytes_for w n → Below 256 bs → eqb (get_or bs (w * n / 8) 0 / 2 ^ (w * n % 8)) 0 ≡ spare_clear w n bs
unfolding spare_clear bytes_for
spare_read w n bs l h =
    ap (λ x. eqb x 0) (sym (from_digit 8 (w * n) bs h ∙ ap (λ x. x / 2 ^ (w * n % 8)) last)) ∙ quotient_test (number 256 bs) (pow_pos (w * n))
  where
    none : number 256 (drop (suc (w * n / 8)) bs) ≡ 0
    none = rw (drop_of_length-le bs {i = suc (w * n / 8)} (omega arith)) (number_none 256)

    last : number 256 (drop (w * n / 8) bs) ≡ get_or bs (w * n / 8) 0
    last = omega (arith, none, number_step 256 (w * n / 8) bs)
