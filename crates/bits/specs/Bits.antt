-- Bits, words, digits and bytes: the words that every other definition is said in. Bits, digits, bytes and elements are numbered from 0, the lowest
-- or first of them. Every definition computes. Assumes nothing.
use Rattle.std.specs.Prelude.{ℕ, zero, suc, ◌+◌, ◌*◌, ◌/◌, ◌%◌, ◌^◌, ◌<◌, max, Bool, true, false, cond, ◌||◌, List, [], ◌∷◌, ◌++◌, get_or, take, drop, eqb}

-- ---- below a bound

-- some index below n passes f
unfoldable pub some : ℕ → (ℕ → Bool) → Bool
some zero f = false
some (suc n) f = f n || some n f

-- the first index that passes f, or n where none below n does
unfoldable pub first : ℕ → (ℕ → Bool) → ℕ
first zero f = 0
first (suc n) f = cond (f 0) 0 (suc (first n (λ k. f (suc k))))

-- f 0 + f 1 + .. , n of them
unfoldable pub sum : ℕ → (ℕ → ℕ) → ℕ
sum zero f = 0
sum (suc n) f = f n + sum n f

-- the greatest of f 0, f 1, .. , n of them, or 0
unfoldable pub most : ℕ → (ℕ → ℕ) → ℕ
most zero f = 0
most (suc n) f = max (f n) (most n f)

-- f 0, f 1, .. , n of them in that order
unfoldable pub list : {A : Type 0} → ℕ → (ℕ → A) → List A
list zero f = []
list (suc n) f = list n f ++ (f n ∷ [])

-- ---- bits of a number

-- 1 for true, 0 for false
abbrev pub num : Bool → ℕ
num true = 1
num false = 0

-- bit p of x is 1
unfoldable pub has : ℕ → ℕ → Bool
has x p = eqb (x / 2 ^ p % 2) 1

-- the number whose bits below n are f's, and whose others are 0
unfoldable pub word : ℕ → (ℕ → Bool) → ℕ
word zero f = 0
word (suc n) f = num (f n) * 2 ^ n + word n f

-- m such numbers: bit j of number i is f i j
unfoldable pub words : ℕ → ℕ → (ℕ → ℕ → Bool) → List ℕ
words m n f = list m (λ i. word n (f i))

-- ---- bits of a list of bytes

-- bit p of the bytes is 1: bit p mod 8 of byte p / 8
unfoldable pub at : List ℕ → ℕ → Bool
at bs p = has (get_or bs (p / 8) 0) (p % 8)

-- the m bytes whose bits are f's
unfoldable pub bytes : ℕ → (ℕ → Bool) → List ℕ
bytes m f = words m 8 (λ i k. f (8 * i + k))

-- ---- digits to a base: bytes are digits to 256, counters of width w are digits to 2 ^ w

-- the number whose digits to the base b are ds, the lowest first
unfoldable pub number : ℕ → List ℕ → ℕ
number b [] = 0
number b (d ∷ ds) = number b ds * b + d

-- the n lowest digits of x to the base b, the lowest first
unfoldable pub digits : ℕ → ℕ → ℕ → List ℕ
digits b zero x = []
digits b (suc n) x = x % b ∷ digits b n (x / b)

-- the number of the n bytes from place p on, the lowest first; a byte that is not there adds nothing
unfoldable pub number_at : List ℕ → ℕ → ℕ → ℕ
number_at bs p n = number 256 (take n (drop p bs))

-- every element is below b
abbrev pub Below : ℕ → List ℕ → Type 0
Below b ds = (i : ℕ) → get_or ds i 0 < b
