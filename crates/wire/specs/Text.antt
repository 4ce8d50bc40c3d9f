-- Text as ASCII codes: numbers in decimal and in hexadecimal digits, and how text is put into a buffer. Assumes nothing.
use Rattle.std.specs.Prelude.{◌≡◌, cond, List, [], ◌∷◌, ◌++◌, ℕ, zero, suc, ◌+◌, ◌-◌, ◌/◌, ◌%◌, ltb, length, take, drop}

-- the ASCII code of a digit below 16: 0 to 9, then a to f
abbrev pub hex_digit_ascii : ℕ → ℕ
hex_digit_ascii d = cond (ltb d 10) (48 + d) (87 + d)

-- the last k digits of n in base b, the highest first
abbrev pub last_digits : ℕ → ℕ → ℕ → List ℕ
last_digits b zero n = []
last_digits b (suc k) n = last_digits b k (n / b) ++ (hex_digit_ascii (n % b) ∷ [])

-- the last n digits of x to the base 16, the highest first
unfoldable pub hex_of : ℕ → ℕ → List ℕ
hex_of n x = last_digits 16 n x

-- x in decimal, the highest digit first, where f digits suffice
unfoldable pub decimals : ℕ → ℕ → List ℕ
decimals zero x = []
decimals (suc f) x = cond (ltb x 10) (hex_digit_ascii x ∷ []) (decimals f (x / 10) ++ (hex_digit_ascii (x % 10) ∷ []))

-- every number of 64 bits has at most 20 digits
abbrev pub decimal : ℕ → List ℕ
decimal = decimals 20

-- as much of a text as there is room for from place p of a buffer on
unfoldable pub fitting : List ℕ → List ℕ → ℕ → List ℕ
fitting text buffer p = take (length buffer - p) text

-- a text was put at place p of a buffer, as much of it as there was room for: it ends at place q, and the rest of the buffer is as it was
pub record Put (text before : List ℕ) (p : ℕ) (after : List ℕ) (q : ℕ) : Type 0 where
  pub end : q ≡ p + length (fitting text before p)
  pub holds : after ≡ take p before ++ (fitting text before p ++ drop q before)
