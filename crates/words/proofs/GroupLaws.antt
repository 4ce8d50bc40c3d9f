-- Laws of the bits of a word that stand in groups. Assumes nothing.
use Prim.Native.Nat.{ℕ, ◌+◌, ◌*◌, ◌/◌, ◌%◌, ◌<◌}
use mathlib.Core.Path.{◌≡◌, ap, ◌∙◌}
use mathlib.Core.Bool.{Bool, ◌&&◌}
use lib.Arith.{digits_div, digits_mod}
use lib.Dec.{ltb}
use Rattle.bits.specs.Bits.{has, word}
use Rattle.bits.proofs.BitLaws.{has_word}

-- the lowest n bits of x stand in groups of g, a group at every d places, with 0 between; and groups put side by side are the bits f
abbrev pub Grouped : ℕ → ℕ → ℕ → (ℕ → Bool) → ℕ → Type 0
Grouped n d g f x = (p : ℕ) → p < n → has x p ≡ (ltb (p % d) g && f (p / d * g + p % d))

-- a bit of the mask of groups of h at every b places
pub mask_bit : (n b h m : ℕ) → m ≡ word n (λ p. ltb (p % b) h) → (p : ℕ) → p < n → has m p ≡ ltb (p % b) h
mask_bit n b h m mask p l = ap (λ y. has y p) mask ∙ has_word n (λ p. ltb (p % b) h) p l

-- a number by its quotient and its remainder
pub part : (d x q r : ℕ) → r < d → x ≡ q * d + r → (x / d ≡ q) × (x % d ≡ r)
part d x q r h e = rw e (digits_div q h, digits_mod q h)
