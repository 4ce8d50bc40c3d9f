-- The word of the lowest bits: what it is in its two cases, and what it lets through as a mask. Assumes nothing.
use mathlib.Core.Path.{◌≡◌, sym, ap, ◌∙◌}
use mathlib.Core.Bool.{true}
use Prim.Native.Nat.{ℕ, ◌-◌, ◌^◌, ◌≤◌, ◌<◌, min}
use native.Mathlib.Omega.{arith}
use Rattle.bits.specs.Bits.{has, word}
use Rattle.bits.proofs.BitLaws.{has_word, word_lt, word_ones}

pub low_some : (n r : ℕ) → n < 64 → r ≡ 2 ^ n → r - 1 ≡ word (min n 64) (λ _. true)
low_some n r h e = let m : min n 64 ≡ n = omega arith in rw (m, e) (sym (word_ones n))

pub low_all : (n : ℕ) → 64 ≤ n → 18446744073709551615 ≡ word (min n 64) (λ _. true)
low_all n h = let m : min n 64 ≡ 64 = omega arith in rw m (sym (word_ones 64))

module _ (n mask : ℕ) (few : n ≤ 64) (m : mask ≡ word (min n 64) (λ _. true)) where
  low_word : mask ≡ word n (λ _. true)
  low_word = let all : min n 64 ≡ n = omega arith in m ∙ ap (λ y. word y (λ _. true)) all

  pub low_lt : mask < 2 ^ n
  low_lt = rw low_word (word_lt n (λ _. true))

  pub low_has : (i : ℕ) → i < n → has mask i ≡ true
  low_has i l = ap (λ y. has y i) low_word ∙ has_word n (λ _. true) i l
