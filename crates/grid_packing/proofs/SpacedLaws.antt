-- Laws of bits that stand at every d places, with 0 between: where they are after a move, and which of them is at a place. Assumes nothing.
use Prim.Native.Nat.{ℕ, zero, suc, ◌+◌, ◌-◌, ◌*◌, ◌/◌, ◌%◌, ◌^◌, ◌≤◌, ◌<◌}
use mathlib.Core.Path.{◌≡◌, refl, sym, ap, ◌∙◌}
use mathlib.Core.Bool.{Bool, false, ◌&&◌, ◌||◌, or-false}
use mathlib.Core.Logic.{⊎_elim}
use native.Mathlib.Nat.{mod-lt, mod-eq_of_lt, div-add-mod, mul_comm, zero-mul, suc-mul}
use native.Mathlib.Omega.{arith}
use borrow.Author.Tests.{eq-eqb, ne_eqb, le-ltb}
use lib.Dec.{eqb, ltb}
use lib.Pow.{pow_pos}
use Rattle.bits.specs.Bits.{has, word}
use Rattle.bits.proofs.TestLaws.{lt_or_le}
use Rattle.bits.proofs.BitLaws.{has_high, has_word, word_lt, none_high}
use Rattle.grid_packing.specs.Steps.{spaced}
use Rattle.words.proofs.ShiftLaws.{moved_low, moved_high}
use Rattle.words.proofs.GroupLaws.{part}

below_one : (x : ℕ) → ltb x 1 ≡ eqb x 0
below_one zero = refl
below_one (suc x) = le-ltb (suc x) 1 (omega arith) ∙ sym (ne_eqb (suc x) 0 (λ e. absurd (omega arith)))

module _ (d n x v : ℕ) where
  pub spaced_bit : x ≡ word n (spaced d v) → (p : ℕ) → p < n → has x p ≡ (eqb (p % d) 0 && has v (p / d))
  spaced_bit e p l = ap (λ y. has y p) e ∙ has_word n (spaced d v) p l ∙ ap (λ t. t && has v (p / d)) (below_one (p % d))

  -- moved up by q places, less than stand between two of them, they are at place q of every d
  pub spaced_moved : n ≤ 64 → x ≡ word n (spaced d v) → (p : ℕ) → p < n → (q : ℕ) → q < d → has (x * 2 ^ q % 2 ^ 64) p ≡ (eqb (p % d) q && has v (p / d))
  spaced_moved short e p l q h = ⊎_elim low high (lt_or_le p q)
    where
      here : p ≡ p / d * d + p % d
      here = omega (arith, div-add-mod p d, mul_comm d (p / d))

      group : p % d < d
      group = mod-lt p (omega arith)

      none : (p % d ≡ q → ⊥) → false ≡ (eqb (p % d) q && has v (p / d))
      none f = ap (λ t. t && has v (p / d)) (sym (ne_eqb (p % d) q f))

      low : p < q → has (x * 2 ^ q % 2 ^ 64) p ≡ (eqb (p % d) q && has v (p / d))
      low k = let near : p < d = omega arith in moved_low x q p k (omega arith) ∙ none (λ z. omega (arith, mod-eq_of_lt near))

      -- the place before the move, which is place a of group t
      was : (t a : ℕ) → a < d → p - q ≡ t * d + a → has x (p - q) ≡ (eqb a 0 && has v t)
      was t a k s = let (y, z) = part d (p - q) t a k s in spaced_bit e (p - q) (omega arith) ∙ rw (y, z)

      other : (t a : ℕ) → a < d → 0 < a → p - q ≡ t * d + a → (p % d ≡ q → ⊥) → has x (p - q) ≡ (eqb (p % d) q && has v (p / d))
      other t a k o s f = was t a k s ∙ ap (λ b. b && has v t) (ne_eqb a 0 (λ z. omega arith)) ∙ none f

      before : (t : ℕ) → t ≡ p / d → q ≤ p → p % d < q → has x (p - q) ≡ (eqb (p % d) q && has v (p / d))
      before zero z k o = absurd (omega (arith, here, ap (λ y. y * d) z, zero-mul d))
      before (suc t) z k o =
          other t (d + p % d - q) (omega arith) (omega arith) (omega (arith, here, ap (λ y. y * d) z, suc-mul t d)) (λ y. omega arith)

      high : q ≤ p → has (x * 2 ^ q % 2 ^ 64) p ≡ (eqb (p % d) q && has v (p / d))
      high k =
          moved_high x q p k (omega arith)
          ∙ ⊎_elim (before (p / d) refl k)
          (λ o. ⊎_elim
          (λ r. other (p / d) (p % d - q) (omega (arith, group)) (omega arith) (omega (arith, here)) (λ y. omega arith))
          (λ r. let same : p % d ≡ q = omega arith in
          was (p / d) 0 (omega arith) (omega (arith, here)) ∙ ap (λ b. b && has v (p / d)) (sym (eq-eqb (p % d) q same))) (lt_or_le q (p % d))) (lt_or_le (p % d) q)

-- 16 bits at every third place stay within 48 places, moved by less than three
pub thirds_inside : (x v : ℕ) → x ≡ word 48 (spaced 3 v) → (q : ℕ) → q < 3 → x * 2 ^ q % 2 ^ 64 < 2 ^ 48
thirds_inside x v e q h =
    none_high 64 48 (x * 2 ^ q % 2 ^ 64) (mod-lt _ (pow_pos 64)) (λ p l. ⊎_elim (inside p l) (has_high 64 (x * 2 ^ q % 2 ^ 64) p (mod-lt _ (pow_pos 64))) (lt_or_le p 64))
  where
    inside : (p : ℕ) → 48 ≤ p → p < 64 → has (x * 2 ^ q % 2 ^ 64) p ≡ false
    inside p l k =
        moved_high x q p (omega arith) k
        ∙ ⊎_elim (λ o. spaced_bit 3 48 x v e (p - q) o ∙ ap (λ t. t && has v ((p - q) / 3)) (ne_eqb ((p - q) % 3) 0 (λ z. omega arith)))
        (λ o. ap (λ y. has y (p - q)) e ∙ has_high 48 (word 48 (spaced 3 v)) (p - q) (word_lt 48 _) o) (lt_or_le (p - q) 48)

-- of bits of which each stands at its own place, the one at place a
pub pick_two : (a : ℕ) → a < 2 → (g : ℕ → Bool) → ((eqb a 1 && g 1) || (eqb a 0 && g 0)) ≡ g a
pick_two zero h g = refl
pick_two (suc zero) h g = or-false (g 1)
pick_two (suc (suc a)) h g = absurd (omega arith)

pub pick_three : (a : ℕ) → a < 3 → (g : ℕ → Bool) → ((eqb a 2 && g 2) || ((eqb a 1 && g 1) || (eqb a 0 && g 0))) ≡ g a
pick_three zero h g = refl
pick_three (suc zero) h g = or-false (g 1)
pick_three (suc (suc zero)) h g = or-false (g 2)
pick_three (suc (suc (suc a))) h g = absurd (omega arith)
