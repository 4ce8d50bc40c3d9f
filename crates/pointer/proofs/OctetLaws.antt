-- What the operations on single bytes do to their bits, and to the bits of the list in which they stand. Assumes nothing.
use mathlib.Core.Path.{◌≡◌, refl, sym, ap, ap₂, ◌∙◌}
use mathlib.Core.Bool.{Bool, true, false, not, xor, cond, ◌&&◌, ◌||◌}
use mathlib.Core.List.{List, [], ◌∷◌, ◌++◌}
use mathlib.Core.Logic.{◌≢◌}
use Prim.Native.Nat.{ℕ, ◌+◌, ◌*◌, ◌/◌, ◌%◌, ◌^◌, ◌<◌}
use native.Mathlib.Omega.{arith}
use native.Mathlib.Numerals.{add-one}
use native.Mathlib.Decide.{ℕ_discrete}
use borrow.Author.Tests.{eqb-true, eq-eqb, ne_eqb}
use lib.Bits.{bit_and, bit_or, bit_xor}
use lib.Dec.{eqb}
use lib.ListN.{length, get_or, set}
use lib.Seq.{get_or-set_same, get_or-set_other}
use Rattle.bits.specs.Bits.{list, has, at}
use Rattle.bits.proofs.TestLaws.{same_test, eqb_same, xor_true, xor_false, xor_twice}
use Rattle.bits.proofs.BitLaws.{has_and, has_or, has_xor, has_one, has_ext, one_shl_in}
use Rattle.pointer_promises.specs.Pointer.{pointer, replacement, entry}

-- what is taken away bit by bit
without : (a b : Bool) → xor a (a && b) ≡ a && not b
unfolding xor
without true true = refl
without true false = refl
without false b = refl

-- `x | (1 << k)` and `x ^ (x & (1 << k))`
bit_set : (x k j : ℕ) → k < 8 → has (bit_or x (1 * 2 ^ k % 2 ^ 8)) j ≡ cond (eqb k j) true (has x j)
bit_set x k j h = has_or x (1 * 2 ^ k % 2 ^ 8) j ∙ ap (λ y. has x j || has y j) (one_shl_in 8 k h) ∙ ap (λ t. has x j || t) (has_one k j) ∙ go (has x j) (eqb k j)
  where
    go : (a b : Bool) → a || b ≡ cond b true a
    go true true = refl
    go true false = refl
    go false true = refl
    go false false = refl

bit_cleared : (x k j : ℕ) → k < 8 → has (bit_xor x (bit_and x (1 * 2 ^ k % 2 ^ 8))) j ≡ cond (eqb k j) false (has x j)
bit_cleared x k j h =
    has_xor x (bit_and x (1 * 2 ^ k % 2 ^ 8)) j
    ∙ ap (xor (has x j)) (has_and x (1 * 2 ^ k % 2 ^ 8) j ∙ ap (λ y. has x j && has y j) (one_shl_in 8 k h) ∙ ap (λ t. has x j && t) (has_one k j))
    ∙ without (has x j) (eqb k j) ∙ go (has x j) (eqb k j)
  where
    go : (a b : Bool) → a && not b ≡ cond b false a
    go true true = refl
    go true false = refl
    go false true = refl
    go false false = refl

-- the bit that an entry shows is its tenth
pub tenth : (e : ℕ) → eqb (e / 512 % 2) 1 ≡ replacement e
unfolding has
tenth e = refl

-- the byte of an entry's position, with the bit that it shows
shown_bit : (b e j : ℕ) (t : Bool) → eqb (e / 512 % 2) 1 ≡ t → cond (eqb (e % 8) j) t (has b j) ≡ cond (eqb (pointer e % 8) j) (replacement e) (has b j)
shown_bit b e j t h = let k : e % 8 ≡ pointer e % 8 = omega arith in ap₂ (λ k t. cond (eqb k j) t (has b j)) k (sym h ∙ tenth e)

pub shown_one : (b e j : ℕ) → e / 512 % 2 ≡ 1 → has (bit_or b (1 * 2 ^ (e % 8) % 2 ^ 8)) j ≡ cond (eqb (pointer e % 8) j) (replacement e) (has b j)
shown_one b e j h = bit_set b (e % 8) j (omega arith) ∙ shown_bit b e j true (eq-eqb (e / 512 % 2) 1 h)

pub shown_zero : (b e j : ℕ) → e / 512 % 2 ≢ 1 → has (bit_xor b (bit_and b (1 * 2 ^ (e % 8) % 2 ^ 8))) j ≡ cond (eqb (pointer e % 8) j) (replacement e) (has b j)
shown_zero b e j h = bit_cleared b (e % 8) j (omega arith) ∙ shown_bit b e j false (ne_eqb (e / 512 % 2) 1 h)

-- a byte that is the same with its bit k set had it
pub set_before : (b v k : ℕ) → b < 256 → v < 256 → ((j : ℕ) → has v j ≡ cond (eqb k j) true (has b j)) → eqb b v ≡ has b k
set_before b v k lb lv h =
    same_test (eqb b v) (has b k) (λ t. ap (λ y. has y k) (eqb-true b v t) ∙ h k ∙ ap (λ t. cond t true (has b k)) (eqb_same k))
    (λ t. eq-eqb b v (has_ext 8 b v lb lv (λ j _. go t j (eqb k j) refl ∙ sym (h j))))
  where
    go : has b k ≡ true → (j : ℕ) (s : Bool) → eqb k j ≡ s → has b j ≡ cond (eqb k j) true (has b j)
    go t j true e = rw e (ap (has b) (sym (eqb-true k j e)) ∙ t)
    go t j false e = rw e

-- `w ^ (m & (w ^ v))`: v where m, else w
pub bit_chosen : (w m v k : ℕ) → has (bit_xor w (bit_and m (bit_xor w v))) k ≡ cond (has m k) (has v k) (has w k)
bit_chosen w m v k =
    has_xor w (bit_and m (bit_xor w v)) k ∙ ap (xor (has w k)) (has_and m (bit_xor w v) k ∙ ap (λ t. has m k && t) (has_xor w v k)) ∙ go (has w k) (has m k) (has v k)
  where
    go : (w m v : Bool) → xor w (m && xor w v) ≡ cond m v w
    go w true v = xor_twice w v
    go true false v = xor_true false
    go false false v = xor_false false

-- `u ^ (u & s)` where u is `m & (w ^ v)`: m, w other than v, and not s
pub bit_unserved : (w m v s k : ℕ) → has (bit_xor (bit_and m (bit_xor w v)) (bit_and (bit_and m (bit_xor w v)) s)) k ≡ has m k && xor (has w k) (has v k) && not (has s k)
bit_unserved w m v s k =
    let u : ℕ = bit_and m (bit_xor w v) in
    has_xor u (bit_and u s) k ∙ ap (xor (has u k)) (has_and u s k) ∙ without (has u k) (has s k)
    ∙ ap (λ t. t && not (has s k)) (has_and m (bit_xor w v) k ∙ ap (λ t. has m k && t) (has_xor w v k))

-- a byte of a list is replaced by one that has b at bit p mod 8 and is the same elsewhere
pub at_changed : (xs : List ℕ) (p q v : ℕ) (b : Bool) → p / 8 < length xs → ((j : ℕ) → has v j ≡ cond (eqb (p % 8) j) b (has (get_or xs (p / 8) 0) j))
    → at (set xs (p / 8) v) q ≡ cond (eqb p q) b (at xs q)
unfolding at
at_changed xs p q v b l h = go (ℕ_discrete (q / 8) (p / 8))
  where
    same : q / 8 ≡ p / 8 → eqb (p % 8) (q % 8) ≡ eqb p q
    same e =
        same_test (eqb (p % 8) (q % 8)) (eqb p q) (λ t. let r : p % 8 ≡ q % 8 = eqb-true (p % 8) (q % 8) t in eq-eqb p q (omega arith))
        (λ t. let r : p ≡ q = eqb-true p q t in eq-eqb (p % 8) (q % 8) (omega arith))

    go : Dec (q / 8 ≡ p / 8) → has (get_or (set xs (p / 8) v) (q / 8) 0) (q % 8) ≡ cond (eqb p q) b (has (get_or xs (q / 8) 0) (q % 8))
    go (yes e) = rw (e, get_or-set_same xs (p / 8) v 0 l, h (q % 8), same e)
    go (no e) = rw (get_or-set_other xs (p / 8) (q / 8) v 0 e, ne_eqb p q (λ r. e (omega arith)))

-- ---- entry by entry

-- one entry of the metadata m more
pub one_more_lem : (m : List ℕ) (i e : ℕ) → e ≡ entry m i → list (i + 1) (entry m) ≡ list i (entry m) ++ (e ∷ [])
unfolding list
one_more_lem m i e h = ap (λ x. list x (entry m)) (add-one i) ∙ ap (λ x. list i (entry m) ++ (x ∷ [])) (sym h)
