-- Laws of metadata as it stands: its entries, the active ones, and its spare bits. Assumes nothing.
use mathlib.Core.Path.{◌≡◌, ap}
use mathlib.Core.Bool.{Bool, true, false, not, cond, ◌&&◌}
use mathlib.Core.List.{List}
use mathlib.Core.Logic.{◌≢◌, ⊎_elim}
use Prim.Native.Nat.{ℕ, ◌+◌, ◌-◌, ◌*◌, ◌^◌, ◌≤◌, ◌<◌}
use native.Mathlib.Omega.{arith}
use borrow.Author.Tests.{le-leb, eq-eqb, ne_eqb, not-true}
use lib.Dec.{eqb, ltb, leb}
use lib.ListN.{length, get_or}
use lib.Pow.{pow_mono, pow_pos}
use Rattle.bits.specs.Bits.{num, sum, has, at}
use Rattle.bits.proofs.TestLaws.{true_or_false, eqb_iff, iff_stable, clash, and_in}
use Rattle.bits.proofs.BoundLaws.{none_below, sum_num_le, length_list, get_or_list}
use Rattle.bits.proofs.BitLaws.{has_word, word_lt, is_word, has_ones}
use Rattle.pointer_promises.specs.Pointer.{entry, active, unary, idle, formed, held}

pub has_entry : (m : List ℕ) (e k : ℕ) → k < 10 → has (entry m e) k ≡ at m (1 + 10 * e + k)
unfolding entry
has_entry m e k h = has_word 10 (λ k. at m (1 + 10 * e + k)) k h

pub entry_lt : (m : List ℕ) (e : ℕ) → entry m e < 1024
unfolding entry
entry_lt m e = word_lt 10 (λ k. at m (1 + 10 * e + k))

-- ---- the count in unary

pub has_unary : (a k : ℕ) → k < 10 → has (unary a) k ≡ ltb k a
unfolding unary
has_unary a k h = has_word 10 (λ k. ltb k a) k h

unary_lt : (a : ℕ) → unary a < 1024
unfolding unary
unary_lt a = word_lt 10 (λ k. ltb k a)

-- `(1 << a) - 1`
pub unary_ones : (a : ℕ) → a ≤ 10 → 2 ^ a - 1 ≡ unary a
unfolding unary
unary_ones a h = is_word 10 (2 ^ a - 1) (λ k. ltb k a) (omega (arith, pow_mono h, pow_pos a)) (λ j _. has_ones a j)

-- ---- what an entry that is not active holds, where a are

pub idle_lt : (n a e : ℕ) → idle n a e < 1024
unfolding idle
idle_lt n a e = go (eqb (e + 1) n)
  where
    go : (t : Bool) → cond t (unary a) 0 < 1024
    go true = unary_lt a
    go false = omega arith

pub idle_last : (n a e : ℕ) → e + 1 ≡ n → idle n a e ≡ unary a
unfolding idle
idle_last n a e h = rw (eq-eqb (e + 1) n h)

pub idle_other : (n a e : ℕ) → e + 1 ≢ n → idle n a e ≡ 0
unfolding idle
idle_other n a e h = rw (ne_eqb (e + 1) n h)

-- ---- the active entries

pub active_full : (n : ℕ) (m : List ℕ) → at m 0 ≡ true → active n m ≡ n
unfolding active
active_full n m h = ap (λ t. cond t n (sum (n - 1) (λ k. num (has (entry m (n - 1)) k)))) h

pub active_unary : (n : ℕ) (m : List ℕ) → at m 0 ≡ false → active n m ≡ sum (n - 1) (λ k. num (has (entry m (n - 1)) k))
unfolding active
active_unary n m h = ap (λ t. cond t n (sum (n - 1) (λ k. num (has (entry m (n - 1)) k)))) h

pub active_part : (n : ℕ) (m : List ℕ) → 1 ≤ n → at m 0 ≡ false → active n m < n
active_part n m l h = omega (arith, active_unary n m h, sum_num_le (n - 1) (has (entry m (n - 1))))

pub active_le : (n : ℕ) (m : List ℕ) → 1 ≤ n → active n m ≤ n
active_le n m l = ⊎_elim (λ h. omega (arith, active_full n m h)) (λ h. omega (arith, active_part n m l h)) (true_or_false (at m 0))

pub length_held : (n : ℕ) (m : List ℕ) → length (held n m) ≡ active n m
unfolding held
length_held n m = length_list (active n m) (entry m)

pub get_or_held : (n : ℕ) (m : List ℕ) (e : ℕ) → e < active n m → get_or (held n m) e 0 ≡ entry m e
unfolding held
get_or_held n m e h = get_or_list (active n m) (entry m) 0 e h

-- an entry that is not active holds what it should
pub formed_idle : (n : ℕ) (m : List ℕ) → formed n m ≡ true → (e : ℕ) → active n m ≤ e → e < n → entry m e ≡ idle n (active n m) e
unfolding formed
formed_idle n m h e k l = equal _ _ _ (none_below n _ (not-true _ h) e l) (omega arith)
  where
    equal : (x a b : ℕ) → leb x e && not (eqb a b) ≡ false → x ≤ e → a ≡ b
    equal x a b q g = iff_stable _ (eqb_iff a b) (λ z. clash (and_in (le-leb x e g) (ap not (ne_eqb a b z))) q)
